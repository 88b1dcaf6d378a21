-- `packed::packing::pack_word` meets its contract. The modules are taken from the last to the first.
-- Assumes nothing.
use mathlib.Core.Path.{◌≡◌, refl, sym, ap, ◌∙◌}
use Prim.Native.Nat.{ℕ, suc, ◌+◌, ◌-◌, ◌*◌}
use native.Mathlib.Omega.{arith}
use Rattle.standard.specs.Numbers.{from}
use Rattle.penalty.specs.Windows.{is}
use Rattle.packed.specs.Digits.{value}
use Rattle.packed.specs.Packs.{digit_at, at_lt, at_is, word_lt, word_more}
use Rattle.packed.proofs.packing.pack_word.Goals as goal

pub loop-i-init : goal.loop-i-init
unfolding value
loop-i-init c =
    let r = c.args in let f = digit_at r.free r.grid.now r.start r.step in
    (omega arith, sym (ap (λ (k : ℕ). value (from (r.first + r.n) k f)) (is (r.n - r.n) 0 (omega arith)) ∙ none (r.first + r.n) f))
  where
    none : (k : ℕ) (f : ℕ → ℕ) → value (from k 0 f) ≡ 0
    none k f = refl

pub overflow_mul-w : goal.overflow_mul-w
overflow_mul-w c =
    let r = c.args in let l = c.loop-i in
    omega (arith, l.invariant.1, word_lt (digit_at r.free r.grid.now r.start r.step) (at_lt r.free r.grid.now r.start r.step) (r.first + l.i) (r.n - l.i) 63 (omega arith))

pub overflow_add-w : goal.overflow_add-w
overflow_add-w c =
    let r = c.args in let l = c.loop-i in
    omega (
      arith,
      l.invariant.1,
      word_lt (digit_at r.free r.grid.now r.start r.step) (at_lt r.free r.grid.now r.start r.step) (r.first + l.i) (r.n - l.i) 63 (omega arith),
      c.digit_of.ensures.1,
    )

pub loop-i-preserved : goal.loop-i-preserved
loop-i-preserved c =
    let r = c.args in let a = c.loop-i in
    let f = digit_at r.free r.grid.now r.start r.step in let k = r.first + (a.i - 1) in (
      omega arith,
      ap (λ (x : ℕ). a.w * 2 + x) (c.digit_of.ensures.0 ∙ at_is r.free r.grid.now r.start r.step k)
          ∙ word_more f k (r.n - a.i) a.w (a.invariant.1 ∙ ap (λ (j : ℕ). value (from j (r.n - a.i) f)) (is (r.first + a.i) (suc k) (omega arith)))
          ∙ ap (λ (j : ℕ). value (from k j f)) (is (suc (r.n - a.i)) (r.n - (a.i - 1)) (omega arith)),
    )
