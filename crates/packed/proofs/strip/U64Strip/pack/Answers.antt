-- `packed::strip::U64Strip::pack` meets its contract.
-- Assumes nothing.
use mathlib.Core.Path.{sym, ap, ◌∙◌}
use Prim.Native.Nat.{ℕ, ◌*◌}
use native.Mathlib.Omega.{arith}
use Rattle.packed.specs.Frame.{value_frame}
use Rattle.packed.specs.Packs.{digit_at, at_lt, word_lt}
use Rattle.packed.proofs.strip.U64Strip.pack.Goals as goal

pub overflow_mul-result : goal.overflow_mul-result
overflow_mul-result c =
    let a = c.args in
    omega (arith, c.pack_word.ensures, word_lt (digit_at a.free a.grid.now a.start a.step) (at_lt a.free a.grid.now a.start a.step) 0 a.side 60 (omega arith))

pub returns : goal.returns
returns c = ap (λ (v : ℕ). v * 16) c.pack_word.ensures ∙ sym (value_frame _)
