-- `field::Divisor::divide_step` meets its contract.
-- Assumes nothing.
use Prim.Native.Nat.{ℕ, ◌+◌, ◌-◌, ◌*◌, ◌/◌, ◌%◌}
use mathlib.Core.Path.{◌≡◌, sym, ap, ◌∙◌}
use mathlib.Core.List.{List}
use native.Mathlib.Omega.{arith}
use borrow.Author.Rules.{rules}
use lib.Bits.{bit_xor}
use lib.ListN.{length, get_or, set}
use Rattle.laws.specs.Front.{front, front_suc, front_rest}
use Rattle.laws.specs.Xor.{xor_assoc}
use Rattle.field.specs.Multiples.{step_in, get_d_step_in, length_step_in, front_step_moved}
use Rattle.field.proofs.Divisor.divide_step.Goals as goal

pub loop-j-preserved : goal.loop-j-preserved
loop-j-preserved c =
    let a = c.args in
    let r = a.rest.now in
    let m = c.copy_within in
    let q = m.new.self in
    let o = c.loop-j.rest in
    let j = c.loop-j.j in
    let inv = c.loop-j.invariant in
    let s = step_in a.self.now.low a.self.now.high r a.b in
    let f = bit_xor a.b (get_or r 0 0) in
    let l = get_or a.self.now.low (f % 16 * 32 + j) 0 in
    let h = get_or a.self.now.high (f / 16 * 32 + j) 0 in
    let v = bit_xor (get_or o j 0) (bit_xor l h) in
    let n : length s ≡ length r = length_step_in a.self.now.low a.self.now.high r a.b (search rules) in
    let next : 1 + (j - 0) ≡ j + 1 = omega arith in
    let moved : get_or o j 0 ≡ get_or r (j + 1) 0
    = ap (λ (x : List ℕ). get_or x j 0) inv.1 ∙ front_rest s q j j (omega arith) (omega arith) ∙ m.ensures.by_index.0 j 0 (omega arith) (omega arith)
    ∙ ap (λ (k : ℕ). get_or r k 0) next in
    let e : v ≡ get_or s j 0
    = sym (xor_assoc (get_or o j 0) l h) ∙ ap (λ (x : ℕ). bit_xor (bit_xor x l) h) moved ∙ sym (get_d_step_in a.self.now.low a.self.now.high r a.b j (omega arith)) in
    (inv.0, ap (λ (x : List ℕ). set x j v) inv.1 ∙ front_suc s q j v (omega (arith, n, m.ensures.len)) (omega (arith, m.ensures.len)) e)

pub returns : goal.returns
returns c =
    let a = c.args in
    let m = c.copy_within in
    let e : c.loop-j.j ≡ 32 = omega arith in
    c.loop-j.invariant.1 ∙ ap (λ (n : ℕ). front n (step_in a.self.now.low a.self.now.high a.rest.now a.b) m.new.self) e
    ∙ front_step_moved a.self.now.low a.self.now.high a.rest.now m.new.self a.b m.ensures.len m.ensures.by_index.2
