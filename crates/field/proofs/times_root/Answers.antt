-- `field::times_root` meets its contract.
-- Assumes nothing.
use Prim.Native.Nat.{ℕ, ◌+◌, ◌≤◌}
use mathlib.Core.Path.{◌≡◌, sym, ap, ap₂, ◌∙◌}
use mathlib.Core.List.{List}
use native.Mathlib.Omega.{arith}
use lib.Bits.{bit_xor}
use Rattle.standard.specs.Field.{times}
use Rattle.field.specs.Generator.{times_root, get_d_times_root, length_times_root, front_times_root}
use Rattle.laws.specs.Front.{front, front_suc, front_rest}
use Rattle.std.proofs.Common.{rules}
use lib.ListN.{length, get_or, set, length-set}
use Rattle.field.proofs.times_root.Goals as goal

pub loop-j-preserved : goal.loop-j-preserved
loop-j-preserved c =
    let a = c.args in
    let r = a.wide.now in
    let s = times_root a.root r in
    let j = c.loop-j.j in
    let o = c.loop-j.wide in
    let inv = c.loop-j.invariant in
    let v = bit_xor c.reed_solomon_multiply.result (get_or o (j + 1) 0) in
    let l : length s ≡ length r = length_times_root a.root r in
    let at : (i : ℕ) → j ≤ i → get_or o i 0 ≡ get_or r i 0 = λ i h. ap (λ (x : List ℕ). get_or x i 0) inv.2 ∙ front_rest s r j i (omega arith) h in
    let e : v ≡ get_or s j 0
    = ap₂ bit_xor (c.reed_solomon_multiply.ensures ∙ ap (λ (x : ℕ). times x a.root) (at j (omega arith))) (at (j + 1) (omega arith))
    ∙ sym (get_d_times_root a.root r j (omega arith)) in
    (omega arith, length-set o j v ∙ inv.1, ap (λ (x : List ℕ). set x j v) inv.2 ∙ front_suc s r j v l (omega arith) e)

pub returns : goal.returns
returns c =
    let a = c.args in
    let r = a.wide.now in
    let e : c.loop-j.j ≡ 32 = omega arith in
    c.loop-j.invariant.2 ∙ ap (λ (n : ℕ). front n (times_root a.root r) r) e ∙ front_times_root a.root 32 r (search rules) (search rules)
