-- `field::next_row` meets its contract.
-- Assumes nothing.
use Prim.Native.Nat.{ℕ, ◌+◌, ◌-◌, ◌*◌, ◌/◌}
use mathlib.Core.Path.{◌≡◌, ap, ◌∙◌}
use native.Mathlib.Omega.{arith}
use Rattle.std.proofs.Common.{rules}
use lib.ListN.{take, drop}
use Rattle.field.specs.Multiples.{row_turn}
use Rattle.field.proofs.next_row.Goals as goal

pub loop-j-preserved : goal.loop-j-preserved
loop-j-preserved c =
    let a = c.args in
    let j = c.loop-j.j in
    let o = c.loop-j.rows in
    let at = a.n / 2 * 32 in
    let e : at + 32 - at ≡ 32 = omega arith in
    let h = c.copy_from_slice in
    let d = c.double in
    row_turn a.base.now a.rows.now o h.new.self a.n j d.result (omega arith) (omega arith) c.requires.rows (h.ensures.after ∙ ap (λ (k : ℕ). take k (drop at a.rows.now)) e) (search rules) c.loop-j.invariant (omega arith) d.ensures
