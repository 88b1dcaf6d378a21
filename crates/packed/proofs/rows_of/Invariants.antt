-- `packed::rows_of` meets its contract. Before turn y the rows before y are passed.
-- Assumes nothing.
use Prim.Native.Nat.{◌-◌, ◌*◌, ◌≤◌}
use Rattle.laws.specs.Grid.{paint}
use Rattle.modules.specs.Mask.{masked}
use Rattle.packed.specs.Rows.{Passed}
use Rattle.packed.proofs.rows_of.Given as goal

abbrev pub invariant-loop-y : goal.invariant-loop-y
invariant-loop-y g l =
    Passed l.side (paint l.side (masked l.candidate.msk) l.candidate.grid.now) (l.y - 1) (g.L.Strip.number l.last) l.cost l.same l.dark × (1 ≤ l.y) × (l.y ≤ l.side) × (l.cost ≤ 6960 * l.y) × (l.same ≤ 192 * l.y) × (l.dark ≤ 192 * l.y)
