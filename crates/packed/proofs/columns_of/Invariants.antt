-- `packed::columns_of` meets its contract. The loop adds up the columns passed.
-- Assumes nothing.
use Prim.Native.Nat.{◌*◌, ◌≤◌}
use mathlib.Core.Path.{◌≡◌}
use Rattle.standard.specs.Numbers.{sum, tabulate}
use Rattle.standard.specs.Penalty.{column, line_cost}
use Rattle.laws.specs.Grid.{paint}
use Rattle.modules.specs.Mask.{masked}
use Rattle.penalty.specs.Lines.{colours}
use Rattle.packed.proofs.columns_of.Given as goal

abbrev pub invariant-loop-x : goal.invariant-loop-x
invariant-loop-x g l =
    (l.x ≤ l.side) × (l.result ≡ sum (tabulate l.x (λ k. line_cost l.side (column l.side (colours (paint l.side (masked l.candidate.msk) l.candidate.grid.now)) k)))) × (l.result ≤ 6960 * l.x)
