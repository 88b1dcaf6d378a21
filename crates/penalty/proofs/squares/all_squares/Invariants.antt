-- `penalty::squares::all_squares` meets its contract. The loop adds up the rows passed.
-- Assumes nothing.
use Rattle.penalty.specs.Lines.{colours}
use Rattle.standard.specs.Penalty.{squares}
use Rattle.standard.specs.Numbers.{sum, tabulate}
use Prim.Native.Nat.{◌-◌, ◌*◌, ◌≤◌}
use mathlib.Core.Path.{◌≡◌}
use Rattle.penalty.proofs.squares.all_squares.Given as goal

abbrev pub invariant-loop-y : goal.invariant-loop-y
invariant-loop-y l = (l.y ≤ l.last) × (l.result ≡ sum (tabulate l.y (squares l.side (colours l.grid)))) × (l.result ≤ 176 * l.y)

abbrev pub decreases-loop-y : goal.decreases-loop-y
decreases-loop-y l = l.last - l.y
