-- `penalty::line_penalty` meets its contract. What is found and what is yet to come is what the line costs.
-- Assumes nothing.
use Rattle.penalty.specs.Lines.{along}
use Rattle.penalty.specs.Scanned.{Scanned}
use Prim.Native.Nat.{◌-◌, ◌≤◌}
use Rattle.penalty.proofs.line_penalty.Given as goal

abbrev pub invariant-loop-i : goal.invariant-loop-i
invariant-loop-i l =
    (l.i ≤ l.side) × Scanned l.side (along l.grid l.start l.step) l.i l.runcolor l.run l.result l.runhistory

abbrev pub decreases-loop-i : goal.decreases-loop-i
decreases-loop-i l =
    l.side - l.i
