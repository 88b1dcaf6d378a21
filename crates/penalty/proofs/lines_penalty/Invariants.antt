-- `penalty::lines_penalty` meets its contract. The loop adds up the lines passed.
-- Assumes nothing.
use Rattle.penalty.specs.Lines.{along}
use Rattle.standard.specs.Penalty.{line_cost}
use Rattle.standard.specs.Numbers.{sum, tabulate}
use Prim.Native.Nat.{◌*◌, ◌≤◌}
use mathlib.Core.Path.{◌≡◌}
use Rattle.penalty.proofs.lines_penalty.Given as goal

abbrev pub invariant-loop-k : goal.invariant-loop-k
invariant-loop-k l = (l.k ≤ l.side) × (l.result ≡ sum (tabulate l.k (λ k. line_cost l.side (tabulate l.side (along l.grid (k * l.stride) l.step))))) × (l.result ≤ 6960 * l.k)
