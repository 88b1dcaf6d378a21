-- `terminal::scan::rows`: so many modules are read.
-- Assumes nothing.
use Rattle.std.proofs.Common.{◌≡◌, length}
use Rattle.laws.specs.Each.{each_done}
use Rattle.terminal.specs.Scan.{row_module}
use Rattle.terminal.proofs.scan.rows.Given as goal

abbrev pub invariant-loop-k : goal.invariant-loop-k
invariant-loop-k l = (l.grid ≡ each_done l.k (λ n _. row_module l.side l.text n) l.initial.grid) × (length l.grid ≡ l.k-end)
