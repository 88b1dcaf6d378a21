-- `terminal::scan::scan`: so many modules are read.
-- Assumes nothing.
use Rattle.std.proofs.Common.{◌≡◌, length}
use Rattle.laws.specs.Each.{each_done}
use Rattle.terminal.specs.Scan.{module_of}
use Rattle.terminal.proofs.scan.scan.Given as goal

abbrev pub invariant-loop-k : goal.invariant-loop-k
invariant-loop-k l = (l.grid ≡ each_done l.k (λ n _. module_of l.side l.halves n) l.initial.grid) × (length l.grid ≡ l.k-end)
