-- `terminal::scan::halves`: those of so many bytes are put.
-- Assumes nothing.
use Rattle.std.proofs.Common.{◌+◌, ◌≤◌, take}
use Rattle.terminal.specs.Scan.{halves}
use Rattle.terminal.specs.Adds.{Adds}
use Rattle.terminal.proofs.scan.halves.Given as goal

abbrev pub invariant-loop-c : goal.invariant-loop-c
invariant-loop-c l = Adds l.initial.out (halves (take l.c-index l.text)) l.out × (l.out.len ≤ l.initial.out.len + l.c-index)
