-- `capacity::get_alignment_pattern_positions` meets its contract.
-- Assumes nothing.
use Rattle.std.proofs.Common.{◌≤◌}
use Rattle.capacity.specs.Positions.{Stored}
use Rattle.capacity.proofs.get_alignment_pattern_positions.Given as goal

abbrev pub invariant-loop-i : goal.invariant-loop-i
invariant-loop-i l = Stored l.v l.i l.at × (1 ≤ l.i)
