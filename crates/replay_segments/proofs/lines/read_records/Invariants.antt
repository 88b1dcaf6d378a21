-- `replay_segments::lines::read_records` meets its contract: the places are of four numbers each.
-- Assumes nothing.
use Rattle.std.proofs.Common.{◌≡◌}
use Rattle.replay_segments.proofs.lines.read_records.Given as goal

abbrev pub invariant-loop : goal.invariant-loop
invariant-loop g l = l.places.size ≡ 4
