-- `replay_segments::lines::six` meets its contract: i digits stand for a number below 10 ^ i.
-- Assumes nothing.
use Rattle.std.proofs.Common.{◌^◌, ◌<◌}
use Rattle.replay_segments.proofs.lines.six.Given as goal

abbrev pub invariant-loop-c : goal.invariant-loop-c
invariant-loop-c l = l.n < 10 ^ l.c-index
