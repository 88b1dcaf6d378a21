-- `replay_segments::all` meets its contract: there are no more cases than turns.
-- Assumes nothing.
use Rattle.std.proofs.Common.{◌≤◌}
use Rattle.replay_segments.proofs.all.Given as goal

abbrev pub invariant-loop : goal.invariant-loop
invariant-loop g l = (l.c.payloads ≤ l.counter) × (l.c.lists ≤ l.counter) × (l.c.differ ≤ l.counter)
