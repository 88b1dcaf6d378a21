-- `replay_penalty::number` meets its contract. The digits passed make a number of as many digits.
-- Assumes nothing.
use Prim.Native.Nat.{◌^◌, ◌≤◌, ◌<◌}
use lib.ListN.{length}
use Rattle.replay_penalty.proofs.number.Given as goal

abbrev pub invariant-loop-byte : goal.invariant-loop-byte
invariant-loop-byte l = (l.byte-index ≤ length l.digits) × (l.n < 10 ^ l.byte-index)
