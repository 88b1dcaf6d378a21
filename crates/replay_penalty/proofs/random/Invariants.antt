-- `replay_penalty::random` is safe: the random number stays in its range.
-- Assumes nothing.
use Prim.Native.Nat.{◌<◌}
use Rattle.replay_penalty.proofs.random.Given as goal

abbrev pub invariant-loop-module : goal.invariant-loop-module
invariant-loop-module l = l.x < 2147483648
