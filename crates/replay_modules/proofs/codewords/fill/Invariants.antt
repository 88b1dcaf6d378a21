-- `fill` is safe and ends.
-- Assumes nothing.
use Rattle.std.proofs.Common.{◌<◌}
use Rattle.replay_modules.proofs.codewords.fill.Given as goal

abbrev pub invariant-loop-word : goal.invariant-loop-word
invariant-loop-word l = l.x < 2147483648
