-- `remainder` computes check bits.
-- Assumes nothing.
use Rattle.std.proofs.Common.{◌+◌, ◌^◌, ◌<◌}
use Rattle.patterns.specs.Words.{Checking}
use Rattle.patterns.proofs.format.remainder.Given as goal

abbrev pub invariant-loop-i : goal.invariant-loop-i
invariant-loop-i l = Checking l.w l.generator (l.w + 1) l.word l._i l.rem × (l.rem < 2 ^ (l.w + 1))
