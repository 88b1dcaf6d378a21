-- `remainder` computes check bits.
-- Assumes nothing.
use Rattle.std.proofs.Common.{rules, refl}
use Rattle.patterns.specs.Words.{checking_start, checking_next, checking_end, high_small}
use Rattle.patterns.proofs.format.remainder.Goals as goal

pub loop-i-init : goal.loop-i-init
loop-i-init c = (checking_start _ _ _ _, search rules)

pub loop-i-preserved : goal.loop-i-preserved
loop-i-preserved c = (checking_next _ _ _ _ _ _ _ c.loop-i.invariant.0 (search rules) refl, c.requires.2 _ c.loop-i.invariant.1)

pub returns : goal.returns
returns c = (checking_end _ _ _ _ _ _ c.loop-i.invariant.0 (search rules) (search rules), c.loop-i.invariant.1)

pub overflow_mul-rem-in-loop-i : goal.overflow_mul-rem-in-loop-i
overflow_mul-rem-in-loop-i c = record { fits = high_small _ _ _ _ c.loop-i.invariant.1 c.ranges.generator.fits }
