-- `all_small` looks at one byte after the other.
-- Assumes nothing.
use Rattle.std.proofs.Common.{rules}
use Rattle.laws.specs.All.{all_none, all_end}
use Rattle.reader.specs.Early.{small_next}
use Rattle.reader.proofs.check.all_small.Goals as goal

pub loop-b-init : goal.loop-b-init
loop-b-init c = search (all_none, rules)

pub loop-b-preserved : goal.loop-b-preserved
loop-b-preserved c = search (small_next, rules)

pub returns : goal.returns
returns c = search (all_end, rules)
