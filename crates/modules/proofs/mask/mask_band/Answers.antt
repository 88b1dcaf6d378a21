-- `mask_band` lays the rows over as many modules.
-- Assumes nothing.
use Rattle.std.proofs.Common.{rules}
use Rattle.laws.specs.Each.{each_start, each_next, each_end}
use Rattle.modules.proofs.mask.mask_band.Goals as goal

pub loop-k-init : goal.loop-k-init
loop-k-init c = search (each_start, rules)

pub loop-k-preserved : goal.loop-k-preserved
loop-k-preserved c = search (each_next, rules)

pub returns : goal.returns
returns c = search (each_end, rules)
