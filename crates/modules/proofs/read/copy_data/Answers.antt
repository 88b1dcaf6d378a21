-- `copy_data` rewrites the data modules.
-- Assumes nothing.
use Rattle.std.proofs.Common.{rules}
use Rattle.laws.specs.Each.{each_start, each_next}
use Rattle.modules.specs.Back.{copy_end}
use Rattle.modules.proofs.read.copy_data.Goals as goal

pub loop-k-init : goal.loop-k-init
loop-k-init c = search (each_start, rules)

pub loop-k-preserved : goal.loop-k-preserved
loop-k-preserved c = search (each_next, rules)

pub returns : goal.returns
returns c = search (copy_end, rules)
