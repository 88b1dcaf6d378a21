-- `finish` leaves the colors.
-- Assumes nothing.
use Rattle.std.proofs.Common.{rules}
use Rattle.laws.specs.Each.{each_start, each_next, each_end}
use Rattle.modules.proofs.finish.Goals as goal

pub loop-m-init : goal.loop-m-init
loop-m-init c = search (each_start, rules)

pub loop-m-preserved : goal.loop-m-preserved
loop-m-preserved c = search (each_next, rules)

pub returns : goal.returns
returns c = search (each_end, rules)
