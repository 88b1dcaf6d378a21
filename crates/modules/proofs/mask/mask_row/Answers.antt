-- `mask_row` works out six places, and makes each later place like the one six before it.
-- Assumes nothing.
use Rattle.std.proofs.Common.{rules}
use Rattle.laws.specs.Each.{each_start, each_next, each_end}
use Rattle.modules.specs.MaskRows.{again_start, again_next, row_done}
use Rattle.modules.proofs.mask.mask_row.Goals as goal

pub loop-x-init : goal.loop-x-init
loop-x-init c = search (each_start, rules)

pub loop-x-preserved : goal.loop-x-preserved
loop-x-preserved c = each_next _ _ _ _ _ _ c.loop-x.invariant c.loop-x.auto.row (search rules) (search rules)

pub loop-x-2-init : goal.loop-x-2-init
loop-x-2-init c = search (again_start, rules)

pub loop-x-2-preserved : goal.loop-x-2-preserved
loop-x-2-preserved c = search (again_next, each_next, rules)

pub returns : goal.returns
returns c = row_done _ _ _ _ _ _ c.loop-x.invariant (search rules) (search rules) (each_end _ _ _ _ _ c.loop-x-2.invariant c.loop-x-2.auto.row (search rules))
