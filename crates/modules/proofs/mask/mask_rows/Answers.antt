-- `mask_rows` works out twelve rows of the mask.
-- Assumes nothing.
use Rattle.std.proofs.Common.{rules}
use Rattle.modules.specs.MaskRows.{rows_start, rows_next, rows_end}
use Rattle.modules.proofs.mask.mask_rows.Goals as goal

pub loop-y-init : goal.loop-y-init
loop-y-init c = search (rows_start, rules)

pub loop-y-preserved : goal.loop-y-preserved
loop-y-preserved c = search (rows_next, rules)

pub returns : goal.returns
returns c = search (rows_end, rules)
