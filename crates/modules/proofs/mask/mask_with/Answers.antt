-- `mask_with` masks every module.
-- Assumes nothing.
use Rattle.std.proofs.Common.{rules}
use Rattle.modules.specs.MaskRows.{rows_mask}
use Rattle.modules.proofs.mask.mask_with.Goals as goal

pub returns : goal.returns
returns c = search (rows_mask, rules)
