-- `read_mask` reads the mask.
-- Assumes nothing.
use Rattle.std.proofs.Common.{◌∙◌}
use Rattle.modules.specs.FormatBack.{mask_is}
use Rattle.modules.proofs.read.read_mask.Goals as goal

pub returns : goal.returns
returns c = c.mask_at.ensures ∙ mask_is _ _ _ _ c.format_data.ensures c.size_of-size.ensures
