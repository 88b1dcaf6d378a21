-- `format_data` reads five modules.
-- Assumes nothing.
use Rattle.modules.specs.FormatBack.{data_is}
use Rattle.modules.proofs.read.format_data.Goals as goal

pub returns : goal.returns
returns c = data_is _ _ _ _ _ _ _ c.format_bit-a.ensures.0 c.format_bit-b.ensures.0 c.format_bit-c.ensures.0 c.format_bit-d.ensures.0 c.format_bit-e.ensures.0
