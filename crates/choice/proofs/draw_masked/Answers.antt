-- `choice::draw_masked` meets its contract.
-- Assumes nothing.
use Rattle.choice.specs.Candidates.{mask_chosen, grid_drawn}
use Rattle.std.proofs.Common.{rules}
use Rattle.choice.proofs.draw_masked.Goals as goal

pub returns : goal.returns
returns c = (
  search (mask_chosen, rules),
  grid_drawn _ _ _ _ _ _ _ _ c.mask_for-mask.ensures c.draw_modules.ensures _ _ _ c.apply_mask.ensures c.draw_format_bits.ensures c.finish.ensures,
)
