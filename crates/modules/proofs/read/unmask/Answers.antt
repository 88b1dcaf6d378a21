-- `unmask` gives data modules without the mask.
-- Assumes nothing.
use Rattle.modules.specs.Back.{grid_read}
use Rattle.modules.proofs.read.unmask.Goals as goal

pub returns : goal.returns
returns c =
    grid_read _ _ _ _ _ _ _ _ _ (c.fill.ensures.after (λ y e. e)) c.draw_function_patterns.ensures c.copy_data.ensures c.apply_mask.ensures c.requires.square_2
