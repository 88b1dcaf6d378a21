-- `draw_modules` draws the work grid of the codewords.
-- Assumes nothing.
use Rattle.modules.specs.Finished.{modules_drawn}
use Rattle.modules.proofs.draw_modules.Goals as goal

pub returns : goal.returns
returns c =
    modules_drawn _ _ _ _ _ _ _ (c.fill.ensures.after (λ y e. e)) c.draw_function_patterns.ensures c.draw_codewords.ensures c.requires.square
