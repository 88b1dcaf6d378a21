-- `draw_finders` draws the three finders.
-- Assumes nothing.
use Rattle.patterns.specs.Painted.{both}
use Rattle.patterns.proofs.canvas.Canvas.draw_finders.Goals as goal

pub returns : goal.returns
returns c = both _ _ _ _ _ (both _ _ _ _ _ c.draw_finder_pattern.ensures c.draw_finder_pattern-2.ensures) c.draw_finder_pattern-3.ensures
