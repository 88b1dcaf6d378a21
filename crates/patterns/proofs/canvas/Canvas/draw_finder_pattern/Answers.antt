-- `draw_finder_pattern` draws the square of nine, as far as it is in the grid.
-- Assumes nothing.
use Rattle.std.proofs.Common.{rules, not, ◌||◌, eqb}
use Rattle.patterns.specs.Shapes.{square, finder}
use Rattle.patterns.proofs.canvas.Canvas.draw_finder_pattern.Goals as goal

pub returns : goal.returns
unfolding square finder
returns c = c.draw_square.ensures (λ d. not (eqb d 2 || eqb d 4)) (λ d b h p. search rules)
