-- `draw_alignment_pattern` draws rows, one module after the other.
-- Assumes nothing.
use Rattle.std.proofs.Common.{◌+◌, ◌-◌, not, eqb}
use Rattle.patterns.specs.Shapes.{square, cells_done, rows_done}
use Rattle.patterns.specs.Painted.{Paints}
use Rattle.patterns.proofs.canvas.Canvas.draw_alignment_pattern.Given as goal

abbrev pub invariant-loop-dx : goal.invariant-loop-dx
invariant-loop-dx l = Paints l.initial.self l.self (cells_done (l.y + l.dy - 2) (l.x + l.dx - 2) (square 2 (λ d. not (eqb d 1)) l.x l.y))

abbrev pub invariant-loop-dy : goal.invariant-loop-dy
invariant-loop-dy l = Paints l.initial.self l.self (rows_done (l.y + l.dy - 2) (square 2 (λ d. not (eqb d 1)) l.x l.y))
