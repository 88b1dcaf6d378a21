-- `draw_alignment_patterns` draws the alignment layer, centre by centre.
-- Assumes nothing.
use Rattle.patterns.specs.AlignmentLayer.{alignment_row, alignment_rows}
use Rattle.patterns.specs.Painted.{Paints}
use Rattle.patterns.proofs.canvas.Canvas.draw_alignment_patterns.Given as goal

abbrev pub invariant-loop-j : goal.invariant-loop-j
invariant-loop-j l = Paints l.initial.self l.self (alignment_row l.fn.ver.value l.i l.j)

abbrev pub invariant-loop-i : goal.invariant-loop-i
invariant-loop-i l = Paints l.initial.self l.self (alignment_rows l.fn.ver.value l.i)
