-- `draw_timing` draws column 6 and row 6.
-- Assumes nothing.
use Rattle.laws.specs.Marks.{twins}
use Rattle.patterns.specs.FinderLayer.{timing_module}
use Rattle.patterns.specs.Painted.{Paints}
use Rattle.patterns.proofs.canvas.Canvas.draw_timing.Given as goal

abbrev pub invariant-loop-i : goal.invariant-loop-i
invariant-loop-i l = Paints l.initial.self l.self (twins l.i (λ _. 6) (λ k. k) timing_module)
