-- `draw_square` draws rows, one module after the other.
-- Assumes nothing.
use Rattle.std.proofs.Common.{ℕ, Bool, ◌≡◌}
use Rattle.patterns.specs.Shapes.{square, Rules, cells_done, rows_done}
use Rattle.patterns.specs.Painted.{Paints}
use Rattle.patterns.proofs.canvas.Canvas.draw_square.Given as goal

abbrev pub invariant-loop-xx : goal.invariant-loop-xx
invariant-loop-xx g l =
    (l.self.size ≡ l.initial.self.size)
    × ((rule : ℕ → Bool) → Rules (goal.F-post g l.isdark) l.r rule → Paints l.initial.self l.self (cells_done l.yy l.xx (square l.r rule l.x l.y)))

abbrev pub invariant-loop-yy : goal.invariant-loop-yy
invariant-loop-yy g l =
    (l.self.size ≡ l.initial.self.size)
    × ((rule : ℕ → Bool) → Rules (goal.F-post g l.isdark) l.r rule → Paints l.initial.self l.self (rows_done l.yy (square l.r rule l.x l.y)))
