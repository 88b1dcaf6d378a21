-- `draw_copy` draws fifteen bits, at the places that are answered.
-- Assumes nothing.
use Rattle.std.proofs.Common.{ℕ, ◌≡◌}
use Rattle.laws.specs.Dots.{dots}
use Rattle.patterns.specs.FormatPlaces.{word_bit, Places}
use Rattle.patterns.specs.Painted.{Paints}
use Rattle.patterns.proofs.canvas.Canvas.draw_copy.Given as goal

abbrev pub invariant-loop-i : goal.invariant-loop-i
invariant-loop-i g l =
    (l.self.size ≡ l.initial.self.size)
    × ((px py : ℕ → ℕ) → Places (goal.F-post g l.at) px py → Paints l.initial.self l.self (dots l.i px py (word_bit l.bits)))
