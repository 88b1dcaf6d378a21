-- Timing, finders and alignment: where they stand, and their colours, 0 light and 1 dark.
-- x is the column, y the row, s the side and v the version.
-- Drawn as pictures in proofs/Pictures.antt. s is 21 or more, and a subtraction from it never stops at 0.
-- Document 01, "Modules". Assumes nothing.
use Rattle.std.specs.Prelude.{ℕ, ◌+◌, ◌-◌, ◌*◌, ◌/◌, ◌%◌, min, max, Bool, cond, ◌&&◌, ◌||◌, not, List, [], ◌∷◌, leb, ltb, eqb}
use Rattle.standard.specs.Numbers.{apart, one, tabulate}
use Rattle.standard.specs.Sizes.{side, centres}

-- how far a module is from a centre: the greater of the distances on the two axes
abbrev pub ring : ℕ → ℕ → ℕ → ℕ → ℕ
ring x y cx cy = max (apart x cx) (apart y cy)

-- ---- timing: column 6 and row 6, dark at even places

unfoldable pub on_timing : ℕ → ℕ → Bool
on_timing x y = eqb x 6 || eqb y 6

unfoldable pub timing_colour : ℕ → ℕ → ℕ
timing_colour x y = (x + y + 1) % 2

-- ---- finders, with the light line around them: the squares of eight in three corners

unfoldable pub on_finder : ℕ → ℕ → ℕ → Bool
on_finder s x y = (ltb x 8 && (ltb y 8 || leb (s - 8) y)) || (leb (s - 8) x && ltb y 8)

-- how far from the nearest of the three centres; they are 14 or more apart, so in a square of eight its own centre is the nearest
unfoldable pub finder_ring : ℕ → ℕ → ℕ → ℕ
finder_ring s x y = min (ring x y 3 3) (min (ring x y (s - 4) 3) (ring x y 3 (s - 4)))

-- two light rings: the one inside, and the line around
unfoldable pub finder_colour : ℕ → ℕ → ℕ → ℕ
finder_colour s x y = one (not (eqb (finder_ring s x y) 2 || eqb (finder_ring s x y) 4))

-- ---- alignment

-- how far two centres of an axis are apart, from the second on: 4 v + 4, which is from 6 to side - 7, shared among the gaps and rounded up
-- to an even number; 26 at version 32
unfoldable pub alignment_step : ℕ → ℕ
alignment_step v = cond (eqb v 32) 26 ((4 * v + 2 * centres v + 1) / (2 * centres v - 2) * 2)

-- the centres of an axis, ascending: 6, and then a step apart up to side - 7
unfoldable pub alignment : ℕ → List ℕ
alignment v = cond (eqb v 1) [] (6 ∷ tabulate (centres v - 1) (λ i. side v - 7 - (centres v - 2 - i) * alignment_step v))

-- how far x is from the nearest of the centres; 177 where there is none
unfoldable pub nearest : List ℕ → ℕ → ℕ
nearest [] x = 177
nearest (c ∷ cs) x = min (apart x c) (nearest cs x)

-- the three that would fall on finder corners are left out: their squares reach from 4 to 8 and from side - 9 to side - 5
unfoldable pub on_corner : ℕ → ℕ → ℕ → Bool
on_corner s x y = (ltb x 9 && (ltb y 9 || leb (s - 9) y)) || (leb (s - 9) x && ltb y 9)

-- the squares of five around each pair of centres
unfoldable pub on_alignment : ℕ → ℕ → ℕ → Bool
on_alignment v x y =
    leb (nearest (alignment v) x) 2 && (leb (nearest (alignment v) y) 2 && not (on_corner (side v) x y))

-- one light ring; centres are 12 or more apart, so that a module is within 2 of one centre at most, and the nearest on each axis is its own
unfoldable pub alignment_colour : ℕ → ℕ → ℕ → ℕ
alignment_colour v x y = one (not (eqb (max (nearest (alignment v) x) (nearest (alignment v) y)) 1))
