-- A store in a grid is a pattern at one cell.
-- Assumes nothing.
use Rattle.std.specs.Prelude.{◌≡◌, refl, List, ℕ, ◌+◌, ◌*◌, ◌<◌, get_or, set, eqb}
use Rattle.laws.specs.Grid.{Pattern, Square, on, paint, set_keys}

-- p at the cell (cx, cy)
abbrev pub at_cell : ℕ → ℕ → Pattern → Pattern
at_cell cx cy p = on (λ x y. eqb y cy) (on (λ x y. eqb x cx) p)

module _ (side : ℕ) (p : Pattern) (g : List ℕ) where
  -- a store of what p makes of the cell
  pub store : (x y w at : ℕ) → Square g side → x < side → y < side → at ≡ y * side + x → w ≡ p x y (get_or g at 0) → set g at w ≡ paint side (at_cell x y p) g
  store x y w at sq hx hy q e = rw q (set_keys side g sq.size (λ x y. y) (λ x y. x) y x p x y w hx hy refl refl (λ x' y' hx' hy' ea eb. (eb, ea)) (rw q at e))
