-- A loop over the rows, and in each over the cells, of the square of the cells at most r away from (cx, cy), with what lies off the grid left out:
-- offsets dx and dy run from 0 to 2 * r, and the cell has x + r = cx + dx and y + r = cy + dy. One law for every pattern p that changes nothing further away.
-- Assumes nothing.
use Rattle.std.specs.Prelude.{◌≡◌, List, true, ℕ, ◌+◌, ◌*◌, ◌≤◌, ◌<◌, get_or, set, ltb}
use Rattle.std.proofs.Common.{◌∙◌, le_antisymm, add_assoc, arith}
use Rattle.std.proofs.Math.Dec.{eqb}
use Rattle.laws.specs.Grid.{Pattern, Square, on, paint, none_keys, set_keys, scan, scan_start, scan_end}
use Rattle.standard.specs.Patterns.{ring}

abbrev pub box_row : ℕ → ℕ → ℕ → Pattern → Pattern
box_row r cy dy p = on (λ x y. eqb (y + r) (cy + dy)) p

abbrev pub box_cell : ℕ → ℕ → ℕ → ℕ → ℕ → Pattern → Pattern
box_cell r cx cy dx dy p = on (λ x y. eqb (y + r) (cy + dy)) (on (λ x y. eqb (x + r) (cx + dx)) p)

pub cells_done : ℕ → ℕ → ℕ → ℕ → ℕ → Pattern → Pattern
cells_done r cx cy dy n p = on (λ x y. eqb (y + r) (cy + dy)) (on (λ x y. ltb (x + r) (cx + n)) p)

pub rows_done : ℕ → ℕ → ℕ → ℕ → Pattern → Pattern
rows_done r cx cy n p = on (λ x y. ltb (y + r) (cy + n)) p

module _ (side r cx cy : ℕ) (p : Pattern) (g : List ℕ) where
  pub box_out : (dx dy : ℕ) → Square g side → ((x y : ℕ) → x < side → y < side → y + r ≡ cy + dy → x + r ≡ cx + dx → ⊥) → g ≡ paint side (box_cell r cx cy dx dy p) g
  box_out dx dy sq h = none_keys side g sq.size (λ x y. y + r) (λ x y. x + r) _ _ _ (λ x y hx hy ea eb. absurd (h x y hx hy ea eb))

  pub box_in : (dx dy x y w : ℕ) → Square g side → x < side → y < side → x + r ≡ cx + dx → y + r ≡ cy + dy → w ≡ p x y (get_or g (y * side + x) 0)
      → set g (y * side + x) w ≡ paint side (box_cell r cx cy dx dy p) g
  box_in dx dy x y w sq hx hy ex ey e =
      set_keys side g sq.size (λ x y. y + r) (λ x y. x + r) _ _ _ x y _ hx hy ey ex (λ x' y' hx' hy' ea eb. omega arith) e

  pub cells_start : (dy : ℕ) → Square g side → ((x y v : ℕ) → r < ring x y cx cy → p x y v ≡ v) → g ≡ paint side (cells_done r cx cy dy 0 p) g
  unfolding cells_done
  cells_start dy sq off = scan_start side g sq.size (λ x y. eqb (y + r) (cy + dy)) (λ x y. x + r) (cx + 0) p (λ x y v h. off x y v (omega arith))

  pub cells_next : (dy n : ℕ) (h i : List ℕ) → h ≡ paint side (cells_done r cx cy dy n p) g → i ≡ paint side (box_cell r cx cy n dy p) h → i ≡ paint side (cells_done r cx cy dy (n + 1) p) g
  unfolding cells_done
  cells_next dy n h i e f = rw (← add_assoc) (f ∙ rw e (scan side (λ x y. eqb (y + r) (cy + dy)) (λ x y. x + r) (cx + n) p g))

  pub cells_end : (dy n : ℕ) (h : List ℕ) → Square g side → ((x y v : ℕ) → r < ring x y cx cy → p x y v ≡ v) → h ≡ paint side (cells_done r cx cy dy n p) g
      → n ≤ r * 2 + 1 → r * 2 + 1 ≤ n → h ≡ paint side (box_row r cy dy p) g
  unfolding cells_done
  cells_end dy n h sq off f l m =
      f ∙ rw (le_antisymm l m) (scan_end side g sq.size (λ x y. eqb (y + r) (cy + dy)) (λ x y. x + r) (cx + (r * 2 + 1)) p (λ x y v hx hy h. off x y v (omega arith)))

  pub rows_start : Square g side → ((x y v : ℕ) → r < ring x y cx cy → p x y v ≡ v) → g ≡ paint side (rows_done r cx cy 0 p) g
  unfolding rows_done
  rows_start sq off = scan_start side g sq.size (λ x y. true) (λ x y. y + r) (cy + 0) p (λ x y v h. off x y v (omega arith))

  pub rows_next : (n : ℕ) (h i : List ℕ) → h ≡ paint side (rows_done r cx cy n p) g → i ≡ paint side (box_row r cy n p) h → i ≡ paint side (rows_done r cx cy (n + 1) p) g
  unfolding rows_done
  rows_next n h i e f = rw (← add_assoc) (f ∙ rw e (scan side (λ x y. true) (λ x y. y + r) (cy + n) p g))

  pub rows_end : (n : ℕ) (h : List ℕ) → h ≡ paint side (rows_done r cx cy n p) g → Square g side → ((x y v : ℕ) → r < ring x y cx cy → p x y v ≡ v)
      → n ≤ r * 2 + 1 → r * 2 + 1 ≤ n → h ≡ paint side p g
  unfolding rows_done
  rows_end n h f sq off l m =
      f ∙ rw (le_antisymm l m) (scan_end side g sq.size (λ x y. true) (λ x y. y + r) (cy + (r * 2 + 1)) p (λ x y v hx hy h. off x y v (omega arith)))
