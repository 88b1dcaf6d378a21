-- Single cells, one after the other: for what is drawn at places that a formula gives, as the format bits are.
-- Assumes nothing.
use Rattle.std.specs.Prelude.{◌≡◌, refl, List, ℕ, zero, suc, ◌+◌, ◌*◌, ◌≤◌, ◌<◌, set}
use Rattle.std.proofs.Common.{◌∙◌, le_antisymm, add-one}
use Rattle.laws.specs.Grid.{Pattern, Square, paint, paint_paint, paint_none}
use Rattle.laws.specs.Store.{at_cell, store}

-- the cell (cx, cy) becomes c
abbrev pub dot : ℕ → ℕ → ℕ → Pattern
dot cx cy c = at_cell cx cy (λ _ _ _. c)

-- the cells (px 0, py 0), .., (px (n - 1), py (n - 1)) become c 0, .., c (n - 1)
unfoldable pub dots : ℕ → (ℕ → ℕ) → (ℕ → ℕ) → (ℕ → ℕ) → Pattern
dots zero px py c x y v = v
dots (suc n) px py c x y v = dot (px n) (py n) (c n) x y (dots n px py c x y v)

-- one store
pub dot_set : (side : ℕ) (g i : List ℕ) (x y w : ℕ) → i ≡ set g (y * side + x) w → Square g side → x < side → y < side → i ≡ paint side (dot x y w) g
dot_set side g i x y w e sq hx hy = e ∙ store side (λ _ _ _. w) g x y w (y * side + x) sq hx hy refl refl

module _ (side : ℕ) (px py c : ℕ → ℕ) (g : List ℕ) where
  pub dots_start : Square g side → g ≡ paint side (dots 0 px py c) g
  unfolding dots
  dots_start sq = paint_none side g sq.size _ (λ x y hx hy. refl)

  pub dots_next : (n x y w : ℕ) (h i : List ℕ) → h ≡ paint side (dots n px py c) g → i ≡ paint side (dot x y w) h → x ≡ px n → y ≡ py n → w ≡ c n
      → i ≡ paint side (dots (n + 1) px py c) g
  unfolding dots
  dots_next n x y w h i e f ex ey ew = f ∙ rw (e, ex, ey, ew, add-one) (paint_paint side _ _ g)

  pub dots_end : (n m : ℕ) (h : List ℕ) → h ≡ paint side (dots n px py c) g → n ≤ m → m ≤ n → h ≡ paint side (dots m px py c) g
  dots_end n m h e l k = rw (le_antisymm l k) at e
