-- Format bits stand in row 8 and column 8 alone, so packed lines are held while they are drawn.
-- Assumes nothing.
use Rattle.std.specs.Prelude.{◌≡◌, List, ℕ, ◌+◌, ◌*◌, ◌<◌, length, get_or}
use Rattle.std.proofs.Common.{◌∙◌, ne_eqb}
use Rattle.standard.specs.Sizes.{side}
use Rattle.standard.specs.Format.{format_place, on_format}
use Rattle.laws.specs.Grid.{Square, paint, cell_paint, cell_lt}
use Rattle.patterns.specs.Layers.{layer, formats}
use Rattle.packed.specs.Stored.{HeldRows, HeldColumns, rows_alike, columns_alike}

not_there : (s word x y v : ℕ) → (x ≡ 8 → ⊥) → (y ≡ 8 → ⊥) → formats s word x y v ≡ v
unfolding layer on_format format_place
not_there s word x y v nx ny = rw (ne_eqb x 8 nx, ne_eqb y 8 ny)

alike : (s word : ℕ) (g : List ℕ) → length g ≡ s * s → (x y : ℕ) → x < s → y < s → (x ≡ 8 → ⊥) → (y ≡ 8 → ⊥)
    → get_or (paint s (formats s word) g) (y * s + x) 0 ≡ get_or g (y * s + x) 0
alike s word g size x y hx hy nx ny =
    cell_paint s (formats s word) g x y hx (cell_lt s g size x y hx hy) ∙ not_there s word x y (get_or g (y * s + x) 0) nx ny

-- as the code names the grid and its side
module _ (v word s : ℕ) (g h ws : List ℕ) (e : h ≡ paint (side v) (formats (side v) word) g) (sq : Square g (side v)) where
  pub rows_drawn : HeldRows (side v) g ws → s ≡ side v → HeldRows s h ws
  rows_drawn o q = rw (q, e) (rows_alike (side v) g (paint (side v) (formats (side v) word) g) ws (alike (side v) word g sq.size) o)

  pub columns_drawn : HeldColumns (side v) g ws → s ≡ side v → HeldColumns s h ws
  columns_drawn o q = rw (q, e) (columns_alike (side v) g (paint (side v) (formats (side v) word) g) ws (alike (side v) word g sq.size) o)
