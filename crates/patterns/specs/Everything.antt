-- All layers, drawn in order, are the function modules of the definition.
-- Assumes nothing.
use Rattle.std.specs.Prelude.{ℕ, ◌*◌, ◌≤◌, ◌≡◌, List, length}
use Rattle.std.proofs.Common.{ap, ◌∙◌, arith}
use Rattle.laws.specs.Grid.{Square, then, paint, paint_ext, paint_then, length_paint}
use Rattle.standard.specs.Sizes.{side}
use Rattle.patterns.specs.Layers.{timings, finder_layer, alignments, formats, versions, functions, layers}
use Rattle.patterns.specs.FinderLayer.{finders, finders_layer}

-- a size that is known by another name
pub square_is : (g : List ℕ) (a b : ℕ) → a ≡ b → Square g b → Square g a
square_is g a b e sq = rw e sq

module _ (v word : ℕ) (g a b c d e : List ℕ) where
  layered : a ≡ paint (side v) timings g → b ≡ paint (side v) (finders (side v)) a → c ≡ paint (side v) (alignments v) b
      → d ≡ paint (side v) (formats (side v) word) c → e ≡ paint (side v) (versions v) d → Square g (side v) → 1 ≤ v
      → e ≡ paint (side v) (functions v word) g
  layered p q r s t sq low =
      let size : length a ≡ side v * side v = ap length p ∙ length_paint (side v) timings g ∙ sq.size in
      let q' : b ≡ paint (side v) (finder_layer (side v)) a = q ∙ paint_ext (side v) a size _ _ (λ x y w hx hy. finders_layer (side v) x y w (omega arith) hx hy) in
      let u : e ≡ paint (side v) (then (then (then (then timings (finder_layer (side v))) (alignments v)) (formats (side v) word)) (versions v)) g =
      paint_then (side v) _ _ g d e (paint_then (side v) _ _ g c d (paint_then (side v) _ _ g b c (paint_then (side v) _ _ g a b p q') r) s) t in
      u ∙ paint_ext (side v) g sq.size _ _ (λ x y w hx hy. layers v word x y w)

  -- the same, with the size and the version as the code names them
  pub all_drawn : (size n : ℕ) → a ≡ paint size timings g → b ≡ paint size (finders size) a → c ≡ paint (side v) (alignments v) b
      → d ≡ paint (side v) (formats (side v) word) c → e ≡ paint (side n) (versions n) d → size ≡ side v → n ≡ v → Square g (side v) → 1 ≤ v
      → e ≡ paint (side v) (functions v word) g
  all_drawn size n p q r s t same known sq low = layered (rw same at p) (rw same at q) r s (rw known at t) sq low
