-- A mask on a work grid: what it makes of a module, and that it undoes itself.
-- Assumes nothing.
use Rattle.std.specs.Prelude.{◌≡◌, refl, List, Bool, true, false, cond, ℕ, ◌-◌, ltb}
use Rattle.std.proofs.Common.{sym, ◌∙◌, arith, ltb-true, lt-ltb}
use Rattle.standard.specs.Masks.{inverts}
use Rattle.laws.specs.Grid.{Pattern, Square, paint, paint_paint, paint_none}

-- a data module changes its colour, a function module does not
abbrev pub flip : Bool → ℕ → ℕ
flip true v = cond (ltb v 2) (1 - v) v
flip false v = v

abbrev pub masked : ℕ → Pattern
masked m x y v = flip (inverts m x y) v

flip_twice : (b : Bool) (v : ℕ) → flip b (flip b v) ≡ v
flip_twice false v = refl
flip_twice true v = go (ltb v 2) refl
  where
    go : (t : Bool) → ltb v 2 ≡ t → cond (ltb (cond (ltb v 2) (1 - v) v) 2) (1 - cond (ltb v 2) (1 - v) v) (cond (ltb v 2) (1 - v) v) ≡ v
    go false e = simp e
    go true e = let l = ltb-true v 2 e in simp (e, lt-ltb (1 - v) 2 (omega arith)) (omega arith)

-- a mask that is applied twice leaves the grid as it was
pub masked_twice : (side m : ℕ) (g : List ℕ) → Square g side → paint side (masked m) (paint side (masked m) g) ≡ g
masked_twice side m g sq =
    paint_paint side (masked m) (masked m) g ∙ sym (paint_none side g sq.size _ (λ x y hx hy. flip_twice (inverts m x y) _))

-- the size and the mask as the code names them
pub masked_is : (s t m n : ℕ) (g h : List ℕ) → h ≡ paint s (masked m) g → s ≡ t → m ≡ n → h ≡ paint t (masked n) g
masked_is s t m n g h e q p = rw (q, p) at e
