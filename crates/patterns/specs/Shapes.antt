-- The squares that are drawn around a centre: a finder with its light line, and an alignment pattern.
-- Assumes nothing.
use Rattle.std.specs.Prelude.{ℕ, ◌+◌, ◌-◌, ◌≤◌, ◌<◌, min, Bool, true, false, cond, not, ◌||◌, List, ◌≡◌, refl, leb, ltb, eqb}
use Rattle.std.proofs.Common.{ap, ◌∙◌, arith, le-leb, eqb-true}
use Rattle.std.proofs.lemmas.Bool.{lt-leb}
use Rattle.standard.specs.Numbers.{one, apart}
use Rattle.standard.specs.Patterns.{ring}
use Rattle.laws.specs.Grid.{Pattern, Square, on, paint, scan, scan_start, scan_end}
use Rattle.laws.specs.Dots.{dot}

-- the modules at most 4 away from the centre (cx, cy), light 2 and 4 away
unfoldable pub finder : ℕ → ℕ → Pattern
finder cx cy x y v = cond (leb (ring x y cx cy) 4) (2 + one (not (eqb (ring x y cx cy) 2 || eqb (ring x y cx cy) 4))) v

-- the modules at most 2 away from the centre (cx, cy), light 1 away
unfoldable pub alignment_square : ℕ → ℕ → Pattern
alignment_square cx cy x y v = cond (leb (ring x y cx cy) 2) (2 + one (not (eqb (ring x y cx cy) 1))) v

-- the modules at most r away from the centre (cx, cy), dark where the rule says so of how far away they are
unfoldable pub square : ℕ → (ℕ → Bool) → ℕ → ℕ → Pattern
square r rule cx cy x y v = cond (leb (ring x y cx cy) r) (2 + one (rule (ring x y cx cy))) v

-- up to the distance r, what is answered is what the rule says
abbrev pub Rules : (ℕ → Bool → Type 0) → ℕ → (ℕ → Bool) → Type 0
Rules post r rule = (d : ℕ) (b : Bool) → d ≤ r → post d b → b ≡ rule d

-- place d of five, the third of which is x, is as far from x as d is from 2
pub shifted : (x d : ℕ) → 2 ≤ x → apart d 2 ≡ apart (x + d - 2) x
shifted x d h = omega arith

-- row y up to column n, and the rows up to n
pub cells_done : ℕ → ℕ → Pattern → Pattern
cells_done y n p = on (λ a b. eqb b y) (on (λ a b. ltb a n) p)

pub rows_done : ℕ → Pattern → Pattern
rows_done n p = on (λ a b. ltb b n) p

module _ (size r : ℕ) (rule : ℕ → Bool) (cx cy : ℕ) (g : List ℕ) where
  pub off : (x y v : ℕ) → r < ring x y cx cy → square r rule cx cy x y v ≡ v
  unfolding square
  off x y v h = rw (lt-leb _ _ h)

  pub rows_start : (n : ℕ) → n ≡ cy - r → Square g size → g ≡ paint size (rows_done n (square r rule cx cy)) g
  unfolding rows_done
  rows_start n e sq = scan_start size g sq.size (λ x y. true) (λ x y. y) n _ (λ x y v h. off x y v (omega arith))

  pub cells_start : (y n : ℕ) → n ≡ cx - r → Square g size → g ≡ paint size (cells_done y n (square r rule cx cy)) g
  unfolding cells_done
  cells_start y n e sq = scan_start size g sq.size (λ a b. eqb b y) (λ a b. a) n _ (λ a b v h. off a b v (omega arith))

  -- one module
  pub cells_next : (x y d : ℕ) (b : Bool) (h i : List ℕ) → h ≡ paint size (cells_done y x (square r rule cx cy)) g → i ≡ paint size (dot x y (2 + one b)) h
      → b ≡ rule d → d ≡ ring x y cx cy → d ≤ r → i ≡ paint size (cells_done y (x + 1) (square r rule cx cy)) g
  unfolding cells_done square
  cells_next x y d b h i e f q is near =
      f ∙ ap (λ (p : Pattern). paint size p h) (λ j m n v. same m n v j) ∙ rw e (scan size (λ m n. eqb n y) (λ m n. m) x _ g)
    where
      same : (m n v : ℕ) → dot x y (2 + one b) m n v ≡ on (λ m n. eqb n y) (on (λ m n. eqb m x) (square r rule cx cy)) m n v
      same m n v = go (eqb n y) refl (eqb m x) refl
        where
          go : (s : Bool) → eqb n y ≡ s → (t : Bool) → eqb m x ≡ t → cond s (cond t (2 + one b) v) v ≡ cond s (cond t (square r rule cx cy m n v) v) v
          go true k true l = rw (eqb-true n y k, eqb-true m x l, ← is, le-leb _ _ near, q)
          go true k false l = refl
          go false k t l = refl

  pub cells_end : (x y : ℕ) (h : List ℕ) → h ≡ paint size (cells_done y x (square r rule cx cy)) g → Square g size → min size (cx + r + 1) ≤ x
      → h ≡ paint size (on (λ a b. eqb b y) (square r rule cx cy)) g
  unfolding cells_done
  cells_end x y h e sq done = e ∙ scan_end size g sq.size (λ m n. eqb n y) (λ m n. m) x _ (λ m n v hx hy h. off m n v (omega arith))

  pub rows_next : (y : ℕ) (h i : List ℕ) → h ≡ paint size (rows_done y (square r rule cx cy)) g → i ≡ paint size (on (λ a b. eqb b y) (square r rule cx cy)) h
      → i ≡ paint size (rows_done (y + 1) (square r rule cx cy)) g
  unfolding rows_done
  rows_next y h i e f = f ∙ rw e (scan size (λ x y. true) (λ x y. y) y _ g)

  pub rows_end : (y : ℕ) (h : List ℕ) → h ≡ paint size (rows_done y (square r rule cx cy)) g → Square g size → min size (cy + r + 1) ≤ y
      → h ≡ paint size (square r rule cx cy) g
  unfolding rows_done
  rows_end y h e sq done = e ∙ scan_end size g sq.size (λ x y. true) (λ x y. y) y _ (λ x y v hx hy h. off x y v (omega arith))
