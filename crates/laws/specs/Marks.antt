-- Single cells, one after the other, by a test for each turn; and pairs of cells that mirror each other.
-- Assumes nothing.
use Rattle.std.specs.Prelude.{◌≡◌, refl, List, ◌⊎◌, Bool, true, false, cond, ◌&&◌, ◌||◌, ℕ, zero, suc, ◌+◌, ◌≤◌, ◌<◌, ltb, eqb}
use Rattle.std.proofs.Common.{sym, ap, ◌∙◌, inl, inr, add-one, arith, lt-ltb, le-ltb, eq-eqb, ne_eqb}
use Rattle.laws.specs.Tests.{compared, cond_and}
use Rattle.laws.specs.Grid.{Pattern, Square, paint, paint_paint, paint_none}
use Rattle.laws.specs.Dots.{dot, dots}

-- turn k writes c k into the cells at which hit k holds
unfoldable pub marks : ℕ → (ℕ → ℕ → ℕ → Bool) → (ℕ → ℕ) → Pattern
marks zero hit c x y v = v
marks (suc n) hit c x y v = cond (hit n x y) (c n) (marks n hit c x y v)

-- THE LAW: where at most turn i hits the cell, the cell holds c i after n turns if i is below n
pub marks_at : (hit : ℕ → ℕ → ℕ → Bool) (c : ℕ → ℕ) (x y v i N : ℕ) → ((k : ℕ) → k < N → hit k x y ≡ eqb i k) → (n : ℕ) → n ≤ N
    → marks n hit c x y v ≡ cond (ltb i n) (c i) v
unfolding marks
marks_at hit c x y v i N h zero l = rw (le-ltb i 0 (omega arith))
marks_at hit c x y v i N h (suc n) l = rw (h n (omega arith), marks_at hit c x y v i N h n (omega arith)) (go (compared i n))
  where
    go : (i < n) ⊎ ((i ≡ n) ⊎ (n < i)) → cond (eqb i n) (c n) (cond (ltb i n) (c i) v) ≡ cond (ltb i (suc n)) (c i) v
    go (inl d) = rw (ne_eqb i n (λ e. omega arith), lt-ltb i n d, lt-ltb i (suc n) (omega arith))
    go (inr (inl d)) = rw (eq-eqb i n d, lt-ltb i (suc n) (omega arith), d)
    go (inr (inr d)) = rw (ne_eqb i n (λ e. omega arith), le-ltb i n (omega arith), le-ltb i (suc n) (omega arith))

pub dots_marks : (n : ℕ) (px py c : ℕ → ℕ) (x y v : ℕ) → dots n px py c x y v ≡ marks n (λ k x y. eqb y (py k) && eqb x (px k)) c x y v
unfolding dots marks
dots_marks zero px py c x y v = refl
dots_marks (suc n) px py c x y v =
    sym (cond_and (eqb y (py n)) (eqb x (px n)) (c n) (dots n px py c x y v))
    ∙ ap (λ (w : ℕ). cond (eqb y (py n) && eqb x (px n)) (c n) w) (dots_marks n px py c x y v)

-- the cells (a, b) and (b, a)
abbrev pub twin_hit : ℕ → ℕ → ℕ → ℕ → Bool
twin_hit a b x y = (eqb y b && eqb x a) || (eqb y a && eqb x b)

unfoldable pub twin : ℕ → ℕ → ℕ → Pattern
twin a b c x y v = cond (twin_hit a b x y) c v

two : (p q r s : Bool) (c v : ℕ) → cond p (cond q c (cond r (cond s c v) v)) (cond r (cond s c v) v) ≡ cond ((r && s) || (p && q)) c v
two true true true true c v = refl
two true true true false c v = refl
two true true false s c v = refl
two true false true true c v = refl
two true false true false c v = refl
two true false false s c v = refl
two false q true true c v = refl
two false q true false c v = refl
two false q false s c v = refl

pub twin_two : (side a b c : ℕ) (g h i : List ℕ) → h ≡ paint side (dot a b c) g → i ≡ paint side (dot b a c) h → i ≡ paint side (twin a b c) g
unfolding twin
twin_two side a b c g h i e f =
    f ∙ rw e (paint_paint side _ _ g)
    ∙ ap (λ (q : Pattern). paint side q g) (λ j x y v. two (eqb y a) (eqb x b) (eqb y b) (eqb x a) c v j)

-- the cells (px k, py k) and (py k, px k)
abbrev pub twins : ℕ → (ℕ → ℕ) → (ℕ → ℕ) → (ℕ → ℕ) → Pattern
twins n px py c = marks n (λ k. twin_hit (px k) (py k)) c

module _ (side : ℕ) (px py c : ℕ → ℕ) (g : List ℕ) where
  pub twins_start : Square g side → g ≡ paint side (twins 0 px py c) g
  unfolding marks
  twins_start sq = paint_none side g sq.size _ (λ x y hx hy. refl)

  pub twins_next : (n a b w : ℕ) (h i : List ℕ) → h ≡ paint side (twins n px py c) g → i ≡ paint side (twin a b w) h → a ≡ px n → b ≡ py n → w ≡ c n
      → i ≡ paint side (twins (n + 1) px py c) g
  unfolding marks twin
  twins_next n a b w h i e f ea eb ew = f ∙ rw (e, ea, eb, ew, add-one) (paint_paint side _ _ g)
