-- Laws on tests: what a Bool that was computed says, and how tests combine.
-- Assumes nothing.
use Rattle.std.specs.Prelude.{ℕ, ◌≤◌, ◌<◌, max, Bool, true, false, cond, not, ◌&&◌, ◌||◌, ◌⊎◌, ◌≡◌, refl, T, leb, ltb, eqb}
use Rattle.std.proofs.Common.{true≢false, inl, inr, sym, arith, le-leb, ltb-true, ltb-false, leb-true, leb-false, eqb-true}
use Rattle.std.proofs.lemmas.Bool.{lt-leb, eqb-false}

-- ---- T b and b ≡ true

pub T_true : (b : Bool) → T b → b ≡ true
T_true true t = refl
T_true false t = absurd t

pub true_T : (b : Bool) → b ≡ true → T b
true_T true e = tt
true_T false e = absurd (true≢false (sym e))

-- two tests that imply each other
pub same_test : (a b : Bool) → (a ≡ true → b ≡ true) → (b ≡ true → a ≡ true) → a ≡ b
same_test true b f g = sym (f refl)
same_test false true f g = g refl
same_test false false f g = refl

-- ---- and

pub and_left : (a b : Bool) → T (a && b) → T a
and_left true b t = tt
and_left false b t = t

pub and_right : (a b : Bool) → T (a && b) → T b
and_right true b t = t
and_right false b t = absurd t

pub and_pair : (a b : Bool) → T a → T b → T (a && b)
and_pair true b t u = u
and_pair false b t u = t

pub and_both : (a b : Bool) → a ≡ true → b ≡ true → a && b ≡ true
and_both a b p q = rw (p, q)

pub and_first : (a b : Bool) → a && b ≡ true → a ≡ true
and_first true b e = refl
and_first false b e = absurd (true≢false (sym e))

pub and_second : (a b : Bool) → a && b ≡ true → b ≡ true
and_second true b e = e
and_second false b e = absurd (true≢false (sym e))

pub and_no : (a b : Bool) → b ≡ false → a && b ≡ false
and_no true b e = e
and_no false b e = refl

pub all4 : (x y z w : Bool) → (x && (y && (z && w))) ≡ true → (x ≡ true) × (y ≡ true) × (z ≡ true) × (w ≡ true)
all4 x y z w e =
    let b = and_second x (y && (z && w)) e in let c = and_second y (z && w) b in
    (and_first x (y && (z && w)) e, and_first y (z && w) b, and_first z w c, and_second z w c)

-- ---- or

pub or_first : (a b : Bool) → a ≡ true → a || b ≡ true
or_first a b e = rw e

pub or_second : (a b : Bool) → b ≡ true → a || b ≡ true
or_second true b e = refl
or_second false b e = e

pub or_left : (a b : Bool) → a || b ≡ false → a ≡ false
or_left true b e = e
or_left false b e = refl

pub or_right : (a b : Bool) → a || b ≡ false → b ≡ false
or_right true b e = absurd (true≢false e)
or_right false b e = e

-- ---- equality and implication, as tests

unfoldable pub alike : Bool → Bool → Bool
alike true b = b
alike false b = not b

pub alike_eq : (a b : Bool) → T (alike a b) → a ≡ b
unfolding alike
alike_eq true true t = refl
alike_eq true false t = absurd t
alike_eq false true t = absurd t
alike_eq false false t = refl

unfoldable pub implies : Bool → Bool → Bool
implies true b = b
implies false b = true

pub implies_use : (a b : Bool) → T (implies a b) → T a → T b
unfolding implies
implies_use true b t u = t
implies_use false b t u = absurd u

-- ---- choice

module _ {A : Type 0} where
  pub cond_true : (b : Bool) (x y : A) → b ≡ true → cond b x y ≡ x
  cond_true b x y e = rw e

  pub cond_false : (b : Bool) (x y : A) → b ≡ false → cond b x y ≡ y
  cond_false b x y e = rw e

  pub cond_same : (b : Bool) (x : A) → cond b x x ≡ x
  cond_same true x = refl
  cond_same false x = refl

  -- one choice inside another
  pub cond_and : (b c : Bool) (x y : A) → cond (b && c) x y ≡ cond b (cond c x y) y
  cond_and true c x y = refl
  cond_and false c x y = refl

-- ---- numbers

-- below m, or at least m
pub split : {P : Type 0} (v m : ℕ) → (v < m → P) → (m ≤ v → P) → P
split {P} v m below above = go (ltb v m) refl
  where
    go : (b : Bool) → ltb v m ≡ b → P
    go true e = below (ltb-true v m e)
    go false e = above (ltb-false v m e)

pub compared : (k n : ℕ) → (k < n) ⊎ ((k ≡ n) ⊎ (n < k))
compared k n = go (ltb k n) refl (eqb k n) refl
  where
    go : (a : Bool) → ltb k n ≡ a → (b : Bool) → eqb k n ≡ b → (k < n) ⊎ ((k ≡ n) ⊎ (n < k))
    go true e b q = inl (ltb-true k n e)
    go false e true q = inr (inl (eqb-true k n q))
    go false e false q = let ne = eqb-false k n q in let le = ltb-false k n e in inr (inr (omega arith))

pub leb_max : (a b n : ℕ) → leb (max a b) n ≡ leb a n && leb b n
leb_max a b n = go (leb a n) refl (leb b n) refl
  where
    go : (s : Bool) → leb a n ≡ s → (t : Bool) → leb b n ≡ t → leb (max a b) n ≡ s && t
    go true p true q = le-leb (max a b) n (omega (arith, leb-true a n p, leb-true b n q))
    go true p false q = lt-leb (max a b) n (omega (arith, leb-false b n q))
    go false p t q = lt-leb (max a b) n (omega (arith, leb-false a n p))
