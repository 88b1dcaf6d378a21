-- Laws of the question for one module: which sides are valid, when the answer is light, and what a signed coordinate is.
-- Assumes nothing.
use Rattle.std.specs.Prelude.{ℕ, ◌+◌, ◌*◌, ◌%◌, ◌≤◌, ◌<◌, Bool, ◌&&◌, List, ◌≡◌, T, leb, eqb, ℤ, pos, negsuc, nat_abs, length}
use Rattle.std.proofs.Math.Bool.{true, false}
use Rattle.std.proofs.Common.{true≢false, sym, ap₂, ◌∙◌, mul-le-mul, arith, Fits, SFits, to_z, of_z}
use Rattle.std.proofs.Math.Path.{refl}
use Rattle.std.proofs.Math.Arith.{digits_lt}
use Rattle.std.specs.Int.Signed.{lt_z, non_neg, pos-nat_abs}
use Rattle.std.specs.Int.{w32, w64}
use Rattle.std.proofs.lemmas.Int.{to_z-of_z}
use borrow.Author.Tests.{le-leb, eq-eqb, eqb-true, ltb-true, leb-true}
use Rattle.standard.specs.Sizes.{side}
use Rattle.standard.specs.Module.{version_of, valid_side, dark}
use Rattle.laws.specs.Tests.{same_test, and_first, and_second}

-- ---- sides

pub valid_range : (s : ℕ) → valid_side s ≡ true → (s ≡ side (version_of s)) × (1 ≤ version_of s) × (version_of s ≤ 40)
unfolding valid_side
valid_range s e =
    let rest = and_second (eqb s (side (version_of s))) (leb 1 (version_of s) && leb (version_of s) 40) e in (
      eqb-true s (side (version_of s)) (and_first (eqb s (side (version_of s))) (leb 1 (version_of s) && leb (version_of s) 40) e),
      leb-true 1 (version_of s) (and_first (leb 1 (version_of s)) (leb (version_of s) 40) rest),
      leb-true (version_of s) 40 (and_second (leb 1 (version_of s)) (leb (version_of s) 40) rest),
    )

valid_not : (s : ℕ) → ((s ≡ side (version_of s)) → (1 ≤ version_of s) → (version_of s ≤ 40) → ⊥) → false ≡ valid_side s
valid_not s never = go (valid_side s) refl
  where
    go : (b : Bool) → valid_side s ≡ b → false ≡ b
    go false e = refl
    go true e = let r = valid_range s e in absurd (never r.0 r.1 r.2)

pub valid_low : (s : ℕ) → s < 21 → false ≡ valid_side s
valid_low s h = valid_not s (λ e low high. omega arith)

pub valid_high : (s : ℕ) → 177 < s → false ≡ valid_side s
valid_high s h = valid_not s (λ e low high. omega arith)

pub valid_rest : (s : ℕ) → 21 ≤ s → s ≤ 177 → eqb (s % 4) 1 ≡ valid_side s
unfolding valid_side
valid_rest s low high =
    same_test (eqb (s % 4) 1) (valid_side s)
    (λ e.
    let r = eqb-true (s % 4) 1 e in
    rw (eq-eqb s (side (version_of s)) (omega arith), le-leb 1 (version_of s) (omega arith), le-leb (version_of s) 40 (omega arith)))
    (λ e. let r = valid_range s e in eq-eqb (s % 4) 1 (omega arith))

-- the place lies in the grid
pub place_lt : (s : ℕ) (g : List ℕ) (x y : ℕ) → s * s ≤ length g → x < s → y < s → y * s + x < length g
place_lt s g x y long hx hy = omega (arith, digits_lt hy hx)

-- a valid side is small
pub side_small : (s : ℕ) (b : Bool) → b ≡ valid_side s → b ≡ true → s * s ≤ 31329
side_small s b e t = let r = valid_range s (sym e ∙ t) in let small : s ≤ 177 = omega arith in mul-le-mul small small

-- ---- signed coordinates

module _ (s : ℕ) (g : List ℕ) where
  left : (x y : ℤ) → lt_z x (pos 0) ≡ true → false ≡ dark s g x y
  unfolding dark
  left (pos n) y e = absurd (omega (arith, ltb-true n 0 e))
  left (negsuc n) y e = refl

  up : (x y : ℤ) → lt_z y (pos 0) ≡ true → false ≡ dark s g x y
  unfolding dark
  up (pos n) (pos m) e = absurd (omega (arith, ltb-true m 0 e))
  up (pos n) (negsuc m) e = refl
  up (negsuc n) y e = refl

  pub left_of : (x y : ℤ) → lt_z (to_z w32 (of_z w32 x)) (pos 0) ≡ true → SFits w32 x → false ≡ dark s g x y
  left_of x y e f = left x y (rw (to_z-of_z w32 x f) at e)

  pub above : (x y : ℤ) → lt_z (to_z w32 (of_z w32 y)) (pos 0) ≡ true → SFits w32 y → false ≡ dark s g x y
  above x y e f = up x y (rw (to_z-of_z w32 y f) at e)

fits_of : (z : ℤ) → lt_z z (pos 0) ≡ false → SFits w32 z → T (non_neg z) × Fits w64 (nat_abs z)
fits_of (pos n) e f = (tt, record { fits = omega (arith, f.sfits) })
fits_of (negsuc n) e f = absurd (true≢false e)

pub not_negative : (z : ℤ) → lt_z (to_z w32 (of_z w32 z)) (pos 0) ≡ false → SFits w32 z → T (non_neg (to_z w32 (of_z w32 z))) × Fits w64 (nat_abs (to_z w32 (of_z w32 z)))
not_negative z e f = rw (to_z-of_z w32 z f) (fits_of z (rw (to_z-of_z w32 z f) at e) f)

-- the number of a coordinate that is not negative
number : (z : ℤ) → lt_z (to_z w32 (of_z w32 z)) (pos 0) ≡ false → SFits w32 z → pos (nat_abs (to_z w32 (of_z w32 z))) ≡ z
number z e f = pos-nat_abs (to_z w32 (of_z w32 z)) (not_negative z e f).0 ∙ to_z-of_z w32 z f

pub dark_is : (s : ℕ) (g : List ℕ) (x y : ℤ) (b : Bool) → b ≡ dark s g (pos (nat_abs (to_z w32 (of_z w32 x)))) (pos (nat_abs (to_z w32 (of_z w32 y))))
    → lt_z (to_z w32 (of_z w32 x)) (pos 0) ≡ false → lt_z (to_z w32 (of_z w32 y)) (pos 0) ≡ false → SFits w32 x → SFits w32 y → b ≡ dark s g x y
dark_is s g x y b e nx ny fx fy = e ∙ ap₂ (dark s g) (number x nx fx) (number y ny fy)
