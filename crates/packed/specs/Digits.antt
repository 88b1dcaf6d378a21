-- A line of modules as a number, its first module the lowest digit; how the operations on such a number go by digits.
-- Assumes nothing.
use Rattle.std.specs.Prelude.{◌≡◌, refl, List, [], ◌∷◌, ℕ, zero, suc, ◌+◌, ◌-◌, ◌*◌, ◌/◌, ◌%◌, ◌^◌, ◌<◌, min, max}
use Rattle.std.proofs.Common.{ap, ◌∙◌, mod-lt, zero-lt-suc, pow-suc, arith, lit<, pow_pos}
use Rattle.std.proofs.Math.Arith.{digits_mod, digits_div, dbl_pred}
use Rattle.std.specs.Int.Bits.{bit_and, bit_or, and_step, or_step}
use Rattle.std.proofs.lemmas.Nat.{and_shr, or_shr}

unfoldable pub value : List ℕ → ℕ
value [] = 0
value (x ∷ xs) = value xs * 2 + x

mod2 : (n : ℕ) → n % 2 < 2
mod2 n = mod-lt n (zero-lt-suc 1)

pub and_half : (a b : ℕ) → bit_and a b / 2 ≡ bit_and (a / 2) (b / 2)
and_half a b = and_shr a b 1

pub or_half : (a b : ℕ) → bit_or a b / 2 ≡ bit_or (a / 2) (b / 2)
or_half a b = or_shr a b 1

pub and_odd : (a b : ℕ) → bit_and a b % 2 ≡ min (a % 2) (b % 2)
and_odd a b = ap (λ (x : ℕ). x % 2) (and_step a b) ∙ digits_mod (bit_and (a / 2) (b / 2)) (omega (arith, mod2 a))

pub or_odd : (a b : ℕ) → bit_or a b % 2 ≡ max (a % 2) (b % 2)
or_odd a b = ap (λ (x : ℕ). x % 2) (or_step a b) ∙ digits_mod (bit_or (a / 2) (b / 2)) (omega (arith, mod2 a, mod2 b))

-- ---- the digits 0 .. k - 1
abbrev pub low : ℕ → ℕ
low k = 2 ^ k - 1

low_step : (k : ℕ) → low (suc k) ≡ low k * 2 + 1
low_step k = ap (λ (x : ℕ). x - 1) (pow-suc 2 k) ∙ dbl_pred (pow_pos k)

pub low_half : (k : ℕ) → low k / 2 ≡ low (k - 1)
low_half zero = refl
low_half (suc k) = rw (low_step k, digits_div (low k) {m = 2} {r = 1} (lit< tt)) (ap low (omega arith))

pub low_odd : (k : ℕ) → low (suc k) % 2 ≡ 1
low_odd k = rw (low_step k) (digits_mod (low k) {m = 2} {r = 1} (lit< tt))

pub value_odd : (x : ℕ) (xs : List ℕ) → x < 2 → value (x ∷ xs) % 2 ≡ x
unfolding value
value_odd x xs h = digits_mod (value xs) h

pub value_half : (x : ℕ) (xs : List ℕ) → x < 2 → value (x ∷ xs) / 2 ≡ value xs
unfolding value
value_half x xs h = digits_div (value xs) h
