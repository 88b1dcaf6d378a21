-- What `lib.Bits` lacks of `bit_xor`: it is associative, and doubling, halving and the choice by a bit are linear.
-- Assumes nothing.
use Rattle.std.specs.Prelude.{◌≡◌, refl, ℕ, zero, suc, ◌+◌, ◌*◌, ◌/◌, ◌%◌, ◌^◌, ◌<◌}
use Rattle.std.proofs.Common.{sym, ap, ap₂, ◌∙◌, subst, zero-lt-suc, add-zero, zero-mul, one-mul, mod-lt, le_refl, pow-suc, div-lt_iff_lt-mul, mul_comm, arith, pow_pos}
use Rattle.std.proofs.Math.Arith.{bin_ind, digits_mod}
use Rattle.std.specs.Int.Bits.{bit_xor, differ, xor_step, xor_zero_r, xor_self, xor_shifted}
use Rattle.std.proofs.lemmas.Nat.{xor_shr, xor_block, xor_comm}
use Rattle.std.proofs.Math.Pow.{split}

mod2 : (n : ℕ) → n % 2 < 2
mod2 n = mod-lt n (zero-lt-suc 1)

differ_lt : (x y : ℕ) → x < 2 → y < 2 → differ x y < 2
differ_lt zero y hx hy = hy
differ_lt (suc zero) zero hx hy = hx
differ_lt (suc zero) (suc zero) hx hy = zero-lt-suc 1
differ_lt (suc zero) (suc (suc y)) hx hy = omega arith
differ_lt (suc (suc x)) y hx hy = omega arith

differ_assoc : (x y z : ℕ) → x < 2 → y < 2 → z < 2 → differ (differ x y) z ≡ differ x (differ y z)
differ_assoc zero y z hx hy hz = refl
differ_assoc (suc zero) zero z hx hy hz = refl
differ_assoc (suc zero) (suc zero) zero hx hy hz = refl
differ_assoc (suc zero) (suc zero) (suc zero) hx hy hz = refl
differ_assoc (suc zero) (suc zero) (suc (suc z)) hx hy hz = omega arith
differ_assoc (suc zero) (suc (suc y)) z hx hy hz = omega arith
differ_assoc (suc (suc x)) y z hx hy hz = omega arith

pub xor_half : (a b : ℕ) → bit_xor a b / 2 ≡ bit_xor (a / 2) (b / 2)
xor_half a b = xor_shr a b 1

pub xor_odd : (a b : ℕ) → bit_xor a b % 2 ≡ differ (a % 2) (b % 2)
xor_odd a b = ap (λ (x : ℕ). x % 2) (xor_step a b) ∙ digits_mod (bit_xor (a / 2) (b / 2)) (differ_lt (a % 2) (b % 2) (mod2 a) (mod2 b))

pub xor_assoc : (a b c : ℕ) → bit_xor (bit_xor a b) c ≡ bit_xor a (bit_xor b c)
xor_assoc =
    bin_ind (λ (n : ℕ). (b c : ℕ) → bit_xor (bit_xor n b) c ≡ bit_xor n (bit_xor b c)) (λ b c. refl)
    (λ n ih b c. xor_step (bit_xor n b) c
    ∙ ap₂ (λ (x y : ℕ). x * 2 + y)
    (ap (λ (x : ℕ). bit_xor x (c / 2)) (xor_half n b) ∙ ih (b / 2) (c / 2) ∙ ap (λ (x : ℕ). bit_xor (n / 2) x) (sym (xor_half b c)))
    (ap (λ (x : ℕ). differ x (c % 2)) (xor_odd n b) ∙ differ_assoc (n % 2) (b % 2) (c % 2) (mod2 n) (mod2 b) (mod2 c)
    ∙ ap (λ (x : ℕ). differ (n % 2) x) (sym (xor_odd b c)))
    ∙ sym (xor_step n (bit_xor b c)))

pub xor_left_comm : (a b c : ℕ) → bit_xor a (bit_xor b c) ≡ bit_xor b (bit_xor a c)
xor_left_comm a b c = sym (xor_assoc a b c) ∙ ap (λ (x : ℕ). bit_xor x c) (xor_comm a b) ∙ xor_assoc b a c

-- two sums, regrouped
pub xor4 : (a b c d : ℕ) → bit_xor (bit_xor a b) (bit_xor c d) ≡ bit_xor (bit_xor a c) (bit_xor b d)
xor4 a b c d = xor_assoc a b (bit_xor c d) ∙ ap (λ (x : ℕ). bit_xor a x) (xor_left_comm b c d) ∙ sym (xor_assoc a c (bit_xor b d))

-- a + (a + b) is b
pub xor_cancel : (a b : ℕ) → bit_xor a (bit_xor a b) ≡ b
xor_cancel a b = sym (xor_assoc a a b) ∙ ap (λ (x : ℕ). bit_xor x b) (xor_self a)

pub xor_eq_zero : (a b : ℕ) → bit_xor a b ≡ 0 → a ≡ b
xor_eq_zero a b e = sym (xor_zero_r a) ∙ ap (λ (x : ℕ). bit_xor a x) (sym e) ∙ xor_cancel a b

pub xor_dbl : (a b : ℕ) → bit_xor a b * 2 ≡ bit_xor (a * 2) (b * 2)
xor_dbl a b =
    sym (add-zero (bit_xor a b * 2)) ∙ sym (xor_block 1 a b 0 0 (zero-lt-suc 1) (zero-lt-suc 1))
    ∙ ap₂ bit_xor (add-zero (a * 2)) (add-zero (b * 2))

-- a bit chooses c or 0
pub differ_scale : (p q c : ℕ) → p < 2 → q < 2 → differ p q * c ≡ bit_xor (p * c) (q * c)
differ_scale zero q c hp hq = ap (λ (x : ℕ). bit_xor x (q * c)) (sym (zero-mul c))
differ_scale (suc zero) zero c hp hq = sym (ap (λ (x : ℕ). bit_xor (1 * c) x) (zero-mul c) ∙ xor_zero_r (1 * c))
differ_scale (suc zero) (suc zero) c hp hq = zero-mul c ∙ sym (xor_self (1 * c))
differ_scale (suc zero) (suc (suc q)) c hp hq = omega arith
differ_scale (suc (suc p)) q c hp hq = omega arith

pub bit_scale : (p a b : ℕ) → p < 2 → p * bit_xor a b ≡ bit_xor (p * a) (p * b)
bit_scale zero a b h = zero-mul (bit_xor a b) ∙ ap₂ bit_xor (sym (zero-mul a)) (sym (zero-mul b))
bit_scale (suc zero) a b h = one-mul (bit_xor a b) ∙ ap₂ bit_xor (sym (one-mul a)) (sym (one-mul b))
bit_scale (suc (suc p)) a b h = omega arith

-- ---- what is linear, and holds at the powers of two, holds of all numbers of k bits
pub basis_ind : (P : ℕ → Type 0) → P 0 → ((a b : ℕ) → P a → P b → P (bit_xor a b)) → (k : ℕ) → ((i : ℕ) → i < k → P (2 ^ i))
    → (n : ℕ) → n < 2 ^ k → P n
basis_ind P p0 px zero pb n h = subst P (omega arith) p0
basis_ind P p0 px (suc k) pb n h =
    subst P (xor_shifted (n / 2 ^ k) k (n % 2 ^ k) (mod-lt n (pow_pos k)) ∙ split n k)
    (px (n / 2 ^ k * 2 ^ k) (n % 2 ^ k)
    (top (n / 2 ^ k) ((div-lt_iff_lt-mul (pow_pos k)).1 (subst (λ (x : ℕ). n < x) (pow-suc 2 k ∙ mul_comm (2 ^ k) 2) h)))
    (basis_ind P p0 px k (λ i l. pb i (omega arith)) (n % 2 ^ k) (mod-lt n (pow_pos k))))
  where
    top : (q : ℕ) → q < 2 → P (q * 2 ^ k)
    top zero l = subst P (sym (zero-mul (2 ^ k))) p0
    top (suc zero) l = subst P (sym (one-mul (2 ^ k))) (pb k (le_refl (suc k)))
    top (suc (suc q)) l = absurd (omega arith)
