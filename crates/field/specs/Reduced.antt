-- The product of the field as one would define it by hand: the product of two polynomials over the field of two elements, with no carries,
-- and what long division by 11D (hex) leaves of it. It is `times`. Assumes nothing.
use Rattle.std.specs.Prelude.{◌≡◌, refl, Bool, ℕ, zero, suc, ◌+◌, ◌*◌, ◌/◌, ◌%◌, ◌^◌, ◌<◌, eqb}
use Rattle.std.proofs.Common.{sym, ap, ap₂, ◌∙◌, zero-lt-suc, mod-lt, eqb→eq}
use Rattle.std.specs.Int.Bits.{bit_xor, xor_self}
use Rattle.std.proofs.lemmas.Nat.{xor_shr}
use Rattle.standard.specs.Field.{double, times_low, times}
use Rattle.laws.specs.Computed.{among, below}
use Rattle.laws.specs.Xor.{xor_half, xor_odd, xor4, xor_dbl, differ_scale, bit_scale, basis_ind}
use Rattle.field.specs.Times.{times_xor_l, times_xor_r, times_zero_l, times_zero_r}

-- the product of a and the k low bits of b, with no modulus
unfoldable pub carryless : ℕ → ℕ → ℕ → ℕ
carryless zero a b = 0
carryless (suc k) a b = bit_xor (carryless k a (b / 2) * 2) (b % 2 * a)

-- long division by 11D: the bits from 8 + k - 1 down to 8 are taken away
unfoldable pub reduce : ℕ → ℕ → ℕ
reduce zero n = n
reduce (suc k) n = reduce k (bit_xor n (n / 2 ^ (8 + k) % 2 * (0x11D * 2 ^ k)))

mod2 : (n : ℕ) → n % 2 < 2
mod2 n = mod-lt n (zero-lt-suc 1)

carryless_l : (k a b y : ℕ) → carryless k (bit_xor a b) y ≡ bit_xor (carryless k a y) (carryless k b y)
unfolding carryless
carryless_l zero a b y = refl
carryless_l (suc k) a b y =
    ap₂ bit_xor (ap (λ (n : ℕ). n * 2) (carryless_l k a b (y / 2)) ∙ xor_dbl (carryless k a (y / 2)) (carryless k b (y / 2))) (bit_scale (y % 2) a b (mod2 y))
    ∙ xor4 (carryless k a (y / 2) * 2) (carryless k b (y / 2) * 2) (y % 2 * a) (y % 2 * b)

carryless_r : (k x a b : ℕ) → carryless k x (bit_xor a b) ≡ bit_xor (carryless k x a) (carryless k x b)
unfolding carryless
carryless_r zero x a b = refl
carryless_r (suc k) x a b =
    ap₂ bit_xor
    (ap (λ (n : ℕ). carryless k x n * 2) (xor_half a b) ∙ ap (λ (n : ℕ). n * 2) (carryless_r k x (a / 2) (b / 2)) ∙ xor_dbl (carryless k x (a / 2)) (carryless k x (b / 2)))
    (ap (λ (n : ℕ). n * x) (xor_odd a b) ∙ differ_scale (a % 2) (b % 2) x (mod2 a) (mod2 b))
    ∙ xor4 (carryless k x (a / 2) * 2) (carryless k x (b / 2) * 2) (a % 2 * x) (b % 2 * x)

reduce_xor : (k a b : ℕ) → reduce k (bit_xor a b) ≡ bit_xor (reduce k a) (reduce k b)
unfolding reduce
reduce_xor zero a b = refl
reduce_xor (suc k) a b =
    let c = 0x11D * 2 ^ k in
    let u = a / 2 ^ (8 + k) in
    let v = b / 2 ^ (8 + k) in
    ap (reduce k)
    (ap (bit_xor (bit_xor a b)) (ap (λ (n : ℕ). n % 2 * c) (xor_shr a b (8 + k)) ∙ ap (λ (n : ℕ). n * c) (xor_odd u v) ∙ differ_scale (u % 2) (v % 2) c (mod2 u) (mod2 v))
    ∙ xor4 a b (u % 2 * c) (v % 2 * c))
    ∙ reduce_xor k (bit_xor a (u % 2 * c)) (bit_xor b (v % 2 * c))

-- the product, then the division
unfoldable pub reduced : ℕ → ℕ → ℕ
reduced a b = reduce 7 (carryless 8 a b)

reduced_l : (a b y : ℕ) → reduced (bit_xor a b) y ≡ bit_xor (reduced a y) (reduced b y)
unfolding reduced
reduced_l a b y = ap (reduce 7) (carryless_l 8 a b y) ∙ reduce_xor 7 (carryless 8 a y) (carryless 8 b y)

reduced_r : (x a b : ℕ) → reduced x (bit_xor a b) ≡ bit_xor (reduced x a) (reduced x b)
unfolding reduced
reduced_r x a b = ap (reduce 7) (carryless_r 8 x a b) ∙ reduce_xor 7 (carryless 8 x a) (carryless 8 x b)

test : ℕ → ℕ → Bool
test i j = eqb (times (2 ^ i) (2 ^ j)) (reduced (2 ^ i) (2 ^ j))

all : (i : ℕ) → i < 8 → (j : ℕ) → j < 8 → times (2 ^ i) (2 ^ j) ≡ reduced (2 ^ i) (2 ^ j)
unfolding test times times_low double reduced reduce carryless
all i hi j hj =
    eqb→eq (times (2 ^ i) (2 ^ j)) (reduced (2 ^ i) (2 ^ j))
    (below (λ (m : ℕ). test i m) 8 (below (λ (n : ℕ). among 0 8 (λ (m : ℕ). test n m)) 8 tt i hi) j hj)

-- THE LAW
pub times_reduced : (a b : ℕ) → a < 256 → b < 256 → times a b ≡ reduced a b
times_reduced a b ha hb =
    basis_ind (λ (x : ℕ). times x b ≡ reduced x b) (times_zero_l b ∙ sym (reduced_l 0 0 b ∙ xor_self (reduced 0 b)))
    (λ x y p q. times_xor_l x y b ∙ ap₂ bit_xor p q ∙ sym (reduced_l x y b)) 8
    (λ i hi. basis_ind (λ (y : ℕ). times (2 ^ i) y ≡ reduced (2 ^ i) y) (times_zero_r (2 ^ i) ∙ sym (reduced_r (2 ^ i) 0 0 ∙ xor_self (reduced (2 ^ i) 0)))
    (λ x y p q. times_xor_r (2 ^ i) x y ∙ ap₂ bit_xor p q ∙ sym (reduced_r (2 ^ i) x y)) 8 (all i hi) b hb) a ha
