-- Laws that the proof of `run_size` cites: how long a run is, in numbers that do not overflow.
-- Assumes nothing.
use Rattle.std.specs.Prelude.{◌≡◌, ℕ, ◌+◌, ◌*◌, ◌/◌, ◌%◌, ◌^◌, ◌<◌, ◌≤◌}
use Rattle.std.proofs.Common.{sym, ap, ap₂, ◌∙◌, subst, arith, div-le_self, mul-le-mul_left, mul-le-mul_right, mod-lt}
use Rattle.segments.specs.Kinds.{size, width}
use Rattle.segments.specs.Tables.{width_le}
use Rattle.segments.specs.Runs.{size_pos, run_size}

pub full_pos : (k s : ℕ) → s ≡ size k → 0 < s
full_pos k s e = subst (λ (i : ℕ). 0 < i) (sym e) (size_pos k)

pub rest_le : (k s n : ℕ) → s ≡ size k → n % s ≤ size k
rest_le k s n e = let h : n % s < s = mod-lt n (full_pos k s e) in omega arith

quotient_le : (n s : ℕ) → n / s ≤ n
quotient_le n s = div-le_self n s

pub product_small : (k s n m w : ℕ) → w ≡ width k m → n < 2 ^ 32 → n / s * w < 2 ^ 40
product_small k s n m w e h =
    let a : n / s * w ≤ n * w = mul-le-mul_right w (quotient_le n s) in
    let b : n * w ≤ n * 11 = mul-le-mul_left n (subst (λ (i : ℕ). i ≤ 11) (sym e) (width_le k m)) in
    omega arith

pub product_64 : (k s n m w : ℕ) → w ≡ width k m → n < 2 ^ 32 → n / s * w < 2 ^ 64
product_64 k s n m w e h = omega (arith, product_small k s n m w e h)

pub sum_64 : (k s n m w i v : ℕ) → w ≡ width k m → v ≡ width k i → n < 2 ^ 32 → n / s * w + v < 2 ^ 64
sum_64 k s n m w i v e f h = omega (arith, product_small k s n m w e h, width_le k i)

pub size_is : (k s n w v : ℕ) → s ≡ size k → w ≡ width k s → v ≡ width k (n % s) → n / s * w + v ≡ run_size k n
size_is k s n w v e f g =
    ap₂ (λ (a b : ℕ). n / s * a + b) f g ∙ ap (λ (i : ℕ). n / i * width k i + width k (n % i)) e
