-- The bits of an ECI number: as one field, and appended.
-- Assumes nothing.
use Rattle.std.specs.Prelude.{◌≡◌, ℕ, ◌+◌, ◌/◌, ◌%◌, ◌^◌, ◌<◌, ◌≤◌, cond, List, ◌∷◌, ◌++◌, nat_lt}
use Rattle.std.proofs.Common.{sym, ap, ap₂, ◌∙◌, subst, arith, lt-ltb, le-ltb}
use Rattle.std.proofs.Math.Nat.{mul-add-mod_self_right}
use Rattle.standard.specs.Bits.{bits}
use Rattle.standard.specs.Kinds.{eci_bits}
use Rattle.laws.specs.Tests.{cond_true, cond_false}
use Rattle.bits.specs.Fields.{bits_low}
use Rattle.bits.specs.Appended.{Free, Appended, first_free, second_free, both_done}

-- only the low bits count
two : (n : ℕ) → n < 16_384 → 1 ∷ 0 ∷ bits 14 n ≡ bits 16 (32_768 + n)
unfolding bits
two n h =
    let e : (32_768 + n) % 2 ^ 14 ≡ n % 2 ^ 14 = mul-add-mod_self_right 2 (2 ^ 14) n in
    let aq : (32_768 + n) / 2 ^ 15 ≡ 1 = omega arith in
    let a : 1 ≡ (32_768 + n) / 2 ^ 15 % 2 = sym (ap (λ (k : ℕ). k % 2) aq) in
    let bq : (32_768 + n) / 2 ^ 14 ≡ 2 = omega arith in
    let b : 0 ≡ (32_768 + n) / 2 ^ 14 % 2 = sym (ap (λ (k : ℕ). k % 2) bq) in
    let low : bits 14 n ≡ bits 14 (32_768 + n) = sym (bits_low 14 n) ∙ ap (bits 14) (sym e) ∙ bits_low 14 (32_768 + n) in
    ap₂ (λ (x : ℕ) (l : List ℕ). x ∷ l) a (ap₂ (λ (x : ℕ) (l : List ℕ). x ∷ l) b low)

three : (n : ℕ) → n < 2_097_152 → 1 ∷ 1 ∷ 0 ∷ bits 21 n ≡ bits 24 (12_582_912 + n)
unfolding bits
three n h =
    let e : (12_582_912 + n) % 2 ^ 21 ≡ n % 2 ^ 21 = mul-add-mod_self_right 6 (2 ^ 21) n in
    let aq : (12_582_912 + n) / 2 ^ 23 ≡ 1 = omega arith in
    let a : 1 ≡ (12_582_912 + n) / 2 ^ 23 % 2 = sym (ap (λ (k : ℕ). k % 2) aq) in
    let bq : (12_582_912 + n) / 2 ^ 22 ≡ 3 = omega arith in
    let b : 1 ≡ (12_582_912 + n) / 2 ^ 22 % 2 = sym (ap (λ (k : ℕ). k % 2) bq) in
    let cq : (12_582_912 + n) / 2 ^ 21 ≡ 6 = omega arith in
    let c : 0 ≡ (12_582_912 + n) / 2 ^ 21 % 2 = sym (ap (λ (k : ℕ). k % 2) cq) in
    let low : bits 21 n ≡ bits 21 (12_582_912 + n) = sym (bits_low 21 n) ∙ ap (bits 21) (sym e) ∙ bits_low 21 (12_582_912 + n) in
    ap₂ (λ (x : ℕ) (l : List ℕ). x ∷ l) a (ap₂ (λ (x : ℕ) (l : List ℕ). x ∷ l) b (ap₂ (λ (x : ℕ) (l : List ℕ). x ∷ l) c low))

-- ---- by size

pub small_bits : (n : ℕ) → n < 128 → eci_bits n ≡ bits 8 n
unfolding eci_bits
small_bits n h = cond_true (nat_lt n 128) (bits 8 n) (cond (nat_lt n 16_384) (1 ∷ 0 ∷ bits 14 n) (1 ∷ 1 ∷ 0 ∷ bits 21 n)) (lt-ltb n 128 h)

pub middle_bits : (n : ℕ) → 128 ≤ n → n < 16_384 → eci_bits n ≡ bits 16 (32_768 + n)
unfolding eci_bits
middle_bits n l h =
    cond_false (nat_lt n 128) (bits 8 n) (cond (nat_lt n 16_384) (1 ∷ 0 ∷ bits 14 n) (1 ∷ 1 ∷ 0 ∷ bits 21 n)) (le-ltb n 128 l)
    ∙ cond_true (nat_lt n 16_384) (1 ∷ 0 ∷ bits 14 n) (1 ∷ 1 ∷ 0 ∷ bits 21 n) (lt-ltb n 16_384 h)
    ∙ two n h

pub large_bits : (n : ℕ) → 16_384 ≤ n → n < 1_000_000 → eci_bits n ≡ bits 24 (12_582_912 + n)
unfolding eci_bits
large_bits n l h =
    cond_false (nat_lt n 128) (bits 8 n) (cond (nat_lt n 16_384) (1 ∷ 0 ∷ bits 14 n) (1 ∷ 1 ∷ 0 ∷ bits 21 n)) (le-ltb n 128 (omega arith))
    ∙ cond_false (nat_lt n 16_384) (1 ∷ 0 ∷ bits 14 n) (1 ∷ 1 ∷ 0 ∷ bits 21 n) (le-ltb n 16_384 l)
    ∙ three n (omega arith)

-- ---- appended in the two fields of each size

middle_parts : (n : ℕ) → 128 ≤ n → n < 16_384 → eci_bits n ≡ bits 2 2 ++ bits 14 n
unfolding eci_bits bits
middle_parts n l h = simp (le-ltb n 128 l, lt-ltb n 16_384 h)

large_parts : (n : ℕ) → 16_384 ≤ n → eci_bits n ≡ bits 3 6 ++ bits 21 n
unfolding eci_bits bits
large_parts n l = let k : 128 ≤ n = omega arith in simp (le-ltb n 128 k, le-ltb n 16_384 l)

module _ (buf : List ℕ) (at n : ℕ) (f : Free buf at (eci_bits n)) where
  pub small_free : n < 128 → Free buf at (bits 8 n)
  small_free h = subst (λ (l : List ℕ). Free buf at l) (small_bits n h) f

  pub middle_first : 128 ≤ n → n < 16_384 → Free buf at (bits 2 2)
  middle_first l h = first_free buf at (eci_bits n) (bits 2 2) (bits 14 n) f (middle_parts n l h)

  pub middle_second : (new : List ℕ) (p : ℕ) → Appended buf new at p (bits 2 2) → 128 ≤ n → n < 16_384 → Free new p (bits 14 n)
  middle_second new p a l h = second_free buf at (eci_bits n) (bits 2 2) (bits 14 n) f (middle_parts n l h) new p a

  pub middle_done : (new new₂ : List ℕ) (p r : ℕ) → Appended buf new at p (bits 2 2) → Appended new new₂ p r (bits 14 n) → 128 ≤ n → n < 16_384 → Appended buf new₂ at r (eci_bits n)
  middle_done new new₂ p r a b l h = both_done buf at (eci_bits n) (bits 2 2) (bits 14 n) f (middle_parts n l h) new new₂ p r a b

  pub large_first : 16_384 ≤ n → Free buf at (bits 3 6)
  large_first l = first_free buf at (eci_bits n) (bits 3 6) (bits 21 n) f (large_parts n l)

  pub large_second : (new : List ℕ) (p : ℕ) → Appended buf new at p (bits 3 6) → 16_384 ≤ n → Free new p (bits 21 n)
  large_second new p a l = second_free buf at (eci_bits n) (bits 3 6) (bits 21 n) f (large_parts n l) new p a

  pub large_done : (new new₂ : List ℕ) (p r : ℕ) → Appended buf new at p (bits 3 6) → Appended new new₂ p r (bits 21 n) → 16_384 ≤ n → Appended buf new₂ at r (eci_bits n)
  large_done new new₂ p r a b l = both_done buf at (eci_bits n) (bits 3 6) (bits 21 n) f (large_parts n l) new new₂ p r a b

pub small_done : (buf new : List ℕ) (at r n : ℕ) → Appended buf new at r (bits 8 n) → n < 128 → Appended buf new at r (eci_bits n)
small_done buf new at r n a h = subst (λ (l : List ℕ). Appended buf new at r l) (sym (small_bits n h)) a
