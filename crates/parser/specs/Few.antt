-- A record has at least 12 bits, and ten bits hold at most three characters: a fitting list has at most 1,970 records and 7,089 characters.
-- Assumes nothing.
use Prim.Native.Nat.{ℕ, zero, suc, ◌+◌, ◌*◌, ◌^◌, ◌≤◌, ◌<◌}
use Rattle.std.specs.Prelude.{Bool, true, false, cond, ◌⊎◌, ◌≡◌, leb, ltb, length}
use mathlib.Core.List.{List, [], ◌∷◌}
use Rattle.std.proofs.Math.Logic.{inl, inr, ⊎_elim}
use Rattle.std.proofs.Common.{mul-le-mul, arith, leb→le, ltb→lt, lit≤, le-ltb}
use Rattle.std.proofs.Math.Dec.{T}
use Rattle.std.proofs.Math.ListN.{length-append}
use Rattle.standard.specs.Numbers.{every}
use Rattle.standard.specs.Sizes.{raw_modules, raw_codewords, data_codewords, capacity}
use Rattle.standard.specs.Kinds.{by_kind, count_width, digit, code, digit_bits, pair_number, pair_bits, byte_bits, eci_bits}
use Rattle.standard.specs.Bits.{bits}
use Rattle.standard.specs.Segments.{Segment, payload, segment_size, total_bits, lengths_fit, fits}
use Rattle.standard.specs.Read.{characters}
use Rattle.laws.specs.Tests.{and_left, and_right, split}
use Rattle.laws.specs.Lists.{length_bits}
use Rattle.counts.specs.Ranges.{pair_range}

-- ---- the least record

eci_long : (n : ℕ) → 8 ≤ length (eci_bits n)
unfolding eci_bits
eci_long n = go (ltb n 128) (ltb n 16_384)
  where
    go : (s t : Bool) → 8 ≤ length (cond s (bits 8 n) (cond t (1 ∷ 0 ∷ bits 14 n) (1 ∷ 1 ∷ 0 ∷ bits 21 n)))
    go true t = omega (arith, length_bits 8 n)
    go false true = omega (arith, length_bits 14 n)
    go false false = omega (arith, length_bits 21 n)

count_long : (v k : ℕ) → k ≤ 2 → 8 ≤ count_width v k
count_long v k h = go k h (ltb v 10) (ltb v 27)
  where
    go : (k : ℕ) → k ≤ 2 → (s t : Bool) → 8 ≤ by_kind k (cond s 10 (cond t 12 14)) (cond s 9 (cond t 11 13)) (cond s 8 (cond t 16 16)) 0
    go zero h true t = lit≤ tt
    go zero h false true = lit≤ tt
    go zero h false false = lit≤ tt
    go (suc zero) h true t = lit≤ tt
    go (suc zero) h false true = lit≤ tt
    go (suc zero) h false false = lit≤ tt
    go (suc (suc zero)) h true t = lit≤ tt
    go (suc (suc zero)) h false true = lit≤ tt
    go (suc (suc zero)) h false false = lit≤ tt
    go (suc (suc (suc k))) h s t = absurd (omega arith)

least_record : (v k : ℕ) (cs : List ℕ) (n : ℕ) → 12 ≤ segment_size v (record { kind = k; chars = cs; assign = n })
unfolding segment_size payload
least_record v zero cs n = omega (arith, count_long v 0 (lit≤ tt))
least_record v (suc zero) cs n = omega (arith, count_long v 1 (lit≤ tt))
least_record v (suc (suc zero)) cs n = omega (arith, count_long v 2 (lit≤ tt))
least_record v (suc (suc (suc k))) cs n = omega (arith, eci_long n)

pub few_bits : (v : ℕ) (ss : List Segment) → 12 * length ss ≤ total_bits v ss
unfolding total_bits
few_bits v [] = omega arith
few_bits v (s ∷ ss) = omega (arith, least_record v s.kind s.chars s.assign, few_bits v ss)

-- a fitting list has at most 1,970 records
pub few_records : (v l : ℕ) (ss : List Segment) → 1 ≤ v → v ≤ 40 → l ≤ 3 → T (fits l ss v) → length ss ≤ 1_970
unfolding fits capacity
few_records v l ss low high h t =
    let room : total_bits v ss ≤ 8 * data_codewords v l = leb→le (total_bits v ss) (8 * data_codewords v l) (and_right (lengths_fit v ss) (leb (total_bits v ss) (8 * data_codewords v l)) t) in
    omega (arith, few_bits v ss, (pair_range v l low high h).words)

-- ---- ten bits hold at most three characters

digits_long : (cs : List ℕ) → 10 * length cs ≤ 3 * length (digit_bits cs)
unfolding digit_bits
digits_long [] = omega arith
digits_long (a ∷ []) = omega (arith, length_bits 4 (digit a))
digits_long (a ∷ b ∷ []) = omega (arith, length_bits 7 (10 * digit a + digit b))
digits_long (a ∷ b ∷ c ∷ r) =
    let n : ℕ = 100 * digit a + 10 * digit b + digit c in
    omega (arith, length-append (bits 10 n) (digit_bits r), length_bits 10 n, digits_long r)

pairs_long : (cs : List ℕ) → 10 * length cs ≤ 3 * length (pair_bits cs)
unfolding pair_bits
pairs_long [] = omega arith
pairs_long (a ∷ []) = omega (arith, length_bits 6 (code a))
pairs_long (a ∷ b ∷ r) = omega (arith, length-append (bits 11 (pair_number a b)) (pair_bits r), length_bits 11 (pair_number a b), pairs_long r)

bytes_long : (cs : List ℕ) → 10 * length cs ≤ 3 * length (byte_bits cs)
unfolding byte_bits
bytes_long [] = omega arith
bytes_long (a ∷ r) = omega (arith, length-append (bits 8 a) (byte_bits r), length_bits 8 a, bytes_long r)

-- from version 10 on a count field has at least 11 bits
count_longer : (v k : ℕ) → 10 ≤ v → k ≤ 2 → 11 ≤ count_width v k
count_longer v k low h = rw (le-ltb v 10 low) (go k h (ltb v 27))
  where
    go : (k : ℕ) → k ≤ 2 → (t : Bool) → 11 ≤ by_kind k (cond t 12 14) (cond t 11 13) (cond t 16 16) 0
    go zero h true = lit≤ tt
    go zero h false = lit≤ tt
    go (suc zero) h true = lit≤ tt
    go (suc zero) h false = lit≤ tt
    go (suc (suc zero)) h true = lit≤ tt
    go (suc (suc zero)) h false = lit≤ tt
    go (suc (suc (suc k))) h t = absurd (omega arith)

-- a segment has no characters, or they and the bits before them take their bits
module _ (v : ℕ) where
  Roomy : List ℕ → ℕ → Type 0
  Roomy cs n = (length cs ≡ 0) ⊎ ((10 * length cs ≤ 3 * n) × (10 ≤ v → 10 * length cs + 45 ≤ 3 * n))

  segment_roomy : (k : ℕ) (cs : List ℕ) (n : ℕ) → length cs < 2 ^ count_width v k → Roomy cs (segment_size v (record { kind = k; chars = cs; assign = n }))
  unfolding Roomy segment_size payload
  segment_roomy zero cs n h = inr (omega (arith, digits_long cs), λ low. omega (arith, digits_long cs, count_longer v 0 low (lit≤ tt)))
  segment_roomy (suc zero) cs n h = inr (omega (arith, pairs_long cs), λ low. omega (arith, pairs_long cs, count_longer v 1 low (lit≤ tt)))
  segment_roomy (suc (suc zero)) cs n h = inr (omega (arith, bytes_long cs), λ low. omega (arith, bytes_long cs, count_longer v 2 low (lit≤ tt)))
  segment_roomy (suc (suc (suc k))) cs n h = inl (omega arith)

  short : Segment → Bool
  short s = ltb (length s.chars) (2 ^ count_width v s.kind)

  roomy : (ss : List Segment) → T (every short ss) → Roomy (characters ss) (total_bits v ss)
  unfolding Roomy total_bits short
  roomy [] t = inl (omega arith)
  roomy (s ∷ ss) t =
      let l = length-append s.chars (characters ss) in
      let first : T (short s) = and_left (short s) (every short ss) t in
      let rest : Roomy (characters ss) (total_bits v ss) = roomy ss (and_right (short s) (every short ss) t) in
      ⊎_elim
      (λ a. ⊎_elim (λ b. inl (omega (arith, l))) (λ b. inr (omega (arith, l, b.0), λ low. omega (arith, l, b.1 low))) rest)
      (λ a.
      ⊎_elim (λ b. inr (omega (arith, l, a.0), λ low. omega (arith, l, a.1 low)))
      (λ b. inr (omega (arith, l, a.0, b.0), λ low. omega (arith, l, a.1 low, b.0))) rest)
      (segment_roomy s.kind s.chars s.assign (ltb→lt (length s.chars) (2 ^ count_width v s.kind) first))

-- up to version 9 there is little room
small_room : (v l : ℕ) → 1 ≤ v → v ≤ 9 → l ≤ 3 → data_codewords v l ≤ 314
unfolding raw_codewords raw_modules
small_room v l low high h =
    let factor : 16 * v + 128 ≤ 272 = omega arith in
    let most : (16 * v + 128) * v ≤ 272 * 9 = mul-le-mul factor high in
    omega (arith, most, (pair_range v l low (omega arith) h).whole)

-- a fitting list has at most 7,089 characters
pub few_characters : (v l : ℕ) (ss : List Segment) → 1 ≤ v → v ≤ 40 → l ≤ 3 → T (fits l ss v) → length (characters ss) ≤ 7_089
unfolding fits capacity lengths_fit Roomy short
few_characters v l ss low high h t =
    let room : total_bits v ss ≤ 8 * data_codewords v l = leb→le (total_bits v ss) (8 * data_codewords v l) (and_right (lengths_fit v ss) (leb (total_bits v ss) (8 * data_codewords v l)) t) in
    ⊎_elim (λ none. omega arith)
    (λ some.
    split v 10 (λ small. omega (arith, some.0, small_room v l low (omega arith) h))
    (λ large. omega (arith, some.1 large, (pair_range v l low high h).words)))
    (roomy v ss (and_left (lengths_fit v ss) (leb (total_bits v ss) (8 * data_codewords v l)) t))
