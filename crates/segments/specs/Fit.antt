-- Laws that the proof of `segment_bits` cites: a length against its count field, and sums that do not overflow.
-- Assumes nothing.
use Rattle.std.specs.Prelude.{Option, Some, None, ◌≡◌, ℕ, zero, suc, ◌+◌, ◌*◌, ◌/◌, ◌%◌, ◌^◌, ◌<◌, ◌≤◌, Bool, true, false, cond, List, ◌∷◌, length, nat_lt, refl}
use Rattle.std.proofs.Common.{sym, ap, ◌∙◌, subst, arith, mod-eq_of_lt, div-le_self, mul-le-mul_left, mul-le-mul_right, lit≤, lit<, pow_mono, lt-ltb, le-ltb, ltb-true}
use Rattle.std.proofs.Math.Path.{ap₂}
use Rattle.standard.specs.Bits.{bits}
use Rattle.standard.specs.Kinds.{by_version, count_width, eci_bits}
use Rattle.standard.specs.Segments.{Segment, payload, segment_size}
use Rattle.laws.specs.Lists.{length_bits}
use Rattle.segments.specs.Kinds.{size, width}
use Rattle.segments.specs.Tables.{width_le}
use Rattle.segments.specs.Runs.{run_size, run_size_lem}
use Rattle.segments.specs.Payload.{segment, payload_run}
use Rattle.segments.specs.Totals.{size_of}

-- ---- widths

by_version_le : (v a b c : ℕ) → a ≤ 16 → b ≤ 16 → c ≤ 16 → by_version v a b c ≤ 16
by_version_le v a b c ha hb hc = go (nat_lt v 10) (nat_lt v 27)
  where
    go : (s t : Bool) → cond s a (cond t b c) ≤ 16
    go true t = ha
    go false true = hb
    go false false = hc

pub count_le : (v k : ℕ) → count_width v k ≤ 16
count_le v zero = by_version_le v 10 12 14 (lit≤ tt) (lit≤ tt) (lit≤ tt)
count_le v (suc zero) = by_version_le v 9 11 13 (lit≤ tt) (lit≤ tt) (lit≤ tt)
count_le v (suc (suc zero)) = by_version_le v 8 16 16 (lit≤ tt) (lit≤ tt) (lit≤ tt)
count_le v (suc (suc (suc k))) = lit≤ tt

-- ---- payloads are short

run_short : (k n : ℕ) → run_size k n ≤ n * 11 + 11
run_short k n =
    let a : n / size k * width k (size k) ≤ n * width k (size k) = mul-le-mul_right (width k (size k)) (div-le_self n (size k)) in
    let b : n * width k (size k) ≤ n * 11 = mul-le-mul_left n (width_le k (size k)) in
    omega (arith, width_le k (n % size k))

eci_short : (n : ℕ) → length (eci_bits n) ≤ 24
unfolding eci_bits
eci_short n = go (nat_lt n 128) (nat_lt n 16_384)
  where
    go : (s t : Bool) → length (cond s (bits 8 n) (cond t (1 ∷ 0 ∷ bits 14 n) (1 ∷ 1 ∷ 0 ∷ bits 21 n))) ≤ 24
    go true t = omega (arith, length_bits 8 n)
    go false true = omega (arith, length_bits 14 n)
    go false false = omega (arith, length_bits 21 n)

text_short : (k : ℕ) (cs : List ℕ) (a : ℕ) → k < 3 → length (payload (segment k cs a)) ≤ length cs * 11 + 11
text_short k cs a h =
    subst (λ (n : ℕ). n ≤ length cs * 11 + 11) (sym (ap length (payload_run k cs a h) ∙ run_size_lem k (length cs) (length cs) cs (omega arith))) (run_short k (length cs))

pub payload_short : (k : ℕ) (cs : List ℕ) (a : ℕ) → length (payload (segment k cs a)) ≤ length cs * 11 + 24
unfolding payload
payload_short zero cs a = let h = text_short 0 cs a (lit< tt) in omega arith
payload_short (suc zero) cs a = let h = text_short 1 cs a (lit< tt) in omega arith
payload_short (suc (suc zero)) cs a = let h = text_short 2 cs a (lit< tt) in omega arith
payload_short (suc (suc (suc k))) cs a = let h = eci_short a in omega arith

-- ---- a segment

module _ (v j w n : ℕ) (s : Segment) (ew : w ≡ count_width v j) (ej : j ≡ s.kind) (en : n ≡ length s.chars) where
  width_is : w ≡ count_width v s.kind
  width_is = ew ∙ ap (count_width v) ej

  width_16 : w ≤ 16
  width_16 = subst (λ (n : ℕ). n ≤ 16) (sym width_is) (count_le v s.kind)

  pub width_fits : w < 64
  width_fits = omega (arith, width_16)

  power_le : 2 ^ w ≤ 65_536
  power_le = pow_mono width_16

  limit_is : 1 * 2 ^ w % 2 ^ 64 ≡ 2 ^ count_width v s.kind
  limit_is =
      let p : 1 * 2 ^ w ≡ 2 ^ w = omega arith in
      let s : 2 ^ w < 2 ^ 64 = omega (arith, power_le) in
      ap (λ (n : ℕ). n % 2 ^ 64) p ∙ mod-eq_of_lt s ∙ ap (λ (n : ℕ). 2 ^ n) width_is

  pub size_long : 1 * 2 ^ w % 2 ^ 64 ≤ n → None ≡ size_of v s
  unfolding size_of
  size_long h =
      let l : 2 ^ count_width v s.kind ≤ length s.chars = omega (arith, h, limit_is, en) in
      simp (le-ltb (length s.chars) (2 ^ count_width v s.kind) l)

  fits_field : n < 1 * 2 ^ w % 2 ^ 64 → length s.chars < 2 ^ count_width v s.kind
  fits_field h = omega (arith, h, limit_is, en)

  short_chars : n < 1 * 2 ^ w % 2 ^ 64 → length s.chars < 65_536
  short_chars h = omega (arith, fits_field h, subst (λ (n : ℕ). 2 ^ n ≤ 65_536) width_is power_le)

  pub chars_32 : n < 1 * 2 ^ w % 2 ^ 64 → length s.chars < 2 ^ 32
  chars_32 h = omega (arith, short_chars h)

  module _ (p : ℕ) (ep : p ≡ length (payload s)) where
    pub sum_64 : n < 1 * 2 ^ w % 2 ^ 64 → 4 + w + p < 2 ^ 64
    sum_64 h = omega (arith, short_chars h, width_16, payload_short s.kind s.chars s.assign)

    pub size_fits : n < 1 * 2 ^ w % 2 ^ 64 → Some (4 + w + p) ≡ size_of v s
    unfolding size_of segment_size
    size_fits h =
        ap₂ (λ (i j : ℕ). Some (4 + i + j)) width_is ep
        ∙ simp (lt-ltb (length s.chars) (2 ^ count_width v s.kind) (fits_field h))

-- the size of a segment whose length fits is small
pub size_small : (v n : ℕ) (s : Segment) → size_of v s ≡ Some n → n < 2 ^ 20
unfolding size_of segment_size
size_small v n s e = go (nat_lt (length s.chars) (2 ^ count_width v s.kind)) refl e
  where
    go : (t : Bool) → nat_lt (length s.chars) (2 ^ count_width v s.kind) ≡ t → cond t (Some (4 + count_width v s.kind + length (payload s))) None ≡ Some n → n < 2 ^ 20
    go true q e =
        let d : 4 + count_width v s.kind + length (payload s) ≡ n = cc in
        let h : length s.chars < 2 ^ count_width v s.kind = ltb-true (length s.chars) (2 ^ count_width v s.kind) q in
        let m : 2 ^ count_width v s.kind ≤ 65_536 = pow_mono (count_le v s.kind) in
        omega (arith, count_le v s.kind, payload_short s.kind s.chars s.assign)
    go false q e = let z : ◌≡◌ {A = ℕ} 0 1 = cc in absurd (omega arith)

-- a total so far stays small
module _ (v : ℕ) (s : Segment) (n r i : ℕ) (b : Option ℕ) (size : b ≡ size_of v s) (q : b ≡ Some n) (low : r ≤ i * 2 ^ 20) where
  pub total_bound : r + n ≤ (i + 1) * 2 ^ 20
  total_bound = let h : n < 2 ^ 20 = size_small v n s (sym size ∙ q) in omega arith

  pub total_room : (l m : ℕ) → i < m → m ≡ l / 4 → l ≤ 8195 → r + n < 2 ^ 64
  total_room l m near e f = let h : n < 2 ^ 20 = size_small v n s (sym size ∙ q) in omega arith
