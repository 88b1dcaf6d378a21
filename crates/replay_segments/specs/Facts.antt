-- Facts that the proofs of the comparison cite: there is room in a zeroed buffer, and what the answers say.
-- Assumes nothing.
use Rattle.std.specs.Prelude.{Option, Some, None, MatchOption, false, zero, suc, ◌≡◌, ℕ, ◌*◌, ◌+◌, ◌^◌, ◌<◌, ◌≤◌, Bool, true, T, List, [], length, take, replicate}
use Rattle.std.specs.Option.{is_some}
use Rattle.std.proofs.lemmas.Bool.{false≢true}
use Rattle.std.proofs.lemmas.List.{take-replicate, length-replicate}
use Rattle.std.proofs.Common.{lit≤, sym, ap, ◌∙◌, subst, arith, lit<, add-one, pow-suc}
use Rattle.standard.specs.Numbers.{every}
use Rattle.standard.specs.Kinds.{digit_bits, pair_bits, byte_bits, eci_bits}
use Rattle.standard.specs.Sizes.{data_codewords}
use Rattle.standard.specs.Segments.{payload, good_part, first_bad}
use Rattle.laws.specs.Tests.{true_T}
use Rattle.counts.specs.Ranges.{pair_range}
use Rattle.types.specs.declared.QrCodeEcc.{QrCodeEcc}
use Rattle.types.specs.Numbers.{level_of}
use Rattle.bits.specs.Appended.{Free, free_zeros}
use Rattle.segments.specs.Fit.{payload_short}
use Rattle.segments.specs.Records.{parts_of, all_good}
use Rattle.types.specs.Laws.{level_le}

-- ---- room

module _ (buf : List ℕ) (z : buf ≡ replicate 4096 0) where
  free : (bs : List ℕ) → length bs ≤ 32_768 → Free buf 0 bs
  free bs h = subst (λ (b : List ℕ). Free b 0 bs) (sym z) (free_zeros 4096 bs (lit< tt) h)

  module _ (t : List ℕ) (l : length t ≤ 2000) where
    pub digits_free : Free buf 0 (digit_bits t)
    unfolding payload
    digits_free = let s = payload_short 0 t 0 in free (digit_bits t) (omega arith)

    pub pairs_free : Free buf 0 (pair_bits t)
    unfolding payload
    pairs_free = let s = payload_short 1 t 0 in free (pair_bits t) (omega arith)

    pub bytes_free : Free buf 0 (byte_bits t)
    unfolding payload
    bytes_free = let s = payload_short 2 t 0 in free (byte_bits t) (omega arith)

  pub eci_free : (a : ℕ) → Free buf 0 (eci_bits a)
  unfolding payload
  eci_free a = let s = payload_short 3 [] a in free (eci_bits a) (omega arith)

pub zeros_of : (n m : ℕ) → n ≡ m → m ≤ 2956 → take n (replicate {A = ℕ} 2956 0) ≡ replicate m 0
zeros_of n m e h = take-replicate n 2956 0 (omega arith) ∙ ap (λ (k : ℕ). replicate k 0) e

pub zeros_length : (n : ℕ) → n ≤ 2956 → n ≡ length (take n (replicate {A = ℕ} 2956 0))
zeros_length n h = sym (ap length (take-replicate {X = ℕ} n 2956 0 h) ∙ length-replicate {A = ℕ} n 0)

pub words_fit : (v n : ℕ) (ecl : QrCodeEcc) → n ≡ data_codewords v (level_of ecl) → 1 ≤ v → v ≤ 40 → n ≤ 2956
words_fit v n ecl e low high = omega (arith, (pair_range v (level_of ecl) low high (level_le ecl)).words)

-- ---- six digits

pub six_next : (n i d : ℕ) → n < 10 ^ i → d ≤ 9 → n * 10 + d < 10 ^ (i + 1)
six_next n i d h l = let e : 10 ^ (i + 1) ≡ 10 ^ i * 10 = ap (λ (k : ℕ). 10 ^ k) (add-one i) ∙ pow-suc 10 i in omega arith

six_power : (i : ℕ) → i < 6 → 10 ^ i ≤ 100_000
six_power zero h = lit≤ tt
six_power (suc zero) h = lit≤ tt
six_power (suc (suc zero)) h = lit≤ tt
six_power (suc (suc (suc zero))) h = lit≤ tt
six_power (suc (suc (suc (suc zero)))) h = lit≤ tt
six_power (suc (suc (suc (suc (suc zero))))) h = lit≤ tt
six_power (suc (suc (suc (suc (suc (suc i)))))) h = absurd (omega arith)

pub six_fits : (n i d : ℕ) → n < 10 ^ i → i < 6 → d ≤ 9 → n * 10 + d < 2 ^ 32
six_fits n i d h l m = omega (arith, six_power i l)

pub six_product : (n i : ℕ) → n < 10 ^ i → i < 6 → n * 10 < 2 ^ 32
six_product n i h l = omega (arith, six_power i l)

pub six_end : (n i : ℕ) → n < 10 ^ i → i ≤ 6 → 6 ≤ i → n < 1_000_000
six_end n i h l m = let e : i ≡ 6 = omega arith in subst (λ (k : ℕ). n < 10 ^ k) e h

-- ---- what the answers say

pub all_of : (p : ℕ → Bool) (t : List ℕ) (b : Bool) → b ≡ every p t → b ≡ true → T (every p t)
all_of p t b e q = true_T (every p t) (sym e ∙ q)

pub good_of : (text ns : List ℕ) (r : Option ℕ) → MatchOption r (first_bad text (parts_of ns) ≡ length (parts_of ns)) (λ i. (i ≡ first_bad text (parts_of ns)) × (i < length (parts_of ns))) → false ≡ is_some r
    → T (every (good_part text) (parts_of ns))
good_of text ns None e h = all_good text (parts_of ns) (omega arith)
good_of text ns (Some i) e h = absurd (false≢true h)
