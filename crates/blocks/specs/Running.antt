-- Byte c of block i: in the interleaved data, column by column, and in the data, block by block.
-- n blocks, s data bytes in a short one, b short ones. Assumes nothing.
use Rattle.std.specs.Prelude.{ℕ, ◌+◌, ◌-◌, ◌*◌, ◌/◌, ◌%◌, ◌≤◌, ◌<◌, min, ◌≡◌, ltb}
use Rattle.std.proofs.Math.Bool.{cond}
use Rattle.std.proofs.Common.{sym, ap₂, ◌∙◌, mod-lt, add-mul, mul-add, mul_comm, mul-le-mul_right, arith, lt-ltb, le-ltb}
use Rattle.std.proofs.Math.Path.{refl, ap}
use Rattle.std.proofs.Math.Arith.{digits_div, digits_mod, digits_lt}
use Rattle.laws.specs.Tests.{split}
use Rattle.blocks.specs.Shape.{Shape, data_in, start_in, source_in}
use Rattle.blocks.specs.Undo.{place_in, position_in, place_lt, source_place}
use Rattle.blocks.specs.Checks.{length_in, length_long, length_short}

-- ---- place p of the interleaved data

-- byte c of block i stands there
pub record Stands (n s b i c p : ℕ) : Type 0 where
  pub block : i < n
  pub column : c ≤ s
  pub long : c ≡ s → b ≤ i
  pub here : place_in n s b i c ≡ p

place_early : (n s b i c : ℕ) → c < s → place_in n s b i c ≡ c * n + i
unfolding place_in
place_early n s b i c h = rw (lt-ltb c s h)

place_late : (n s b i c : ℕ) → s ≤ c → place_in n s b i c ≡ s * n + (i - b)
unfolding place_in
place_late n s b i c h = rw (le-ltb c s h)

-- the first block that has a byte c
abbrev pub first_in : ℕ → ℕ → ℕ → ℕ
first_in s b c = cond (ltb c s) 0 b

pub first_early : (s b c : ℕ) → c < s → 0 ≡ first_in s b c
first_early s b c h = rw (lt-ltb c s h)

pub first_late : (s b c : ℕ) → s ≤ c → b ≡ first_in s b c
first_late s b c h = rw (le-ltb c s h)

module _ {n s b : ℕ} (k : Shape n s b) where
  pub first_within : (c : ℕ) → first_in s b c ≤ n
  first_within c =
      split c s
      (λ l. let e : 0 ≡ first_in s b c = first_early s b c l in omega arith)
      (λ l. let e : b ≡ first_in s b c = first_late s b c l in omega (arith, k.within))

  pub stands : (i c : ℕ) → i < n → c ≤ s → first_in s b c ≤ i → Stands n s b i c (place_in n s b i c)
  stands i c hi hc first =
      record {
        block = hi;
        column = hc;
        long = λ e. let l : b ≡ first_in s b c = first_late s b c (omega arith) in omega arith;
        here = refl;
      }

  pub place_inside : (i c : ℕ) → i < n → c ≤ s → first_in s b c ≤ i → place_in n s b i c < data_in n s b
  place_inside i c hi hc first = let w = stands i c hi hc first in place_lt k i c hi hc w.long

  -- a column begins where the one before it ends, and its places follow one another
  pub column_start : (c : ℕ) → c ≤ s → place_in n s b (first_in s b c) c ≡ min (c * n) (data_in n s b)
  column_start c hc =
      let m : c * n ≤ s * n = mul-le-mul_right n hc in
      split c s
      (λ l. ap (λ (j : ℕ). place_in n s b j c) (sym (first_early s b c l)) ∙ place_early n s b 0 c l ∙ omega arith)
      (λ l.
      let e : c ≡ s = omega arith in
      let f : c * n ≡ s * n = ap (λ (t : ℕ). t * n) e in
      ap (λ (j : ℕ). place_in n s b j c) (sym (first_late s b c l)) ∙ place_late n s b b c l ∙ omega arith)

  pub place_next : (i c : ℕ) → c ≤ s → first_in s b c ≤ i → place_in n s b i c + 1 ≡ place_in n s b (i + 1) c
  place_next i c hc first =
      split c s
      (λ l. omega (arith, place_early n s b i c l, place_early n s b (i + 1) c l))
      (λ l. let m : b ≡ first_in s b c = first_late s b c l in omega (arith, place_late n s b i c l, place_late n s b (i + 1) c l))

  pub column_end : (i c : ℕ) → c ≤ s → i ≤ n → n ≤ i → place_in n s b i c ≡ min ((c + 1) * n) (data_in n s b)
  column_end i c hc low high =
      let m : (c + 1) * n ≡ c * n + n = omega (arith, add-mul c 1 n) in
      split c s
      (λ l. let h : (c + 1) * n ≤ s * n = mul-le-mul_right n (omega arith) in place_early n s b i c l ∙ omega arith)
      (λ l.
      let e : c ≡ s = omega arith in
      let f : c * n ≡ s * n = ap (λ (t : ℕ). t * n) e in
      place_late n s b i c l ∙ omega (arith, k.within))

  -- behind the last column stands nothing
  pub column_last : (c : ℕ) → s < c → data_in n s b ≤ min (c * n) (data_in n s b)
  column_last c l =
      let m : (s + 1) * n ≡ s * n + n = omega (arith, add-mul s 1 n) in
      let h : (s + 1) * n ≤ c * n = mul-le-mul_right n (omega arith) in
      omega arith

  pub stands_source : (i c p at : ℕ) → Stands n s b i c p → at ≡ start_in s b i → at + c ≡ source_in n s b p
  stands_source i c p at h e =
      ap (λ (t : ℕ). t + c) e ∙ sym (source_place k i c h.block h.column h.long) ∙ ap (source_in n s b) h.here

-- with no long blocks
pub source_even : (n c q : ℕ) → 0 < n → q < c * n → source_in n c n q ≡ q % n * c + q / n
unfolding source_in
source_even n c q some h = let m : q % n < n = mod-lt q some in rw (lt-ltb q (c * n) h) (omega arith)

-- ---- data byte d

-- it is byte c of block i
pub record Within (n s b i c d : ℕ) : Type 0 where
  pub block : i < n
  pub byte : c < length_in s b i
  pub here : start_in s b i + c ≡ d

module _ {n s b : ℕ} (k : Shape n s b) where
  pub within : (i c : ℕ) → i < n → c < length_in s b i → Within n s b i c (start_in s b i + c)
  within i c hi hc = record { block = hi; byte = hc; here = refl }

  -- behind the last block stands nothing
  pub start_end : (i : ℕ) → i ≤ n → n ≤ i → start_in s b i ≡ data_in n s b
  start_end i low high =
      let e : i ≡ n = omega arith in
      ap (start_in s b) e ∙ omega (arith, mul_comm n s)

  pub within_column : (i c d : ℕ) → Within n s b i c d → (c ≤ s) × (c ≡ s → b ≤ i)
  within_column i c d h =
      split i b
      (λ l. let e = length_short s b i l in (omega (arith, h.byte), λ f. absurd (omega (arith, h.byte))))
      (λ l. let e = length_long s b i l in (omega (arith, h.byte), λ f. l))

  pub within_place : (i c : ℕ) → i < n → c < length_in s b i → place_in n s b i c < data_in n s b
  within_place i c hi hc = let w = within_column i c (start_in s b i + c) (within i c hi hc) in place_lt k i c hi w.0 w.1

  pub within_position : (i c d at : ℕ) → Within n s b i c d → at ≡ place_in n s b i c → at ≡ position_in n s b d
  unfolding position_in
  within_position i c d at h q = q ∙ split i b early late
    where
      early : i < b → place_in n s b i c ≡ cond (ltb d (b * s)) (place_in n s b (d / s) (d % s)) (place_in n s b (b + (d - b * s) / (s + 1)) ((d - b * s) % (s + 1)))
      early l =
          let short : c < s = omega (arith, h.byte, length_short s b i l) in
          let e : i * s + c ≡ d = omega (arith, h.here) in
          let less : d < b * s = omega (arith, digits_lt l short) in
          rw (lt-ltb d (b * s) less)
          (ap₂ (place_in n s b) (sym (digits_div i short) ∙ ap (λ (t : ℕ). t / s) e) (sym (digits_mod i short) ∙ ap (λ (t : ℕ). t % s) e))

      late : b ≤ i → place_in n s b i c ≡ cond (ltb d (b * s)) (place_in n s b (d / s) (d % s)) (place_in n s b (b + (d - b * s) / (s + 1)) ((d - b * s) % (s + 1)))
      late l =
          let long : c < s + 1 = omega (arith, h.byte, length_long s b i l) in
          let j : i ≡ b + (i - b) = omega arith in
          let m : i * s ≡ b * s + (i - b) * s = ap (λ (t : ℕ). t * s) j ∙ add-mul b (i - b) s in
          let e : (i - b) * (s + 1) + c ≡ d - b * s = omega (arith, h.here, m, mul-add (i - b) s 1) in
          let less : b * s ≤ d = omega (arith, h.here, m) in
          rw (le-ltb d (b * s) less)
          (ap₂ (place_in n s b) (j ∙ ap (λ (t : ℕ). b + t) (sym (digits_div (i - b) long) ∙ ap (λ (t : ℕ). t / (s + 1)) e)) (sym (digits_mod (i - b) long) ∙ ap (λ (t : ℕ). t % (s + 1)) e))
