-- Where a data byte stands among all codewords, and that taking it there undoes the interleaving.
-- n blocks, s data bytes in a short one, b short ones. Assumes nothing.
use Rattle.std.specs.Prelude.{ℕ, ◌+◌, ◌-◌, ◌*◌, ◌/◌, ◌%◌, ◌≤◌, ◌<◌, Bool, List, ◌≡◌, length, get_or}
use Rattle.std.proofs.Math.Bool.{true, false, cond}
use Rattle.std.proofs.Math.Path.{refl, ap}
use Rattle.std.proofs.Common.{sym, ◌∙◌, mod-lt, div-lt_iff_lt-mul, mul_comm}
use Rattle.std.proofs.Math.Nat.{div-add-mod', add-mul, mul-add}
use native.Mathlib.Omega.{arith}
use Rattle.std.proofs.Math.Arith.{digits_div, digits_mod, digits_lt}
use Rattle.std.proofs.Math.Dec.{ltb}
use borrow.Author.Tests.{lt-ltb, le-ltb, ltb-true, ltb-false}
use Rattle.standard.specs.Numbers.{tabulate}
use Rattle.standard.specs.Sizes.{blocks, data_codewords, short_blocks, short_length}
use Rattle.standard.specs.Blocks.{all_words}
use Rattle.counts.specs.Ranges.{PairRange}
use Rattle.laws.specs.Lists.{is_tabulate}
use Rattle.blocks.specs.Shape.{Shape, shape, data_in, start_in, source_in}
use Rattle.blocks.specs.Places.{data_sum, all_data}

-- where byte c of block i stands
unfoldable pub place_in : ℕ → ℕ → ℕ → ℕ → ℕ → ℕ
place_in n s b i c = cond (ltb c s) (c * n + i) (s * n + (i - b))

-- where data byte d stands
unfoldable pub position_in : ℕ → ℕ → ℕ → ℕ → ℕ
position_in n s b d = cond (ltb d (b * s)) (place_in n s b (d / s) (d % s)) (place_in n s b (b + (d - b * s) / (s + 1)) ((d - b * s) % (s + 1)))

module _ {n s b : ℕ} (k : Shape n s b) where
  source_early : (i c : ℕ) → i < n → c < s → source_in n s b (c * n + i) ≡ start_in s b i + c
  unfolding source_in
  source_early i c hi hc = rw (lt-ltb (c * n + i) (s * n) (digits_lt hc hi), digits_mod c hi, digits_div c hi)

  source_last : (i : ℕ) → b ≤ i → i < n → source_in n s b (s * n + (i - b)) ≡ start_in s b i + s
  unfolding source_in
  source_last i low hi =
      let e : b + (s * n + (i - b) - s * n) ≡ i = omega arith in
      rw (le-ltb (s * n + (i - b)) (s * n) (omega arith), e)

  pub source_place : (i c : ℕ) → i < n → c ≤ s → (c ≡ s → b ≤ i) → source_in n s b (place_in n s b i c) ≡ start_in s b i + c
  unfolding place_in
  source_place i c hi hc later = go (ltb c s) refl
    where
      go : (t : Bool) → ltb c s ≡ t → source_in n s b (cond t (c * n + i) (s * n + (i - b))) ≡ start_in s b i + c
      go true e = source_early i c hi (ltb-true c s e)
      go false e =
          let q : c ≡ s = omega (arith, ltb-false c s e) in
          source_last i (later q) hi ∙ ap (λ (m : ℕ). start_in s b i + m) (sym q)

  pub place_lt : (i c : ℕ) → i < n → c ≤ s → (c ≡ s → b ≤ i) → place_in n s b i c < data_in n s b
  unfolding place_in
  place_lt i c hi hc later = go (ltb c s) refl
    where
      go : (t : Bool) → ltb c s ≡ t → cond t (c * n + i) (s * n + (i - b)) < s * n + (n - b)
      go true e = omega (arith, digits_lt (ltb-true c s e) hi)
      go false e =
          let q : c ≡ s = omega (arith, ltb-false c s e) in
          let low = later q in
          omega arith

  module _ (d : ℕ) (inside : d < data_in n s b) where
    early_block : d < b * s → d / s < b
    early_block h = (div-lt_iff_lt-mul k.short).1 h

    early_byte : d % s < s
    early_byte = mod-lt d k.short

    late_block : b * s ≤ d → (d - b * s) / (s + 1) < n - b
    late_block h =
        let e : n ≡ b + (n - b) = omega arith in
        let m : s * n ≡ b * s + (n - b) * s = mul_comm s n ∙ ap (λ (t : ℕ). t * s) e ∙ add-mul b (n - b) s in
        let f : (n - b) * (s + 1) ≡ (n - b) * s + (n - b) = omega (arith, mul-add (n - b) s 1) in
        (div-lt_iff_lt-mul {k = s + 1} (omega arith)).1 (omega arith)

    late_byte : (d - b * s) % (s + 1) < s + 1
    late_byte = mod-lt (d - b * s) (omega arith)

    pub source_position : source_in n s b (position_in n s b d) ≡ d
    unfolding position_in
    source_position = go (ltb d (b * s)) refl
      where
        go : (t : Bool) → ltb d (b * s) ≡ t → source_in n s b (cond t (place_in n s b (d / s) (d % s)) (place_in n s b (b + (d - b * s) / (s + 1)) ((d - b * s) % (s + 1)))) ≡ d
        go true e =
            let h = early_block (ltb-true d (b * s) e) in
            let l = early_byte in
            source_place (d / s) (d % s) (omega arith) (omega arith) (λ z. absurd (omega arith))
            ∙ omega (arith, div-add-mod' d s)
        go false e =
            let low = ltb-false d (b * s) e in
            let h = late_block low in
            let l = late_byte in
            let x : (b + (d - b * s) / (s + 1)) * s ≡ b * s + (d - b * s) / (s + 1) * s = add-mul b ((d - b * s) / (s + 1)) s in
            let y : (d - b * s) / (s + 1) * (s + 1) ≡ (d - b * s) / (s + 1) * s + (d - b * s) / (s + 1) = omega (arith, mul-add ((d - b * s) / (s + 1)) s 1) in
            source_place (b + (d - b * s) / (s + 1)) ((d - b * s) % (s + 1)) (omega arith) (omega arith) (λ z. omega arith)
            ∙ omega (arith, div-add-mod' (d - b * s) (s + 1))

    pub position_lt : position_in n s b d < data_in n s b
    unfolding position_in
    position_lt = go (ltb d (b * s)) refl
      where
        go : (t : Bool) → ltb d (b * s) ≡ t → cond t (place_in n s b (d / s) (d % s)) (place_in n s b (b + (d - b * s) / (s + 1)) ((d - b * s) % (s + 1))) < s * n + (n - b)
        go true e =
            let h = early_block (ltb-true d (b * s) e) in
            let l = early_byte in
            place_lt (d / s) (d % s) (omega arith) (omega arith) (λ z. absurd (omega arith))
        go false e =
            let low = ltb-false d (b * s) e in
            let h = late_block low in
            let l = late_byte in
            place_lt (b + (d - b * s) / (s + 1)) ((d - b * s) % (s + 1)) (omega arith) (omega arith) (λ z. omega arith)

-- the data codewords, taken out of all codewords
unfoldable pub data_of : ℕ → ℕ → List ℕ → List ℕ
data_of v l all = tabulate (data_codewords v l) (λ d. get_or all (position_in (blocks v l) (short_length v l) (short_blocks v l) d) 0)

-- THE LAW: they are the data codewords
pub undo : (v l : ℕ) (words : List ℕ) → PairRange v l → length words ≡ data_codewords v l → data_of v l (all_words v l words) ≡ words
unfolding data_of
undo v l words sh full =
    sym
    (is_tabulate 0 words (data_codewords v l) (λ d. get_or (all_words v l words) (position_in (blocks v l) (short_length v l) (short_blocks v l) d) 0) full
    (λ d h.
    let inside : d < short_length v l * blocks v l + (blocks v l - short_blocks v l) = omega (arith, data_sum v l sh) in
    sym
    (all_data v l words sh full (position_in (blocks v l) (short_length v l) (short_blocks v l) d) (omega (arith, data_sum v l sh, position_lt (shape sh) d inside))
    ∙ ap (λ (k : ℕ). get_or words k 0) (source_position (shape sh) d inside))))
