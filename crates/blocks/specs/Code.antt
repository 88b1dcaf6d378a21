-- The code's sums stay small, and what its returns and turns come to. n blocks, s data bytes in a short one, b short ones.
-- Assumes nothing.
use Rattle.std.specs.Prelude.{ℕ, ◌+◌, ◌-◌, ◌*◌, ◌/◌, ◌%◌, ◌≤◌, ◌<◌, Bool, true, false, cond, List, ◌≡◌, refl, length, get_or, set, ltb}
use Rattle.std.proofs.Common.{sym, ap, ◌∙◌, mod-lt, div-lt_iff_lt-mul, add-mul, mul_comm, mul-le-mul, mul-le-mul_right, arith, ltb-true, ltb-false}
use Rattle.laws.specs.Each.{each_done, each_next}
use Rattle.blocks.specs.Shape.{Shape, data_in, start_in, source_in}
use Rattle.blocks.specs.Undo.{place_in, position_in}
use Rattle.blocks.specs.Checks.{length_in, block_within}
use Rattle.blocks.specs.Running.{first_in, Within, stands, place_inside, place_next, stands_source, within_position}

pub product_small : (i s : ℕ) → i ≤ 81 → s ≤ 255 → i * s ≤ 20655
product_small i s h l = mul-le-mul h l

pub row_small : (c n : ℕ) → c ≤ 255 → n ≤ 81 → c * n ≤ 20655
row_small c n h l = mul-le-mul h l

-- ---- where a byte of the interleaved data comes from

pub source_lt : {n s b : ℕ} → Shape n s b → (p : ℕ) → p < data_in n s b → source_in n s b p < data_in n s b
unfolding source_in
source_lt {n} {s} {b} k p h = go (ltb p (s * n)) refl
  where
    turn : s * n ≡ n * s
    turn = mul_comm s n

    go : (t : Bool) → ltb p (s * n) ≡ t → cond t (start_in s b (p % n) + p / n) (start_in s b (b + (p - s * n)) + s) < s * n + (n - b)
    go true e =
        let l = ltb-true p (s * n) e in
        let m : p % n < n = mod-lt p k.some in
        let q : p / n < s = (div-lt_iff_lt-mul k.some).1 l in
        let a : (p % n + 1) * s ≤ n * s = mul-le-mul_right s (omega arith) in
        let b' : (p % n + 1) * s ≡ p % n * s + s = omega (arith, add-mul (p % n) 1 s) in
        omega (arith, turn)
    go false e =
        let l = ltb-false p (s * n) e in
        let a : (b + (p - s * n) + 1) * s ≤ n * s = mul-le-mul_right s (omega arith) in
        let b' : (b + (p - s * n) + 1) * s ≡ (b + (p - s * n)) * s + s = omega (arith, add-mul (b + (p - s * n)) 1 s) in
        omega (arith, turn)

-- ---- a loop that fetches: out[p] = xs[src p]

fetch_next : (src : ℕ → ℕ) (xs g : List ℕ) (p at m : ℕ) (h : List ℕ) → h ≡ each_done p (λ p _. get_or xs (src p) 0) g → length h ≡ m → p < m → at ≡ src p
    → set h p (get_or xs at 0) ≡ each_done (p + 1) (λ p _. get_or xs (src p) 0) g
fetch_next src xs g p at m h e l b q = each_next (λ p _. get_or xs (src p) 0) g p (get_or xs at 0) m h e l b (ap (λ (k : ℕ). get_or xs k 0) q)

pub source_next : (n s b : ℕ) (xs g : List ℕ) (p at m : ℕ) (h : List ℕ) → h ≡ each_done p (λ p _. get_or xs (source_in n s b p) 0) g → length h ≡ m → p < m → at ≡ source_in n s b p
    → set h p (get_or xs at 0) ≡ each_done (p + 1) (λ p _. get_or xs (source_in n s b p) 0) g
source_next n s b = fetch_next (source_in n s b)

pub position_next : (n s b : ℕ) (xs g : List ℕ) (p at m : ℕ) (h : List ℕ) → h ≡ each_done p (λ d _. get_or xs (position_in n s b d) 0) g → length h ≡ m → p < m → at ≡ position_in n s b p
    → set h p (get_or xs at 0) ≡ each_done (p + 1) (λ d _. get_or xs (position_in n s b d) 0) g
position_next n s b = fetch_next (position_in n s b)

-- ---- as the code has them

pub each_at : (f : ℕ → ℕ → ℕ) (g h : List ℕ) (p q : ℕ) → h ≡ each_done p f g → p ≡ q → h ≡ each_done q f g
each_at f g h p q e z = e ∙ ap (λ (k : ℕ). each_done k f g) z

module _ {n s b : ℕ} (k : Shape n s b) (xs g h : List ℕ) (i c at to : ℕ) (hi : i < n) (start : at ≡ start_in s b i) (place : to ≡ place_in n s b i c) (long : length h ≡ data_in n s b) where
  -- a byte is put among the interleaved ones
  pub source_turn : c ≤ s → first_in s b c ≤ i → h ≡ each_done (place_in n s b i c) (λ p _. get_or xs (source_in n s b p) 0) g
      → set h to (get_or xs (at + c) 0) ≡ each_done (place_in n s b (i + 1) c) (λ p _. get_or xs (source_in n s b p) 0) g
  source_turn hc first e =
      rw place
      (source_next n s b xs g (place_in n s b i c) (at + c) (data_in n s b) h e long (place_inside k i c hi hc first)
      (stands_source k i c (place_in n s b i c) at (stands k i c hi hc first) start)
      ∙ ap (λ (p : ℕ). each_done p (λ p _. get_or xs (source_in n s b p) 0) g) (place_next k i c hc first))

  -- a byte is taken from among them
  pub position_turn : c < length_in s b i → h ≡ each_done (at + c) (λ d _. get_or xs (position_in n s b d) 0) g
      → set h (at + c) (get_or xs to 0) ≡ each_done (at + (c + 1)) (λ d _. get_or xs (position_in n s b d) 0) g
  position_turn hc e =
      let w : Within n s b i c (at + c) = record { block = hi; byte = hc; here = ap (λ (t : ℕ). t + c) (sym start) } in
      let next : at + c + 1 ≡ at + (c + 1) = omega arith in
      position_next n s b xs g (at + c) to (data_in n s b) h e long (omega (arith, block_within k i hi)) (within_position k i c (at + c) to w place)
      ∙ ap (λ (p : ℕ). each_done p (λ d _. get_or xs (position_in n s b d) 0) g) next
