-- The zigzag passes each place at most once: the number of a place in the zigzag is found again from the place.
-- For any odd side from 9 on. Assumes nothing.
use Prim.Native.Nat.{ℕ, zero, suc, ◌+◌, ◌-◌, ◌*◌, ◌/◌, ◌%◌, ◌≤◌, ◌<◌}
use Rattle.std.specs.Prelude.{Bool, cond, ◌≡◌, leb, ltb, eqb, length, get_or}
use Rattle.std.proofs.Math.Bool.{true, false}
use mathlib.Core.List.{List, [], ◌∷◌}
use Rattle.std.proofs.Math.Path.{refl, ap}
use Rattle.std.proofs.Common.{sym, ◌∙◌, div-add-mod', div-lt_iff_lt-mul, le_trans, le_refl, not-suc-le-zero, le_of_suc-le-suc, lt-ltb, le-ltb, le-leb, leb-true, leb-false}
use Rattle.std.proofs.Math.Nat.{mod-lt, mod-eq_of_lt, div-eq_of_lt, div-div-eq-div-mul, mul-add-div, mul-add-mod_self_left, add-zero, mul-le-mul_right, le-suc}
use native.Mathlib.Omega.{arith}
use Rattle.std.proofs.Math.Arith.{digits_div, digits_mod}
use Rattle.std.proofs.lemmas.Bool.{lt-leb}
use Rattle.standard.specs.Numbers.{from, cons_if, keep}
use Rattle.standard.specs.Sizes.{side}
use Rattle.standard.specs.Path.{right, height, cell, free, path}

-- how many columns lie right of column x, column 6 left out
pub back : ℕ → ℕ → ℕ
back s x = cond (ltb x 6) (s - 2 - x) (s - 1 - x)

-- the number in the zigzag of a place
pub number : ℕ → ℕ → ℕ
number s i = back s (i % s) / 2 * (2 * s) + 2 * height s (back s (i % s) / 2) (i / s) + back s (i % s) % 2

right_low : (s p : ℕ) → s - 1 - 2 * p ≤ 6 → right s p ≡ s - 1 - 2 * p - 1
unfolding right
right_low s p h = ap (λ (b : Bool). cond b (s - 1 - 2 * p - 1) (s - 1 - 2 * p)) (le-leb (s - 1 - 2 * p) 6 h)

right_high : (s p : ℕ) → 6 < s - 1 - 2 * p → right s p ≡ s - 1 - 2 * p
unfolding right
right_high s p h = ap (λ (b : Bool). cond b (s - 1 - 2 * p - 1) (s - 1 - 2 * p)) (lt-leb (s - 1 - 2 * p) 6 h)

back_low : (s x : ℕ) → x < 6 → back s x ≡ s - 2 - x
unfolding back
back_low s x h = ap (λ (b : Bool). cond b (s - 2 - x) (s - 1 - x)) (lt-ltb x 6 h)

back_high : (s x : ℕ) → 6 ≤ x → back s x ≡ s - 1 - x
unfolding back
back_high s x h = ap (λ (b : Bool). cond b (s - 2 - x) (s - 1 - x)) (le-ltb x 6 h)

-- the number w, from either end
flip_lt : (b : Bool) (s w : ℕ) → w < s → cond b (s - 1 - w) w < s
flip_lt true s w h = omega arith
flip_lt false s w h = h

flip_flip : (b : Bool) (s w : ℕ) → w < s → cond b (s - 1 - cond b (s - 1 - w) w) (cond b (s - 1 - w) w) ≡ w
flip_flip true s w h = omega arith
flip_flip false s w h = refl

pub height_lt : (s p w : ℕ) → w < s → height s p w < s
unfolding height
height_lt s p w h = flip_lt (eqb (p % 2) 0) s w h

pub height_height : (s p w : ℕ) → w < s → height s p (height s p w) ≡ w
unfolding height
height_height s p w h = flip_flip (eqb (p % 2) 0) s w h

module _ (h s p j : ℕ) (odd : s ≡ 2 * h + 1) (big : 4 ≤ h) (inside : p < h) (two : j < 2) where
  back_right : back s (right s p - j) ≡ 2 * p + j
  back_right = go (leb (s - 1 - 2 * p) 6) refl
    where
      go : (b : Bool) → leb (s - 1 - 2 * p) 6 ≡ b → back s (right s p - j) ≡ 2 * p + j
      go true e =
          let low : s - 1 - 2 * p ≤ 6 = leb-true (s - 1 - 2 * p) 6 e in
          ap (λ (r : ℕ). back s (r - j)) (right_low s p low)
          ∙ back_low s (s - 1 - 2 * p - 1 - j) (omega arith) ∙ omega arith
      go false e =
          let high : 6 < s - 1 - 2 * p = leb-false (s - 1 - 2 * p) 6 e in
          ap (λ (r : ℕ). back s (r - j)) (right_high s p high)
          ∙ back_high s (s - 1 - 2 * p - j) (omega arith) ∙ omega arith

  pub right_lt : right s p - j < s
  right_lt = go (leb (s - 1 - 2 * p) 6) refl
    where
      go : (b : Bool) → leb (s - 1 - 2 * p) 6 ≡ b → right s p - j < s
      go true e = omega (arith, right_low s p (leb-true (s - 1 - 2 * p) 6 e))
      go false e = omega (arith, right_high s p (leb-false (s - 1 - 2 * p) 6 e))

-- the parts of a number below s * (s - 1)
module _ (h s k : ℕ) (odd : s ≡ 2 * h + 1) (below : k < s * (s - 1)) where
  pair_lt : k / (2 * s) < h
  pair_lt =
      let less : s - 1 ≡ 2 * h = omega arith in
      (div-lt_iff_lt-mul {k = 2 * s} {x = k} {y = h} (omega arith)).1 (omega (arith, ap (λ (n : ℕ). s * n) less))

  parts : k / (2 * s) * (2 * s) + 2 * (k / 2 % s) + k % 2 ≡ k
  parts = omega (arith, div-add-mod' (k / 2) s, div-div-eq-div-mul k 2 s, div-add-mod' k 2, ap (λ (q : ℕ). q * s) (div-div-eq-div-mul k 2 s))

module _ (h s k : ℕ) (odd : s ≡ 2 * h + 1) (big : 4 ≤ h) (below : k < s * (s - 1)) where
  -- the number of cell k is k
  pub number_cell : number s (cell s k) ≡ k
  unfolding number cell
  number_cell =
      let p : ℕ = k / (2 * s) in
      let w : ℕ = k / 2 % s in
      let j : ℕ = k % 2 in
      let hp : k / (2 * s) < h = pair_lt h s k odd below in
      let hw : k / 2 % s < s = mod-lt (k / 2) (omega arith) in
      let hj : k % 2 < 2 = mod-lt k (omega arith) in
      let hx : right s p - j < s = right_lt h s p j odd big hp hj in
      rw (digits_mod (height s p w) hx, digits_div (height s p w) hx, back_right h s p j odd big hp hj, mul-add-div {m = 2} (omega arith) p j, mul-add-mod_self_left 2 p j, div-eq_of_lt hj, mod-eq_of_lt hj, add-zero p, height_height s p w hw)
      (parts h s k odd below)

  pub cell_lt : cell s k < s * s
  unfolding cell
  cell_lt =
      let hw : k / 2 % s < s = mod-lt (k / 2) (omega arith) in
      let hj : k % 2 < 2 = mod-lt k (omega arith) in
      omega (
        arith,
        right_lt h s (k / (2 * s)) (k % 2) odd big (pair_lt h s k odd below) hj,
        mul-le-mul_right s (height_lt s (k / (2 * s)) (k / 2 % s) hw),
      )

-- no place stands at two numbers
pub cell_injective : (h s k l : ℕ) → s ≡ 2 * h + 1 → 4 ≤ h → k < s * (s - 1) → l < s * (s - 1) → cell s k ≡ cell s l → k ≡ l
cell_injective h s k l odd big hk hl e = sym (number_cell h s k odd big hk) ∙ ap (number s) e ∙ number_cell h s l odd big hl

-- ---- so a part of the zigzag has no place twice

-- g rises along the list, from m on
module _ (g : ℕ → ℕ) where
  pub Rising : ℕ → List ℕ → Type 0
  Rising m [] = Unit {0}
  Rising m (x ∷ xs) = (m ≤ g x) × Rising (suc (g x)) xs

  lower : (m n : ℕ) (xs : List ℕ) → m ≤ n → Rising n xs → Rising m xs
  unfolding Rising
  lower m n [] h r = tt
  lower m n (x ∷ xs) h r = (le_trans h r.0, r.1)

  kept : (b : Bool) (x : ℕ) (xs : List ℕ) → Rising (suc (g x)) xs → Rising (g x) (cons_if b x xs)
  unfolding Rising
  kept true x xs r = (le_refl (g x), r)
  kept false x xs r = lower (g x) (suc (g x)) xs (le-suc (g x)) r

  at_least : (m : ℕ) (xs : List ℕ) → Rising m xs → (i : ℕ) → i < length xs → m ≤ g (get_or xs i 0)
  unfolding Rising
  at_least m [] r i h = absurd (not-suc-le-zero h)
  at_least m (x ∷ xs) r zero h = r.0
  at_least m (x ∷ xs) r (suc i) h = at_least m xs (lower m (suc (g x)) xs (omega (arith, r.0)) r.1) i (le_of_suc-le-suc h)

  -- an element stands at one place only
  pub rising_injective : (m : ℕ) (xs : List ℕ) → Rising m xs → (i j : ℕ) → i < length xs → j < length xs → get_or xs i 0 ≡ get_or xs j 0 → i ≡ j
  unfolding Rising
  rising_injective m [] r i j hi hj e = absurd (not-suc-le-zero hi)
  rising_injective m (x ∷ xs) r zero zero hi hj e = refl
  rising_injective m (x ∷ xs) r zero (suc j) hi hj e = omega (arith, at_least (suc (g x)) xs r.1 j (le_of_suc-le-suc hj), ap g e)
  rising_injective m (x ∷ xs) r (suc i) zero hi hj e = omega (arith, at_least (suc (g x)) xs r.1 i (le_of_suc-le-suc hi), ap g e)
  rising_injective m (x ∷ xs) r (suc i) (suc j) hi hj e =
      ap suc (rising_injective (suc (g x)) xs r.1 i j (le_of_suc-le-suc hi) (le_of_suc-le-suc hj) e)

module _ (h s : ℕ) (odd : s ≡ 2 * h + 1) (big : 4 ≤ h) (p : ℕ → Bool) where
  cells_rise : (k n : ℕ) → k + n ≤ s * (s - 1) → Rising (number s) k (keep p (from k n (cell s)))
  unfolding Rising
  cells_rise k zero below = tt
  cells_rise k (suc n) below =
      let e : number s (cell s k) ≡ k = number_cell h s k odd big (omega arith) in
      let r : Rising (number s) (suc k) (keep p (from (suc k) n (cell s))) = cells_rise (suc k) n (omega arith) in
      rw e at (kept (number s) (p (cell s k)) (cell s k) (keep p (from (suc k) n (cell s))) (rw e r))

-- the path of a version: no place stands in it twice
pub path_injective : (v i j : ℕ) → i < length (path v) → j < length (path v) → get_or (path v) i 0 ≡ get_or (path v) j 0 → i ≡ j
unfolding path
path_injective v i j hi hj e =
    rising_injective (number (side v)) 0 (path v)
    (cells_rise (2 * v + 8) (side v) (omega arith) (omega arith) (free v) 0 (side v * (side v - 1)) (omega arith))
    i j hi hj e
