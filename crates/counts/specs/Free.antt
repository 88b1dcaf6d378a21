-- The path has as many places as there are raw modules, at each version. The places are counted by pairs of columns.
-- Assumes nothing.
use Rattle.std.specs.Prelude.{ℕ, zero, suc, ◌+◌, ◌-◌, ◌*◌, ◌/◌, ◌%◌, ◌≤◌, ◌<◌, Bool, true, false, not, ◌&&◌, ◌||◌, List, ◌≡◌, refl, T, eqb, length}
use Rattle.std.proofs.Common.{sym, ◌∙◌, add-one, add-zero, zero-mul, eqb→eq}
use Rattle.std.proofs.Math.Path.{ap, ap₂}
use native.Mathlib.Omega.{arith}
use Rattle.std.proofs.Math.Nat.{mod-eq_of_lt, div-eq_of_lt, div-div-eq-div-mul, mul-add-div_right, mul-add-mod_self_right}
use Rattle.std.proofs.Math.Arith.{digits_div, digits_mod}
use Rattle.standard.specs.Numbers.{one, from, cons_if, keep, sum}
use Rattle.standard.specs.Sizes.{side, raw_modules}
use Rattle.standard.specs.Patterns.{on_timing, on_finder, on_corner}
use Rattle.standard.specs.Format.{on_format, on_version}
use Rattle.standard.specs.Functions.{is_function}
use Rattle.standard.specs.Path.{right, height, cell, free, path}
use Rattle.standard.proofs.Open.{opened}
use Rattle.laws.specs.Tests.{split}
use Rattle.laws.specs.Computed.{among, each_of}
use Rattle.laws.specs.Sums.{sum_cong, sum_shift, sum_blocks}
use Rattle.counts.specs.Area.{outer, near, area, area_eq}
use Rattle.counts.specs.Zigzag.{right_lt, height_lt}

-- 1 at a free place
is_open : ℕ → ℕ → ℕ
is_open v i = one (not (is_function v (i % side v) (i / side v)))

length_cons_if : (b : Bool) (x : ℕ) (xs : List ℕ) → length (cons_if b x xs) ≡ one b + length xs
length_cons_if true x xs = omega arith
length_cons_if false x xs = omega arith

length_keep : (v k n : ℕ) → length (keep (free v) (from k n (cell (side v)))) ≡ sum (from k n (λ i. is_open v (cell (side v) i)))
unfolding is_open free
length_keep v k zero = refl
length_keep v k (suc n) =
    length_cons_if (free v (cell (side v) k)) (cell (side v) k) (keep (free v) (from (suc k) n (cell (side v))))
    ∙ ap (λ (m : ℕ). one (free v (cell (side v) k)) + m) (length_keep v (suc k) n)

-- ---- cell j of row w of pair q

module _ (s q w j : ℕ) (inside : w < s) (two : j < 2) where
  half : ((q * s + w) * 2 + j) / 2 ≡ q * s + w
  half = mul-add-div_right (omega arith) (q * s + w) j ∙ ap (λ (m : ℕ). q * s + w + m) (div-eq_of_lt two) ∙ add-zero (q * s + w)

  cell_at : cell s ((q * s + w) * 2 + j) ≡ height s q w * s + (right s q - j)
  unfolding cell
  cell_at =
      rw (
        ← div-div-eq-div-mul ((q * s + w) * 2 + j) 2 s,
        half,
        digits_div q inside,
        digits_mod q inside,
        mul-add-mod_self_right (q * s + w) 2 j,
        mod-eq_of_lt two,
      )

-- ---- by pairs

free_at : ℕ → ℕ → ℕ → ℕ
free_at v x y = one (not (area v x y))

module _ (v : ℕ) (low : 1 ≤ v) (high : v ≤ 40) where
  is_open_at : (q w j : ℕ) → q < 2 * v + 8 → w < side v → j < 2
      → is_open v (cell (side v) ((q * side v + w) * 2 + j)) ≡ free_at v (right (side v) q - j) (height (side v) q w)
  unfolding is_open free_at
  is_open_at q w j hq hw hj =
      let hx : right (side v) q - j < side v = right_lt (2 * v + 8) (side v) q j (omega arith) (omega arith) hq hj in
      rw (
        cell_at (side v) q w j hw hj,
        digits_mod (height (side v) q w) hx,
        digits_div (height (side v) q w) hx,
        area_eq v (right (side v) q - j) (height (side v) q w) low high hx (height_lt (side v) q w hw),
      )

-- the free places of row w of pair q
row_count : ℕ → ℕ → ℕ → ℕ
row_count v q w = free_at v (right (side v) q - 0) (height (side v) q w) + free_at v (right (side v) q - 1) (height (side v) q w)

module _ (v : ℕ) (low : 1 ≤ v) (high : v ≤ 40) where
  row_total : (q w : ℕ) → q < 2 * v + 8 → w < side v
      → sum (from ((q * side v + w) * 2) 2 (λ i. is_open v (cell (side v) i))) ≡ row_count v q w
  unfolding row_count
  row_total q w hq hw =
      let a : is_open v (cell (side v) ((q * side v + w) * 2 + 0)) ≡ free_at v (right (side v) q - 0) (height (side v) q w) = is_open_at v low high q w 0 hq hw (omega arith) in
      let b : is_open v (cell (side v) ((q * side v + w) * 2 + 1)) ≡ free_at v (right (side v) q - 1) (height (side v) q w) = is_open_at v low high q w 1 hq hw (omega arith) in
      omega (arith, rw (add-zero ((q * side v + w) * 2)) at a, rw (add-one ((q * side v + w) * 2)) at b)

  pair_total : (q : ℕ) → q < 2 * v + 8 → sum (from (q * (2 * side v)) (2 * side v) (λ i. is_open v (cell (side v) i))) ≡ sum (from 0 (side v) (row_count v q))
  pair_total q hq =
      let start : q * (2 * side v) ≡ q * side v * 2 = omega arith in
      let count : 2 * side v ≡ side v * 2 = omega arith in
      ap₂ (λ (i n : ℕ). sum (from i n (λ i. is_open v (cell (side v) i)))) start count
      ∙ sum_blocks (λ i. is_open v (cell (side v) i)) 2 (q * side v) (side v)
      ∙ ap (λ (i : ℕ). sum (from i (side v) (λ r. sum (from (r * 2) 2 (λ i. is_open v (cell (side v) i)))))) (sym (add-zero (q * side v)))
      ∙ sum_shift (λ r. sum (from (r * 2) 2 (λ i. is_open v (cell (side v) i)))) (q * side v) 0 (side v)
      ∙ sum_cong (λ w. sum (from ((q * side v + w) * 2) 2 (λ i. is_open v (cell (side v) i)))) (row_count v q) 0 (side v) (λ w l h. row_total q w hq (omega arith))

  path_total : length (path v) ≡ sum (from 0 (2 * v + 8) (λ q. sum (from 0 (side v) (row_count v q))))
  unfolding path
  path_total =
      let less : side v - 1 ≡ 2 * (2 * v + 8) = omega arith in
      let count : side v * (side v - 1) ≡ (2 * v + 8) * (2 * side v) = omega (arith, ap (λ (n : ℕ). side v * n) less) in
      length_keep v 0 (side v * (side v - 1))
      ∙ ap₂ (λ (i n : ℕ). sum (from i n (λ i. is_open v (cell (side v) i)))) (sym (zero-mul (2 * side v))) count
      ∙ sum_blocks (λ i. is_open v (cell (side v) i)) (2 * side v) 0 (2 * v + 8)
      ∙ sum_cong (λ q. sum (from (q * (2 * side v)) (2 * side v) (λ i. is_open v (cell (side v) i)))) (λ q. sum (from 0 (side v) (row_count v q))) 0 (2 * v + 8) (λ q l h. pair_total q (omega arith))

-- ---- computed: what concerns a column alone is computed once for the column

column_count : ℕ → ℕ → ℕ → ℕ
column_count v x =
    let o = outer (side v) x in
    let n = near v x in
    λ y. one (not (on_timing x y || ((o && (on_finder (side v) x y || (on_format (side v) x y || on_version v x y))) || (n && (near v y && not (on_corner (side v) x y))))))

pair_count : ℕ → ℕ → ℕ
pair_count v q =
    let s = side v in
    let x = right s q in
    let a = column_count v (x - 0) in
    let b = column_count v (x - 1) in
    sum (from 0 s (λ w. let y = height s q w in a y + b y))

pairs_agree : (v q : ℕ) → sum (from 0 (side v) (row_count v q)) ≡ pair_count v q
unfolding row_count free_at area column_count pair_count
pairs_agree v q = refl

counted : ℕ → Bool
counted v = eqb (sum (from 0 (2 * v + 8) (pair_count v))) (raw_modules v)

Counted : ℕ → ℕ → Type 0
Counted k n = T (among k n counted)

from_1 : Counted 1 22
unfolding opened outer near column_count pair_count counted Counted
from_1 = tt

from_23 : Counted 23 9
unfolding opened outer near column_count pair_count counted Counted
from_23 = tt

from_32 : Counted 32 5
unfolding opened outer near column_count pair_count counted Counted
from_32 = tt

from_37 : Counted 37 4
unfolding opened outer near column_count pair_count counted Counted
from_37 = tt

counted_at : (v : ℕ) → 1 ≤ v → v ≤ 40 → T (counted v)
unfolding Counted
counted_at v low high =
    split v 23 (λ h. each_of counted 1 22 from_1 v (omega arith) (omega arith)) λ h1.
    split v 32 (λ h. each_of counted 23 9 from_23 v (omega arith) (omega arith)) λ h23.
    split v 37 (λ h. each_of counted 32 5 from_32 v (omega arith) (omega arith)) λ h32.
    each_of counted 37 4 from_37 v (omega arith) (omega arith)

pub path_length_lem : (v : ℕ) → 1 ≤ v → v ≤ 40 → length (path v) ≡ raw_modules v
unfolding counted
path_length_lem v low high =
    path_total v low high
    ∙ sum_cong (λ q. sum (from 0 (side v) (row_count v q))) (pair_count v) 0 (2 * v + 8) (λ q l h. pairs_agree v q)
    ∙ eqb→eq (sum (from 0 (2 * v + 8) (pair_count v))) (raw_modules v) (counted_at v low high)
