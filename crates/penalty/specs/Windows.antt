-- The cores of a line's runs as one run more comes at the end; the runs so far, newest first.
-- Assumes nothing.
use Rattle.std.specs.Prelude.{◌≡◌, refl, List, [], ◌∷◌, ◌++◌, ℕ, zero, suc, ◌+◌, ◌-◌, ◌*◌, ◌/◌, ◌<◌, length, get_or}
use Rattle.std.proofs.Common.{sym, ap, ◌∙◌, arith, length-append}
use Rattle.std.proofs.Math.ListN.{get_or-append}
use Rattle.std.proofs.Math.Seq.{get_or-append_seam}
use Rattle.standard.specs.Numbers.{sum, tabulate}
use Rattle.standard.specs.Penalty.{core_count, core_at, cores}
use Rattle.laws.specs.Sums.{sum_cong, sum_next}

-- an equation with its sides written out
pub is : (m n : ℕ) → m ≡ n → m ≡ n
is m n e = e

-- ---- one run more at the end

core_append : (rs : List ℕ) (r i : ℕ) → i + 6 < length rs → core_at (rs ++ (r ∷ [])) i ≡ core_at rs i
unfolding core_at
core_append rs r i h =
    rw (
      get_or-append rs (r ∷ []) 0 i (omega arith),
      get_or-append rs (r ∷ []) 0 (i + 1) (omega arith),
      get_or-append rs (r ∷ []) 0 (i + 2) (omega arith),
      get_or-append rs (r ∷ []) 0 (i + 3) (omega arith),
      get_or-append rs (r ∷ []) 0 (i + 4) (omega arith),
      get_or-append rs (r ∷ []) 0 (i + 5) (omega arith),
      get_or-append rs (r ∷ []) 0 (i + 6) (omega arith),
    )

length_snoc : (rs : List ℕ) (r : ℕ) → length (rs ++ (r ∷ [])) ≡ length rs + 1
length_snoc rs r = length-append rs (r ∷ [])

-- a dark run ends no window
pub dark_run : (rs : List ℕ) (r m : ℕ) → length rs ≡ 2 * m + 1 → cores (rs ++ (r ∷ [])) ≡ cores rs
unfolding cores
dark_run rs r m e =
    ap (λ (n : ℕ). sum (tabulate n (λ i. core_at (rs ++ (r ∷ [])) (2 * i)))) (ap (λ (n : ℕ). (n - 5) / 2) (length_snoc rs r) ∙ is ((length rs + 1 - 5) / 2) ((length rs - 5) / 2) (omega arith))
    ∙ sum_cong (λ i. core_at (rs ++ (r ∷ [])) (2 * i)) (λ i. core_at rs (2 * i)) 0 ((length rs - 5) / 2) (λ i o l. core_append rs r (2 * i) (omega arith))

-- a light one ends one, if there are seven
pub few_runs : (rs : List ℕ) (r : ℕ) → length rs < 6 → cores (rs ++ (r ∷ [])) ≡ cores rs
unfolding cores
few_runs rs r l =
    ap (λ (n : ℕ). sum (tabulate n (λ i. core_at (rs ++ (r ∷ [])) (2 * i)))) (ap (λ (n : ℕ). (n - 5) / 2) (length_snoc rs r) ∙ is ((length rs + 1 - 5) / 2) 0 (omega arith))
    ∙ sym (ap (λ (n : ℕ). sum (tabulate n (λ i. core_at rs (2 * i)))) (is ((length rs - 5) / 2) 0 (omega arith)))

pub light_run : (rs : List ℕ) (r m : ℕ) → length rs ≡ 2 * m + 6 → cores (rs ++ (r ∷ [])) ≡ cores rs + core_at (rs ++ (r ∷ [])) (2 * m)
unfolding cores
light_run rs r m e =
    ap (λ (n : ℕ). sum (tabulate n (λ i. core_at (rs ++ (r ∷ [])) (2 * i))))
    (ap (λ (n : ℕ). (n - 5) / 2) (length_snoc rs r) ∙ (is ((length rs + 1 - 5) / 2) (m + 1) (omega arith)))
    ∙ sym (sum_next (λ i. core_at (rs ++ (r ∷ [])) (2 * i)) m (sum (tabulate ((length rs - 5) / 2) (λ i. core_at rs (2 * i)))) (core_at (rs ++ (r ∷ [])) (2 * m))
    (ap (λ (n : ℕ). sum (tabulate n (λ i. core_at rs (2 * i)))) (is ((length rs - 5) / 2) m (omega arith))
    ∙ sym (sum_cong (λ i. core_at (rs ++ (r ∷ [])) (2 * i)) (λ i. core_at rs (2 * i)) 0 m (λ i o l. core_append rs r (2 * i) (omega arith))))
    refl)

-- ---- the runs so far, newest first

unfoldable pub rev : List ℕ → List ℕ
rev [] = []
rev (x ∷ xs) = rev xs ++ (x ∷ [])

pub length_rev : (xs : List ℕ) → length (rev xs) ≡ length xs
unfolding rev
length_rev [] = refl
length_rev (x ∷ xs) = length_snoc (rev xs) x ∙ omega (arith, length_rev xs)

get_d_rev : (xs : List ℕ) (i j : ℕ) → i + j + 1 ≡ length xs → get_or (rev xs) i 0 ≡ get_or xs j 0
unfolding rev
get_d_rev [] i j e = absurd (omega arith)
get_d_rev (x ∷ xs) i zero e =
    ap (λ (k : ℕ). get_or (rev xs ++ (x ∷ [])) k 0) (is i (length (rev xs)) (omega (arith, length_rev xs))) ∙ get_or-append_seam (rev xs) x [] 0
get_d_rev (x ∷ xs) i (suc j) e = get_or-append (rev xs) (x ∷ []) 0 i (omega (arith, length_rev xs)) ∙ get_d_rev xs i j (omega arith)

-- the window that a light run ends
pub window : (rb : List ℕ) (m : ℕ) → length rb ≡ 2 * m + 7
    → core_at (rev rb) (2 * m) ≡ core_count (get_or rb 6 0) (get_or rb 5 0) (get_or rb 4 0) (get_or rb 3 0) (get_or rb 2 0) (get_or rb 1 0) (get_or rb 0 0)
unfolding core_at
window rb m e =
    rw (
      get_d_rev rb (2 * m) 6 (omega arith),
      get_d_rev rb (2 * m + 1) 5 (omega arith),
      get_d_rev rb (2 * m + 2) 4 (omega arith),
      get_d_rev rb (2 * m + 3) 3 (omega arith),
      get_d_rev rb (2 * m + 4) 2 (omega arith),
      get_d_rev rb (2 * m + 5) 1 (omega arith),
      get_d_rev rb (2 * m + 6) 0 (omega arith),
    )
