-- How large the penalty of a grid can be.
-- Document 01, "Modules". Assumes nothing.
use Rattle.std.specs.Prelude.{◌≡◌, refl, List, [], ◌∷◌, ◌++◌, map, Bool, true, false, cond, ◌&&◌, ℕ, zero, suc, ◌+◌, ◌-◌, ◌*◌, ◌/◌, ◌≤◌, leb, eqb, length, replicate}
use Rattle.std.proofs.Common.{ap, append_assoc, arith}
use Rattle.standard.specs.Numbers.{apart, one, sum, tabulate}
use Rattle.standard.specs.Penalty.{row, column, runs_from, runs, run_cost, core_count, core_at, cores, bordered, line_cost, square, squares, balance, penalty}
use Rattle.laws.specs.Least.{least_within}
use Rattle.laws.specs.Lists.{length_tabulate}
use Rattle.laws.specs.Sums.{sum_le}
use Rattle.penalty.specs.Scan.{border_runs, zeros_run}

pub one_le : (b : Bool) → one b ≤ 1
one_le true = omega arith
one_le false = omega arith

-- ---- lines

pub run_le : (n : ℕ) → run_cost n ≤ n - 1
unfolding run_cost
run_le n = go (leb 5 n) refl
  where
    go : (b : Bool) → leb 5 n ≡ b → cond b (n - 2) 0 ≤ n - 1
    go true e = omega arith
    go false e = omega arith

core_le : (p n b c d e q : ℕ) → core_count p n b c d e q ≤ 2
unfolding core_count
core_le p n b c d e q = go (eqb b n && (eqb c (3 * n) && (eqb d n && eqb e n)))
  where
    go : (t : Bool) → cond t (one (leb (4 * n) p && leb n q) + one (leb (4 * n) q && leb n p)) 0 ≤ 2
    go true = omega (arith, one_le (leb (4 * n) p && leb n q), one_le (leb (4 * n) q && leb n p))
    go false = omega arith

cores_le : (rs : List ℕ) → cores rs ≤ length rs - 5
unfolding cores core_at
cores_le rs = omega (arith, sum_le (λ i. core_at rs (2 * i)) 2 0 ((length rs - 5) / 2) (λ i. core_le _ _ _ _ _ _ _))

border_length : (s c m : ℕ) → length (runs_from c m (replicate s 0)) ≤ 2
unfolding runs_from
border_length zero c m = omega arith
border_length (suc s) c m = go (eqb 0 c) (border_length s c (suc m))
  where
    go : (b : Bool) → length (runs_from c (suc m) (replicate s 0)) ≤ 2
        → length {A = ℕ} (elim b [ true ↦ runs_from c (suc m) (replicate s 0) | false ↦ m ∷ runs_from 0 1 (replicate s 0) ]) ≤ 2
    go true h = h
    go false h = omega (arith, ap length (border_runs 1 s))

-- many runs cost little
runs_le : (xs : List ℕ) (s c n m : ℕ)
    → sum (map run_cost (runs_from c n xs)) + length (runs_from c m (xs ++ replicate s 0)) ≤ length xs + 2 + (n - 1)
unfolding runs_from
runs_le [] s c n m = omega (arith, run_le n, border_length s c m)
runs_le (x ∷ xs) s c n m = go (eqb x c) (runs_le xs s c (suc n) (suc m)) (runs_le xs s x 1 1)
  where
    go : (b : Bool)
        → sum (map run_cost (runs_from c (suc n) xs)) + length (runs_from c (suc m) (xs ++ replicate s 0)) ≤ length xs + 2 + (suc n - 1)
        → sum (map run_cost (runs_from x 1 xs)) + length (runs_from x 1 (xs ++ replicate s 0)) ≤ length xs + 2 + (1 - 1)
        → sum (map run_cost (elim b [ true ↦ runs_from c (suc n) xs | false ↦ n ∷ runs_from x 1 xs ]))
        + length {A = ℕ} (elim b [ true ↦ runs_from c (suc m) (xs ++ replicate s 0) | false ↦ m ∷ runs_from x 1 (xs ++ replicate s 0) ])
        ≤ suc (length xs) + 2 + (n - 1)
    go true h k = omega arith
    go false h k = omega (arith, run_le n)

pub line_le : (s : ℕ) (xs : List ℕ) → length xs ≡ s → s ≤ 177 → line_cost s xs ≤ 6960
unfolding line_cost runs bordered
line_le s xs e l =
    rw (append_assoc (replicate s 0) xs (replicate s 0), zeros_run s 0 (xs ++ replicate s 0))
    (omega (arith, cores_le (runs_from 0 (0 + s) (xs ++ replicate s 0)), runs_le xs s 0 0 (0 + s)))

-- ---- the whole grid

pub balance_le : (dark total : ℕ) → balance dark total ≤ 10
unfolding balance
balance_le dark total = least_within (λ k. leb (apart (20 * dark) (10 * total)) ((k + 1) * total)) 0 10

pub squares_le : (s : ℕ) (g : List ℕ) (y : ℕ) → squares s g y ≤ s - 1
unfolding squares
squares_le s g y = omega (arith, sum_le (λ x. one (square s g x y)) 1 0 (s - 1) (λ x. one_le (square s g x y)))

module _ (s : ℕ) (g : List ℕ) (l : s ≤ 177) where
  pub row_le : (y : ℕ) → line_cost s (row s g y) ≤ 6960
  unfolding row
  row_le y = line_le s (row s g y) (length_tabulate s _) l

  pub column_le : (x : ℕ) → line_cost s (column s g x) ≤ 6960
  unfolding column
  column_le x = line_le s (column s g x) (length_tabulate s _) l

  pub rows_le : (n : ℕ) → sum (tabulate n (λ y. line_cost s (row s g y))) ≤ n * 6960
  rows_le n = sum_le (λ y. line_cost s (row s g y)) 6960 0 n row_le

  pub columns_le : (n : ℕ) → sum (tabulate n (λ x. line_cost s (column s g x))) ≤ n * 6960
  columns_le n = sum_le (λ x. line_cost s (column s g x)) 6960 0 n column_le

  pub squares_here_le : (y : ℕ) → squares s g y ≤ 176
  squares_here_le y = omega (arith, squares_le s g y)

  pub all_squares_le : (n : ℕ) → sum (tabulate n (squares s g)) ≤ n * 176
  all_squares_le n = sum_le (squares s g) 176 0 n squares_here_le

  -- the total lies in 0..2,568,888
  pub penalty_le : penalty s g ≤ 2568888
  unfolding penalty
  penalty_le = omega (arith, rows_le s, columns_le s, all_squares_le (s - 1), balance_le (sum g) (s * s))
