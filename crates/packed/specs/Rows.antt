-- The rows and columns of a grid, one line after the other: what they cost, the squares between rows, the dark modules.
-- Assumes nothing.
use Rattle.std.specs.Prelude.{◌≡◌, refl, List, [], ◌∷◌, ◌++◌, ℕ, zero, suc, ◌+◌, ◌-◌, ◌*◌, ◌%◌, ◌≤◌, ◌<◌, length, get_or, replicate}
use Rattle.std.proofs.Common.{sym, subst, ap, ap₂, ◌∙◌, mod-lt, zero-lt-suc, zero-add, add-one, arith}
use Rattle.std.specs.Int.Count.{ones, ones_step}
use Rattle.standard.specs.Numbers.{from, tabulate, sum}
use Rattle.standard.specs.Penalty.{module_of, row, column, line_cost, squares}
use Rattle.laws.specs.Lists.{length_tabulate}
use Rattle.laws.specs.Sums.{sum_append, sum_cong, sum_shift, sum_blocks, sum_le, sum_next, sum_end}
use Rattle.laws.specs.Each.{each}
use Rattle.penalty.specs.Scan.{Modules}
use Rattle.penalty.specs.Windows.{is}
use Rattle.penalty.specs.Lines.{colours, colour_at, from_modules}
use Rattle.packed.specs.Digits.{value, value_odd, value_half}
use Rattle.packed.specs.Cores.{four_modules}
use Rattle.packed.specs.Frame.{frame, line_of, Framed, framed, line_of_frame}
use Rattle.packed.specs.Squares.{squares_of, squares_rows}

-- what the rows of a grid come to: their cost, the squares between them, their dark modules
abbrev pub RowSums : ℕ → List ℕ → ℕ → ℕ → ℕ → Type 0
RowSums s g cost same dark =
    (cost ≡ sum (tabulate s (λ y. line_cost s (row s (colours g) y)))) × (same ≡ sum (tabulate (s - 1) (squares s (colours g)))) × (dark ≡ sum (colours g))
    × (cost ≤ 6960 * s) × (same ≤ 192 * s) × (dark ≤ 192 * s)

-- what its columns cost
abbrev pub column_sum : ℕ → List ℕ → ℕ
column_sum s g = sum (tabulate s (λ x. line_cost s (column s (colours g) x)))

-- ---- one line

colour_lt : (s : ℕ) (g : List ℕ) (x y : ℕ) → module_of s (colours g) x y < 2
unfolding module_of
colour_lt s g x y = let l = mod-lt (get_or g (y * s + x) 0) (zero-lt-suc 1) in omega (arith, colour_at g (y * s + x))

row_modules : (s : ℕ) (g : List ℕ) (y : ℕ) → Modules (row s (colours g) y)
unfolding row
row_modules s g y = from_modules (λ x. module_of s (colours g) x y) (λ x. colour_lt s g x y) 0 s

column_modules : (s : ℕ) (g : List ℕ) (x : ℕ) → Modules (column s (colours g) x)
unfolding column
column_modules s g x = from_modules (λ y. module_of s (colours g) x y) (λ y. colour_lt s g x y) 0 s

row_length : (s : ℕ) (g : List ℕ) (y : ℕ) → length (row s g y) ≡ s
unfolding row
row_length s g y = length_tabulate s _

column_length : (s : ℕ) (g : List ℕ) (x : ℕ) → length (column s g x) ≡ s
unfolding column
column_length s g x = length_tabulate s _

ones_value : (xs : List ℕ) → Modules xs → ones (value xs) ≡ sum xs
unfolding value Modules ones
ones_value [] h = refl
ones_value (x ∷ xs) h =
    ones_step (value (x ∷ xs)) ∙ ap₂ (λ (a b : ℕ). a + ones b) (value_odd x xs h.0) (value_half x xs h.0)
    ∙ ap (λ (n : ℕ). x + n) (ones_value xs h.1)

zeros_sum : (n : ℕ) → sum (replicate n 0) ≡ 0
zeros_sum zero = refl
zeros_sum (suc n) = omega (arith, zeros_sum n)

frame_sum : (xs : List ℕ) → sum (frame xs) ≡ sum xs
frame_sum xs = omega (arith, sum_append (replicate 4 0 ++ xs) (replicate 4 0), sum_append (replicate 4 0) xs, zeros_sum 4)

module _ (s : ℕ) (g : List ℕ) where
  pub row_framed : (y v : ℕ) → v ≡ value (frame (row s (colours g) y)) → Framed s v
  row_framed y v e = framed (row s (colours g) y) s v (row_modules s g y) (row_length s (colours g) y) e

  pub column_framed : (x v : ℕ) → v ≡ value (frame (column s (colours g) x)) → Framed s v
  column_framed x v e = framed (column s (colours g) x) s v (column_modules s g x) (column_length s (colours g) x) e

  row_line : (y v : ℕ) → v ≡ value (frame (row s (colours g) y)) → line_of s v ≡ row s (colours g) y
  row_line y v e = ap (line_of s) e ∙ line_of_frame (row s (colours g) y) s (row_modules s g y) (row_length s (colours g) y)

  pub column_cost : (x v r : ℕ) → v ≡ value (frame (column s (colours g) x)) → r ≡ line_cost s (line_of s v) → r ≡ line_cost s (column s (colours g) x)
  column_cost x v r e q =
      q ∙ ap (line_cost s) (ap (line_of s) e ∙ line_of_frame (column s (colours g) x) s (column_modules s g x) (column_length s (colours g) x))

  -- ---- the rows

  -- rows 0 to y are passed; last is the number of row y
  pub record Passed (y last cost same dark : ℕ) : Type 0 where
    pub line : last ≡ value (frame (row s (colours g) y))
    pub costs : cost ≡ sum (tabulate (y + 1) (λ k. line_cost s (row s (colours g) k)))
    pub evens : same ≡ sum (tabulate y (squares s (colours g)))
    pub darks : dark ≡ sum (tabulate (y + 1) (λ k. sum (row s (colours g) k)))

  row_cost : (y v r : ℕ) → v ≡ value (frame (row s (colours g) y)) → r ≡ line_cost s (line_of s v) → r ≡ line_cost s (row s (colours g) y)
  row_cost y v r e q = q ∙ ap (line_cost s) (row_line y v e)

  row_dark : (y v r : ℕ) → v ≡ value (frame (row s (colours g) y)) → r ≡ ones v → r ≡ sum (row s (colours g) y)
  row_dark y v r e q =
      q ∙ ap ones e ∙ ones_value (frame (row s (colours g) y)) (four_modules (row s (colours g) y) (row_modules s g y))
      ∙ frame_sum (row s (colours g) y)

  row_squares : (y v w r : ℕ) → v ≡ value (frame (row s (colours g) y)) → w ≡ value (frame (row s (colours g) (y + 1)))
      → r ≡ squares_of (line_of s v) (line_of s w) → r ≡ squares s (colours g) y
  row_squares y v w r e f q =
      q ∙ ap₂ squares_of (row_line y v e) (row_line (y + 1) w f ∙ ap (row s (colours g)) (add-one y)) ∙ squares_rows s (colours g) y

  pub passed_first : (last c d : ℕ) → last ≡ value (frame (row s (colours g) 0)) → c ≡ line_cost s (line_of s last) → d ≡ ones last → Passed 0 last c 0 d
  passed_first last c d e f h =
      record {
        line = e;
        costs = sym (zero-add c) ∙ sum_next (λ k. line_cost s (row s (colours g) k)) 0 0 c refl (row_cost 0 last c e f);
        evens = refl;
        darks = sym (zero-add d) ∙ sum_next (λ k. sum (row s (colours g) k)) 0 0 d refl (row_dark 0 last d e h);
      }

  pub passed_next : (y last cost same dark next c q d : ℕ) → Passed y last cost same dark → next ≡ value (frame (row s (colours g) (y + 1)))
      → c ≡ line_cost s (line_of s next) → d ≡ ones next → q ≡ squares_of (line_of s last) (line_of s next)
      → Passed (y + 1) next (cost + c) (same + q) (dark + d)
  passed_next y last cost same dark next c q d p e f h i =
      record {
        line = e;
        costs = sum_next (λ k. line_cost s (row s (colours g) k)) (y + 1) cost c p.costs (row_cost (y + 1) next c e f);
        evens = sum_next (squares s (colours g)) y same q p.evens (row_squares y last next q p.line e i);
        darks = sum_next (λ k. sum (row s (colours g) k)) (y + 1) dark d p.darks (row_dark (y + 1) next d e h);
      }

  pub passed_more : (y last cost same dark next c q d : ℕ) → 1 ≤ y → Passed (y - 1) last cost same dark → next ≡ value (frame (row s (colours g) y))
      → c ≡ line_cost s (line_of s next) → d ≡ ones next → q ≡ squares_of (line_of s last) (line_of s next)
      → Passed (y + 1 - 1) next (cost + c) (same + q) (dark + d)
  passed_more y last cost same dark next c q d l p e f h i =
      subst (λ (n : ℕ). Passed n next (cost + c) (same + q) (dark + d)) (is (y - 1 + 1) (y + 1 - 1) (omega arith))
      (passed_next (y - 1) last cost same dark next c q d p (e ∙ ap (λ (n : ℕ). value (frame (row s (colours g) n))) (is y (y - 1 + 1) (omega arith))) f h i)

-- all rows together are the whole grid
rows_sum : (s : ℕ) (g : List ℕ) → length g ≡ s * s → sum (tabulate s (λ k. sum (row s (colours g) k))) ≡ sum (colours g)
unfolding row module_of each
rows_sum s g e =
    sum_cong (λ k. sum (row s (colours g) k)) (λ q. sum (from (q * s) s (λ i. get_or g i 0 % 2))) 0 s
    (λ k o l.
    sum_cong (λ x. get_or (colours g) (k * s + x) 0) (λ x. get_or g (k * s + x) 0 % 2) 0 s (λ x p q. colour_at g (k * s + x))
    ∙ sym (sum_shift (λ i. get_or g i 0 % 2) (k * s) 0 s)
    ∙ ap (λ (n : ℕ). sum (from n s (λ i. get_or g i 0 % 2))) (omega arith))
    ∙ sym (sum_blocks (λ i. get_or g i 0 % 2) s 0 s)
    ∙ ap₂ (λ (a b : ℕ). sum (from a b (λ i. get_or g i 0 % 2))) (omega arith) (sym e)

module _ (s : ℕ) (g : List ℕ) (y last cost same dark : ℕ) (p : Passed s g y last cost same dark) (low : y + 1 ≤ s) (high : s ≤ y + 1) where
  pub passed_costs : cost ≡ sum (tabulate s (λ k. line_cost s (row s (colours g) k)))
  passed_costs = sum_end (λ k. line_cost s (row s (colours g) k)) (y + 1) s cost p.costs low high

  pub passed_squares : same ≡ sum (tabulate (s - 1) (squares s (colours g)))
  passed_squares = sum_end (squares s (colours g)) y (s - 1) same p.evens (omega arith) (omega arith)

  pub passed_darks : length g ≡ s * s → dark ≡ sum (colours g)
  passed_darks e = sum_end (λ k. sum (row s (colours g) k)) (y + 1) s dark p.darks low high ∙ rows_sum s g e

pub dark_le : (g : List ℕ) (dark : ℕ) → dark ≡ sum (colours g) → dark ≤ length g
unfolding each
dark_le g dark e = omega (arith, sum_le (λ k. get_or g k 0 % 2) 1 0 (length g) (λ k. low (mod-lt (get_or g k 0) (zero-lt-suc 1))))
  where
    low : {n : ℕ} → n < 2 → n ≤ 1
    low h = omega arith
