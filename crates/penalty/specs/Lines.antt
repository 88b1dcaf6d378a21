-- The colours of a work grid, and its lines: modules from a start on in equal steps.
-- Assumes nothing.
use Rattle.std.specs.Prelude.{◌≡◌, refl, List, ℕ, zero, suc, ◌+◌, ◌*◌, ◌%◌, ◌<◌, length, get_or}
use Rattle.std.proofs.Common.{sym, ap, ◌∙◌, mod-lt, zero-lt-suc, add_comm, arith}
use Rattle.std.proofs.Math.Arith.{digits_lt}
use Rattle.standard.specs.Numbers.{from, sum, tabulate}
use Rattle.standard.specs.Penalty.{module_of, row, column, line_cost}
use Rattle.laws.specs.Tests.{split}
use Rattle.laws.specs.Lists.{length_tabulate, get_d_tabulate, from_cong, past}
use Rattle.laws.specs.Sums.{sum_cong}
use Rattle.laws.specs.Each.{each}
use Rattle.penalty.specs.Scan.{Modules}
use Rattle.penalty.specs.Windows.{is}

-- the colour of a byte of a work grid is its lowest digit
abbrev pub colours : List ℕ → List ℕ
colours g = each (λ _ k. k % 2) g

pub colour_at : (g : List ℕ) (k : ℕ) → get_or (colours g) k 0 ≡ get_or g k 0 % 2
unfolding each
colour_at g k =
    split k (length g) (λ l. get_d_tabulate (length g) (λ k. get_or g k 0 % 2) k 0 l)
    (λ l. past (colours g) k (omega (arith, length_tabulate (length g) (λ k. get_or g k 0 % 2))) ∙ rw (past g k l))

-- the colour of the module that comes i steps after the start
unfoldable pub along : List ℕ → ℕ → ℕ → ℕ → ℕ
along g start step i = get_or g (start + i * step) 0 % 2

pub along_at : (g : List ℕ) (start step i : ℕ) → get_or g (start + i * step) 0 % 2 ≡ along g start step i
unfolding along
along_at g start step i = refl

pub along_lt : (g : List ℕ) (start step i : ℕ) → along g start step i < 2
unfolding along
along_lt g start step i = mod-lt (get_or g (start + i * step) 0) (zero-lt-suc 1)

pub from_modules : (f : ℕ → ℕ) → ((i : ℕ) → f i < 2) → (k n : ℕ) → Modules (from k n f)
unfolding Modules
from_modules f h k zero = tt
from_modules f h k (suc n) = (h k, from_modules f h (suc k) n)

-- ---- rows and columns

pub row_along : (s : ℕ) (g : List ℕ) (y : ℕ) → tabulate s (along g (y * s) 1) ≡ row s (colours g) y
unfolding row along module_of
row_along s g y =
    from_cong 0 s (along g (y * s) 1) (λ x. module_of s (colours g) x y)
    (λ i o l. ap (λ (k : ℕ). get_or g k 0 % 2) (is (y * s + i * 1) (y * s + i) (omega arith)) ∙ sym (colour_at g (y * s + i)))

pub column_along : (s : ℕ) (g : List ℕ) (x : ℕ) → tabulate s (along g x s) ≡ column s (colours g) x
unfolding column along module_of
column_along s g x =
    from_cong 0 s (along g x s) (λ y. module_of s (colours g) x y)
    (λ i o l. ap (λ (k : ℕ). get_or g k 0 % 2) (add_comm x (i * s)) ∙ sym (colour_at g (i * s + x)))

pub in_row : (s y n : ℕ) → n ≡ s * s → y < s → (i : ℕ) → i < s → y * s + i * 1 < n
in_row s y n e hy i hi = omega (arith, digits_lt hy hi)

pub in_column : (s x n : ℕ) → n ≡ s * s → x < s → (i : ℕ) → i < s → x + i * s < n
in_column s x n e hx i hi = omega (arith, digits_lt hi hx)

-- the columns begin one module apart
pub in_columns : (s x n : ℕ) → n ≡ s * s → x < s → (i : ℕ) → i < s → x * 1 + i * s < n
in_columns s x n e hx i hi = omega (arith, in_column s x n e hx i hi)

pub rows_sum : (s : ℕ) (g : List ℕ) → sum (tabulate s (λ k. line_cost s (tabulate s (along g (k * s) 1)))) ≡ sum (tabulate s (λ y. line_cost s (row s (colours g) y)))
rows_sum s g = sum_cong (λ k. line_cost s (tabulate s (along g (k * s) 1))) (λ y. line_cost s (row s (colours g) y)) 0 s (λ k o l. ap (line_cost s) (row_along s g k))

pub columns_sum : (s : ℕ) (g : List ℕ)
    → sum (tabulate s (λ k. line_cost s (tabulate s (along g (k * 1) s)))) ≡ sum (tabulate s (λ x. line_cost s (column s (colours g) x)))
columns_sum s g =
    sum_cong (λ k. line_cost s (tabulate s (along g (k * 1) s))) (λ x. line_cost s (column s (colours g) x)) 0 s
    (λ k o l. ap (line_cost s) (ap (λ (n : ℕ). tabulate s (along g n s)) (is (k * 1) k (omega arith)) ∙ column_along s g k))
