-- Squares of one colour, and the balance of dark and light modules, as the loops find them.
-- Assumes nothing.
use Rattle.std.specs.Prelude.{◌≡◌, List, Bool, true, false, ◌&&◌, ℕ, suc, ◌+◌, ◌-◌, ◌*◌, ◌%◌, ◌≤◌, ◌<◌, leb, eqb, get_or, length, take, drop}
use Rattle.std.proofs.Common.{sym, ap, ◌∙◌, add-one, arith}
use Rattle.std.proofs.lemmas.Bool.{lt-leb}
use Rattle.std.proofs.lemmas.List.{get_or-take, get_or-drop, length-drop}
use Rattle.standard.specs.Numbers.{one, least, sum, tabulate}
use Rattle.standard.specs.Penalty.{module_of, row, column, line_cost, square, squares, balance, penalty}
use Rattle.penalty.specs.Lines.{colours, colour_at}
use Rattle.penalty.specs.Windows.{is}

-- ---- squares

-- the four modules of a square, where row y begins at top and the next at bottom
pub square_here : (g : List ℕ) (s x y top bottom r : ℕ) → top ≡ y * s → bottom ≡ top + s
    → r ≡ one (eqb (get_or g (top + x) 0 % 2) (get_or g (top + x + 1) 0 % 2)
    && (eqb (get_or g (top + x) 0 % 2) (get_or g (bottom + x) 0 % 2) && eqb (get_or g (top + x) 0 % 2) (get_or g (bottom + x + 1) 0 % 2)))
    → r ≡ one (square s (colours g) x y)
unfolding square module_of
square_here g s x y top bottom r e f q =
    q
    ∙ sym (rw (
      colour_at g (y * s + x),
      colour_at g (y * s + suc x),
      colour_at g (suc y * s + x),
      colour_at g (suc y * s + suc x),
      is (y * s + x) (top + x) (omega arith),
      is (y * s + suc x) (top + x + 1) (omega arith),
      is (suc y * s + x) (bottom + x) (omega arith),
      is (suc y * s + suc x) (bottom + x + 1) (omega arith),
    ))

-- a row's neighbours: rest is what is left of it after i modules, w its first two, and more what is left then
pub next_window : (g rest more w : List ℕ) (base i s n : ℕ) → n ≡ 2 → n ≤ length rest → w ≡ take n rest → more ≡ drop 1 rest → length rest + i ≡ s
    → ((k : ℕ) → k < length rest → get_or rest k 0 ≡ get_or g (base + i + k) 0)
    → (get_or w 0 0 ≡ get_or g (base + i) 0) × (get_or w 1 0 ≡ get_or g (base + i + 1) 0) × (length more + (i + 1) ≡ s)
    × ((k : ℕ) → k < length more → get_or more k 0 ≡ get_or g (base + (i + 1) + k) 0)
next_window g rest more w base i s n en l ew em size here = (
  at 0 (omega arith) ∙ ap (λ (m : ℕ). get_or g m 0) (is (base + i + 0) (base + i) (omega arith)),
  at 1 (omega arith),
  omega (arith, left),
  λ k h.
      ap (λ (xs : List ℕ). get_or xs k 0) em ∙ get_or-drop 1 rest k 0 ∙ here (1 + k) (omega (arith, left))
      ∙ ap (λ (m : ℕ). get_or g m 0) (is (base + i + (1 + k)) (base + (i + 1) + k) (omega arith)),
)
  where
    left : length more ≡ length rest - 1
    left = ap length em ∙ length-drop 1 rest

    at : (k : ℕ) → k < 2 → get_or w k 0 ≡ get_or g (base + i + k) 0
    at k h = ap (λ (xs : List ℕ). get_or xs k 0) ew ∙ get_or-take n rest k 0 (omega arith) ∙ here k (omega arith)

-- ---- balance

abbrev fair : ℕ → ℕ → ℕ → Bool
fair a t k = leb a ((k + 1) * t)

module _ (a t k n : ℕ) where
  pub least_on : k < n → (k + 1) * t < a → least k (n - k) (λ k. leb a ((k + 1) * t)) ≡ least (k + 1) (n - (k + 1)) (λ k. leb a ((k + 1) * t))
  least_on h l =
      ap (λ (m : ℕ). least k m (fair a t)) (is (n - k) (suc (n - (k + 1))) (omega arith))
      ∙ ap (λ (b : Bool). elim b [ true ↦ k | false ↦ least (suc k) (n - (k + 1)) (fair a t) ]) (lt-leb a ((k + 1) * t) l)
      ∙ ap (λ (m : ℕ). least m (n - (k + 1)) (fair a t)) (sym (add-one k))

-- ---- the sum of all

pub penalty_parts : (s : ℕ) (g : List ℕ) (a b c d k : ℕ)
    → a ≡ sum (tabulate s (λ y. line_cost s (row s g y)))
    → b ≡ sum (tabulate s (λ x. line_cost s (column s g x)))
    → c ≡ sum (tabulate (s - 1) (squares s g)) → d ≡ sum g → k ≡ balance d (s * s) → a + b + 3 * c + 10 * k ≡ penalty s g
unfolding penalty
penalty_parts s g a b c d k e f h i j = rw (e, f, h, j, i)
