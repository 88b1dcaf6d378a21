-- A grid leaves one content of the words: two lists of words that hold the same lines are equal.
-- Assumes nothing.
use Rattle.std.specs.Prelude.{◌≡◌, List, ◌⊎◌, ℕ, ◌+◌, ◌*◌, ◌/◌, ◌^◌, ◌≤◌, ◌<◌, length}
use Rattle.std.proofs.Common.{sym, ap, ◌∙◌, inl, inr, arith, ext_get_or}
use Rattle.std.proofs.Math.ListN.{get_or}
use Rattle.laws.specs.Tests.{compared}
use Rattle.penalty.specs.Windows.{is}
use Rattle.packed.specs.Words.{join3}
use Rattle.packed.specs.Stored.{line_at, Holds, RowHeld, ColumnHeld}

same_words : (a b c x y z : ℕ) → a < 2 ^ 64 → b < 2 ^ 64 → x < 2 ^ 64 → y < 2 ^ 64 → join3 a b c ≡ join3 x y z → (a ≡ x) × (b ≡ y) × (c ≡ z)
unfolding join3
same_words a b c x y z ha hb hx hy e =
    let o = apart (c * 2 ^ 64 + b) (z * 2 ^ 64 + y) a x ha hx e in
    let i = apart c z b y hb hy o.0 in
    (o.1, i.1, i.0)
  where
    apart : (m n a x : ℕ) → a < 2 ^ 64 → x < 2 ^ 64 → m * 2 ^ 64 + a ≡ n * 2 ^ 64 + x → (m ≡ n) × (a ≡ x)
    apart m n a x ha hx e = (omega arith, omega arith)

module _ (ws us : List ℕ) (hw : (i : ℕ) → get_or ws i 0 < 2 ^ 64) (hu : (i : ℕ) → get_or us i 0 < 2 ^ 64) where
  -- a word of the line at p
  same_word : (p i : ℕ) → line_at ws p ≡ line_at us p → p ≤ i → i < p + 3 → get_or ws i 0 ≡ get_or us i 0
  unfolding line_at
  same_word p i e l h = go (compared i (p + 1))
    where
      all : (get_or ws p 0 ≡ get_or us p 0) × (get_or ws (p + 1) 0 ≡ get_or us (p + 1) 0) × (get_or ws (p + 2) 0 ≡ get_or us (p + 2) 0)
      all = same_words _ _ _ _ _ _ (hw p) (hw (p + 1)) (hu p) (hu (p + 1)) e

      at : (j : ℕ) → i ≡ j → get_or ws j 0 ≡ get_or us j 0 → get_or ws i 0 ≡ get_or us i 0
      at j q o = ap (λ (n : ℕ). get_or ws n 0) q ∙ o ∙ ap (λ (n : ℕ). get_or us n 0) (sym q)

      go : (i < p + 1) ⊎ ((i ≡ p + 1) ⊎ (p + 1 < i)) → get_or ws i 0 ≡ get_or us i 0
      go (inl q) = at p (is i p (omega arith)) all.0
      go (inr (inl q)) = at (p + 1) q all.1
      go (inr (inr q)) = at (p + 2) (is i (p + 2) (omega arith)) all.2

  held_unique : (s step : ℕ) (start : ℕ → ℕ) (g : List ℕ) → length ws ≡ 6 * s → length us ≡ 6 * s
      → ((k : ℕ) → k < s → Holds s (start k) step g ws k) → ((k : ℕ) → k < s → Holds s (start k) step g us k) → ws ≡ us
  held_unique s step start g lw lu ow ou = ext_get_or 0 ws us (lw ∙ sym lu) (λ i h. go i (omega arith) (compared i (6 * (i / 6) + 3)))
    where
      colours : (k : ℕ) → k < s → line_at ws (6 * k) ≡ line_at us (6 * k)
      colours k h = (ow k h).colour ∙ sym (ou k h).colour

      frees : (k : ℕ) → k < s → line_at ws (6 * k + 3) ≡ line_at us (6 * k + 3)
      frees k h = (ow k h).free ∙ sym (ou k h).free

      go : (i : ℕ) → i < 6 * s → (i < 6 * (i / 6) + 3) ⊎ ((i ≡ 6 * (i / 6) + 3) ⊎ (6 * (i / 6) + 3 < i)) → get_or ws i 0 ≡ get_or us i 0
      go i h (inl q) = same_word (6 * (i / 6)) i (colours (i / 6) (omega arith)) (omega arith) (omega arith)
      go i h (inr (inl q)) = same_word (6 * (i / 6) + 3) i (frees (i / 6) (omega arith)) (omega arith) (omega arith)
      go i h (inr (inr q)) = same_word (6 * (i / 6) + 3) i (frees (i / 6) (omega arith)) (omega arith) (omega arith)

  pub rows_unique : (s : ℕ) (g : List ℕ) → length ws ≡ 6 * s → length us ≡ 6 * s
      → ((k : ℕ) → k < s → RowHeld s g ws k) → ((k : ℕ) → k < s → RowHeld s g us k) → ws ≡ us
  rows_unique s g = held_unique s 1 (λ k. k * s) g

  pub columns_unique : (s : ℕ) (g : List ℕ) → length ws ≡ 6 * s → length us ≡ 6 * s
      → ((k : ℕ) → k < s → ColumnHeld s g ws k) → ((k : ℕ) → k < s → ColumnHeld s g us k) → ws ≡ us
  columns_unique s g = held_unique s s (λ k. k) g
