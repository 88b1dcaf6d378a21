-- The rows and the columns of a grid as lines: where line k begins, how far a module is from the next, and what holds of either way.
-- Assumes nothing.
use Rattle.std.specs.Prelude.{◌≡◌, refl, Bool, List, ℕ, ◌+◌, ◌*◌, ◌%◌, ◌^◌, ◌≤◌, ◌<◌, length, get_or}
use Rattle.std.proofs.Common.{ap, ap₂, ◌∙◌, subst, sym, arith}
use Rattle.std.proofs.Math.Bool.{true, false}
use Rattle.std.proofs.Math.Logic.{∥∥₁_elim}
use native.Mathlib.Bridge.{le_prop}
use native.Mathlib.Nat.{ℕ_set}
use Rattle.std.specs.Int.Bits.{bit_xor, bit_and}
use Rattle.standard.specs.Numbers.{tabulate}
use Rattle.standard.specs.Penalty.{row, column}
use Rattle.laws.specs.Grid.{paint}
use Rattle.modules.specs.Mask.{masked}
use Rattle.penalty.specs.Lines.{colours}
use Rattle.packed.specs.Digits.{value}
use Rattle.packed.specs.Words.{join3}
use Rattle.packed.specs.Frame.{frame}
use Rattle.packed.specs.Packs.{digit_of, digit_at}
use Rattle.packed.specs.Masks.{twelve, spread}
use Rattle.packed.specs.Masked.{row_masked, column_masked}
use Rattle.packed.specs.Stored.{put, rows_next, columns_next, Holds, HeldRows, HeldColumns, line_at, patched, row_kept, column_kept}
use Rattle.packed.specs.OneWord.{framed_lt, mask_low}
use Rattle.packed.specs.declared.way.Way.{Way}
use Rattle.packed.specs.declared.way.Way.TheVariants.{Rows, Columns}

abbrev pub start_of : Way → ℕ → ℕ → ℕ
start_of Rows s k = k * s
start_of Columns s k = k

abbrev pub step_of : Way → ℕ → ℕ
step_of Rows s = 1
step_of Columns s = s

-- which of the table's sixteen patterns has the lines of mask p
abbrev pub pattern_of : Way → ℕ → ℕ
pattern_of Rows p = p
pattern_of Columns p = 8 + p

abbrev pub words_of : Way → List ℕ → List ℕ → List ℕ
words_of Rows rows columns = rows
words_of Columns rows columns = columns

-- line k of a grid of colours
abbrev pub line : Way → ℕ → List ℕ → ℕ → List ℕ
line Rows s g k = row s g k
line Columns s g k = column s g k

-- the words of line k are those of the grid
abbrev pub LineHeld : Way → ℕ → List ℕ → List ℕ → ℕ → Type 0
LineHeld w s g ws k = Holds s (start_of w s k) (step_of w s) g ws k

-- ---- a mask on a line

module _ (s room p k : ℕ) (g : List ℕ) (fits : s + 8 ≤ room) (low : 9 ≤ s) (l : s ≤ 177) (hp : p < 8) (size : length g ≡ s * s) (here : k < s) where
  -- packed from the grid
  pub line_packed : (w : Way) (c f m r : ℕ) → r ≡ bit_xor c (bit_and f m) → m ≡ spread (twelve (pattern_of w p) k) % 2 ^ room
      → c ≡ value (frame (tabulate s (digit_at false g (start_of w s k) (step_of w s))))
      → f ≡ value (frame (tabulate s (digit_at true g (start_of w s k) (step_of w s))))
      → r ≡ value (frame (line w s (colours (paint s (masked p) g)) k))
  line_packed w c f m r e em ec ef =
      go w c f r ec ef (mask_low room c f m (spread (twelve (pattern_of w p) k)) r e em (subst (λ (n : ℕ). n < 2 ^ room) (sym ef) (framed_lt true g (start_of w s k) (step_of w s) s room fits)))
    where
      go : (w : Way) (c f r : ℕ) → c ≡ value (frame (tabulate s (digit_at false g (start_of w s k) (step_of w s))))
          → f ≡ value (frame (tabulate s (digit_at true g (start_of w s k) (step_of w s))))
          → r ≡ bit_xor c (bit_and f (spread (twelve (pattern_of w p) k))) → r ≡ value (frame (line w s (colours (paint s (masked p) g)) k))
      go Rows c f r ec ef e = row_masked s g size p k c f _ r ec ef refl e hp here l
      go Columns c f r ec ef e = column_masked s g size p k c f _ r ec ef refl e hp here l

  -- as it is kept, with another module 8
  pub line_kept : (rs cs : List ℕ) → ∥ HeldRows s g rs ∥₁ → ∥ HeldColumns s g cs ∥₁ → (w : Way) (c f m r b d c₀ f₀ : ℕ) → (k ≡ 8 → ⊥)
      → r ≡ bit_xor c (bit_and f m) → m ≡ spread (twelve (pattern_of w p) k) % 2 ^ room → f < 2 ^ room
      → c ≡ patched c₀ b → f ≡ patched f₀ d → c₀ ≡ line_at (words_of w rs cs) (6 * k) → f₀ ≡ line_at (words_of w rs cs) (6 * k + 3)
      → b ≡ digit_of false (get_or g (start_of w s k + 8 * step_of w s) 0) → d ≡ digit_of true (get_or g (start_of w s k + 8 * step_of w s) 0)
      → r ≡ value (frame (line w s (colours (paint s (masked p) g)) k))
  line_kept rs cs hr hc w c f m r b d c₀ f₀ ne e em hf ec ef oc of eb ed =
      go w c f r b d c₀ f₀ ec ef oc of eb ed (mask_low room c f m (spread (twelve (pattern_of w p) k)) r e em hf)
    where
      at : (t : _) (i j v : ℕ) → i ≡ j → v ≡ digit_of t (get_or g i 0) → v ≡ digit_of t (get_or g j 0)
      at t i j v q e = e ∙ ap (λ (n : ℕ). digit_of t (get_or g n 0)) q

      go : (w : Way) (c f r b d c₀ f₀ : ℕ) → c ≡ patched c₀ b → f ≡ patched f₀ d → c₀ ≡ line_at (words_of w rs cs) (6 * k)
          → f₀ ≡ line_at (words_of w rs cs) (6 * k + 3)
          → b ≡ digit_of false (get_or g (start_of w s k + 8 * step_of w s) 0) → d ≡ digit_of true (get_or g (start_of w s k + 8 * step_of w s) 0)
          → r ≡ bit_xor c (bit_and f (spread (twelve (pattern_of w p) k))) → r ≡ value (frame (line w s (colours (paint s (masked p) g)) k))
      go Rows c f r b d c₀ f₀ ec ef oc of eb ed e =
          ∥∥₁_elim hr (ℕ_set _ _)
          (λ h.
          row_kept s g rs p k c f _ r e l low here ne b d c₀ f₀ ec ef oc of (at false (k * s + 8 * 1) (k * s + 8) b (omega arith) eb)
          (at true (k * s + 8 * 1) (k * s + 8) d (omega arith) ed) refl h size hp)
      go Columns c f r b d c₀ f₀ ec ef oc of eb ed e =
          ∥∥₁_elim hc (ℕ_set _ _)
          (λ h.
          column_kept s g cs p k c f _ r e l low here ne b d c₀ f₀ ec ef oc of (at false (k + 8 * s) (8 * s + k) b (omega arith) eb)
          (at true (k + 8 * s) (8 * s + k) d (omega arith) ed) refl h size hp)

  -- the words of a line, and what they hold
  pub held_fits : (rs cs ws : List ℕ) → ∥ HeldRows s g rs ∥₁ → ∥ HeldColumns s g cs ∥₁ → (w : Way) → ws ≡ words_of w rs cs
      → (6 * k + 5 < length ws) × (line_at ws (6 * k) < 2 ^ room) × (line_at ws (6 * k + 3) < 2 ^ room)
  held_fits rs cs ws hr hc w e = subst (λ (us : List ℕ). (6 * k + 5 < length us) × (line_at us (6 * k) < 2 ^ room) × (line_at us (6 * k + 3) < 2 ^ room)) (sym e) (go w)
    where
      both : (h us : List ℕ) (start step : ℕ) → length us ≡ 6 * s → Holds s start step h us k
          → (6 * k + 5 < length us) × (line_at us (6 * k) < 2 ^ room) × (line_at us (6 * k + 3) < 2 ^ room)
      both h us start step e o = (
        omega arith,
        subst (λ (n : ℕ). n < 2 ^ room) (sym o.colour) (framed_lt false h start step s room fits),
        subst (λ (n : ℕ). n < 2 ^ room) (sym o.free) (framed_lt true h start step s room fits),
      )

      go : (w : Way) → (6 * k + 5 < length (words_of w rs cs)) × (line_at (words_of w rs cs) (6 * k) < 2 ^ room) × (line_at (words_of w rs cs) (6 * k + 3) < 2 ^ room)
      go Rows = ∥∥₁_elim hr (hlevel (le_prop, ℕ_set)) (λ h. both h.base rs (k * s) 1 h.size (h.lines k here))
      go Columns = ∥∥₁_elim hc (hlevel (le_prop, ℕ_set)) (λ h. both h.base cs k s h.size (h.lines k here))

-- ---- lines that are written, all up to line k

pub lines_next : (w : Way) (s k start step : ℕ) (g ws us vs : List ℕ) (a b c d e f : ℕ) → start ≡ start_of w s k → step ≡ step_of w s
    → us ≡ put ws (6 * k) a b c → vs ≡ put us (6 * k + 3) d e f → length ws ≡ 6 * s → k < s
    → join3 a b c ≡ value (frame (tabulate s (digit_at false g start step))) → join3 d e f ≡ value (frame (tabulate s (digit_at true g start step)))
    → ((j : ℕ) → j < k → LineHeld w s g ws j) → (j : ℕ) → j < k + 1 → LineHeld w s g vs j
lines_next w s k start step g ws us vs a b c d e f p q first second size here x y held =
    go w (x ∙ at false) (y ∙ at true) held
  where
    at : (t : Bool) → value (frame (tabulate s (digit_at t g start step))) ≡ value (frame (tabulate s (digit_at t g (start_of w s k) (step_of w s))))
    at t = ap₂ (λ (i j : ℕ). value (frame (tabulate s (digit_at t g i j)))) p q

    go : (w : Way) → join3 a b c ≡ value (frame (tabulate s (digit_at false g (start_of w s k) (step_of w s))))
        → join3 d e f ≡ value (frame (tabulate s (digit_at true g (start_of w s k) (step_of w s))))
        → ((j : ℕ) → j < k → LineHeld w s g ws j) → (j : ℕ) → j < k + 1 → LineHeld w s g vs j
    go Rows x y held = rows_next s k g ws us vs a b c d e f first second size here x y held
    go Columns x y held = columns_next s k g ws us vs a b c d e f first second size here x y held
