-- Laws for the loops and the returns that make the picture.
-- Assumes nothing.
use Rattle.std.specs.Prelude.{ℕ, ◌+◌, ◌-◌, ◌*◌, ◌/◌, ◌≤◌, ◌<◌, List, ◌≡◌, refl, length, get_or}
use Rattle.std.proofs.Common.{ap, ap₂, ◌∙◌, arith, le-ltb}
use Rattle.std.proofs.lemmas.Bool.{lt-leb}
use Rattle.terminal.specs.Text.{bytes, Said}
use Rattle.terminal.specs.TextLaws.{said_as, said_none, said_then, said_next}
use Rattle.terminal.specs.Picture.{shown, glyph, characters, line, lines, picture}

-- ---- a module of the picture

module _ (side : ℕ) (g : List ℕ) (x y : ℕ) where
  pub shown_inside : 4 ≤ x → 4 ≤ y → x < side + 4 → y < side + 4 → get_or g ((y - 4) * side + (x - 4)) 0 ≡ shown side g x y
  shown_inside a b c d = rw (le-ltb x 4 a, le-ltb y 4 b, lt-leb (side + 4) x c, lt-leb (side + 4) y d)

-- ---- a line of characters

module _ (side : ℕ) (g : List ℕ) (y : ℕ) where
  pub line_start : (o : List ℕ) (at : ℕ) → Said o at (characters side g y 0) o at
  line_start o at = said_none o at

  pub line_next : (o h i : List ℕ) (at q r x u l : ℕ) (w : List ℕ) → Said h q w i r → Said o at (characters side g y x) h q → w ≡ glyph u l
      → u ≡ shown side g x y → l ≡ shown side g x (y + 1) → r ≤ length o → Said o at (characters side g y (x + 1)) i r
  line_next o h i at q r x u l w t s e a b f =
      said_next (λ (x : ℕ). glyph (shown side g x y) (shown side g x (y + 1))) x s (said_as t (e ∙ ap₂ glyph a b) refl) f

  pub line_end : (o h : List ℕ) (at q x : ℕ) → Said o at (characters side g y x) h q → x ≤ side + 8 → side + 8 ≤ x
      → Said o at (characters side g y (side + 8)) h q
  line_end o h at q x s a b = let e : x ≡ side + 8 = omega arith in said_as s (ap (characters side g y) e) refl

  pub line_said : (o a b c : List ℕ) (at p q r : ℕ) → Said b q (bytes "\u{1b}[0m\n") c r → Said a p (characters side g y (side + 8)) b q
      → Said o at (bytes "\u{1b}[30;107m") a p → r ≤ length o → Said o at (line side g y) c r
  line_said o a b c at p q r u t s h = said_then s (said_then t u (omega arith)) h

-- ---- the lines of a picture

module _ (side : ℕ) (g : List ℕ) where
  pub lines_start : (o : List ℕ) (at : ℕ) → Said o at (lines side g 0) o at
  lines_start o at = said_none o at

  pub lines_next : (o h i : List ℕ) (at q r n : ℕ) → Said h q (line side g (2 * n)) i r → Said o at (lines side g n) h q → r ≤ length o
      → Said o at (lines side g (n + 1)) i r
  lines_next o h i at q r n t s l = said_next (λ (j : ℕ). line side g (2 * j)) n s t l

  pub lines_end : (o h : List ℕ) (at q n : ℕ) → Said o at (lines side g n) h q → n ≤ (side + 9) / 2 → (side + 9) / 2 ≤ n → Said o at (picture side g) h q
  lines_end o h at q n s a b = let f : n ≡ (side + 9) / 2 = omega arith in said_as s (ap (lines side g) f) refl
