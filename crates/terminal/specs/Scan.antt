-- Modules from what shows them: a picture in a terminal, or rows of 0 and 1.
-- Assumes nothing.
use Rattle.std.specs.Prelude.{ℕ, ◌+◌, ◌-◌, ◌*◌, ◌/◌, ◌%◌, ◌≤◌, ◌<◌, Bool, cond, not, ◌||◌, Option, Some, None, List, ◌++◌, ◌≡◌, ltb, eqb, length, get_or}
use Rattle.standard.specs.Numbers.{one, tabulate, least, keep, place}
use Rattle.terminal.specs.Picture.{picture}

-- ---- a picture

-- the last byte of a character of a picture, and no other byte of one
abbrev pub is_half : ℕ → Bool
is_half b = eqb b 32 || (eqb b 128 || (eqb b 132 || eqb b 136))

abbrev pub halves : List ℕ → List ℕ
halves t = keep is_half t

-- the upper and the lower module of a character
abbrev pub upper : ℕ → ℕ
upper h = one (eqb h 128 || eqb h 136)

abbrev pub lower : ℕ → ℕ
lower h = one (eqb h 132 || eqb h 136)

-- module k of a grid, from the last bytes hs of its picture's characters
abbrev pub module_of : ℕ → List ℕ → ℕ → ℕ
module_of side hs k =
    cond (eqb ((k / side + 4) % 2) 0) (upper (get_or hs ((k / side + 4) / 2 * (side + 8) + (k % side + 4)) 0))
    (lower (get_or hs ((k / side + 4) / 2 * (side + 8) + (k % side + 4)) 0))

-- the first line has 13 bytes beside its characters, and a border of four on both sides
abbrev pub side_of : List ℕ → ℕ
side_of t = place 10 t - 21

-- the side, where that line is not too short
abbrev pub side_in : List ℕ → Option ℕ
side_in t = cond (ltb 0 (side_of t)) (Some (side_of t)) None

-- a square of light and dark modules that has a picture
pub record Drawable (side : ℕ) (g : List ℕ) : Type 0 where
  pub some : 0 < side
  pub small : side ≤ 177
  pub size : length g ≡ side * side
  pub modules : (i : ℕ) → get_or g i 0 < 2

-- what a text begins with: the picture of a grid, which ends at a place, or no picture, and place 0
pub data Begins (t : List ℕ) (side end : ℕ) (g : List ℕ) : Type 0 where
  drawn : (rest : List ℕ) → Drawable side g → t ≡ picture side g ++ rest → end ≡ length (picture side g) → Begins t side end g
  none : end ≡ 0 → ((s : ℕ) (h rest : List ℕ) → Drawable s h → t ≡ picture s h ++ rest → ⊥) → Begins t side end g

-- ---- rows of 0 and 1

abbrev pub digit : ℕ → ℕ
digit c = cond (eqb c 48) 0 (cond (eqb c 49) 1 2)

-- module k of a grid whose rows stand one a line
abbrev pub row_module : ℕ → List ℕ → ℕ → ℕ
row_module side t k = digit (get_or t (k + k / side) 0)

-- the grid of a side as rows of 0 and 1, a newline after each
abbrev pub rows : ℕ → List ℕ → List ℕ
rows side g = tabulate (side * (side + 1)) (λ (p : ℕ). cond (eqb (p % (side + 1)) side) 10 (48 + get_or g (p / (side + 1) * side + p % (side + 1)) 0))

-- a newline stands where a row ends, and nowhere else
abbrev pub even : ℕ → List ℕ → ℕ → Bool
even side t p = cond (eqb (p % (side + 1)) side) (eqb (get_or t p 0) 10) (not (eqb (get_or t p 0) 10))

-- the first place at which that fails; the length where it fails at none
unfoldable pub uneven : ℕ → List ℕ → ℕ
uneven side t = least 0 (length t) (λ (p : ℕ). not (even side t p))

-- that place, where there is one
abbrev pub uneven_in : ℕ → List ℕ → Option ℕ
uneven_in side t = cond (ltb (uneven side t) (length t)) (Some (uneven side t)) None
