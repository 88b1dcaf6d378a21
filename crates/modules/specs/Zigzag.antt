-- A walk along the zigzag, that draws the codewords' bits or reads them: what is done before a turn of the loops, and the laws of a turn.
-- Assumes nothing.
use Rattle.std.specs.Prelude.{◌≡◌, refl, List, cond, ◌&&◌, ℕ, zero, suc, ◌+◌, ◌-◌, ◌*◌, ◌/◌, ◌%◌, ◌^◌, ◌≤◌, ◌<◌, length, get_or, set, ltb}
use Rattle.std.proofs.Common.{sym, ap, ap₂, ◌∙◌, arith, add-zero, add-suc, add_assoc, add-mul, zero-add, zero-mul, le_antisymm, add-one}
use Rattle.std.proofs.Math.Bool.{and-false}
use Rattle.std.proofs.Math.Nat.{div-div-eq-div-mul}
use Rattle.std.proofs.Math.Arith.{digits_div, digits_mod}
use borrow.Author.Tests.{lt-ltb, le-ltb}
use Rattle.std.specs.Borrow.{MutBor}
use Rattle.standard.specs.Path.{right, height, cell}

-- how many cells the path has
abbrev pub path_length : ℕ → ℕ
path_length side = (side - 1) / 2 * side * 2

pub path_count : (h side : ℕ) → side ≡ 2 * h + 1 → path_length side ≡ side * (side - 1)
path_count h side odd =
    let a : (side - 1) / 2 ≡ h = omega arith in
    let b : side - 1 ≡ 2 * h = omega arith in
    rw (a, b) (omega arith)

-- bit i of the codewords, the high bit of a byte first
unfoldable pub bit_of : List ℕ → ℕ → ℕ
bit_of cs i = get_or cs (i / 8) 0 / 2 ^ (7 - i % 8) % 2

-- ---- a grid, with the number of bits that are in it
pub data Laid : Type 0 where
  laid : List ℕ → ℕ → Laid

-- the cell at takes the next bit, if it is a data module and there is a bit left
unfoldable pub lay_at : List ℕ → ℕ → Laid → Laid
lay_at cs at (laid g i) = cond (ltb (get_or g at 0) 2 && ltb i (length cs * 8)) (laid (set g at (bit_of cs i)) (i + 1)) (laid g i)

-- n cells of the path, from its cell k on, each treated by f
unfoldable pub walk : ℕ → (ℕ → Laid → Laid) → ℕ → ℕ → Laid → Laid
walk side f k zero s = s
walk side f k (suc n) s = f (cell side (k + n)) (walk side f k n s)

-- the byte of the next bit takes the cell at as its low bit, if the cell is a data module and there is a bit left to read
unfoldable pub read_at : List ℕ → ℕ → Laid → Laid
read_at g at (laid o i) =
    cond (ltb (get_or g at 0) 2 && ltb i (length o * 8)) (laid (set o (i / 8) (get_or o (i / 8) 0 % 128 * 2 + get_or g at 0)) (i + 1)) (laid o i)

abbrev pub list_of : Laid → List ℕ
list_of (laid g i) = g

unfoldable pub used_of : Laid → ℕ
used_of (laid g i) = i

-- the grid with the codewords in it
abbrev pub drawn : ℕ → List ℕ → List ℕ → List ℕ
drawn side cs g = list_of (walk side (lay_at cs) 0 (path_length side) (laid g 0))

-- what is read into the bytes o
abbrev pub collected : ℕ → List ℕ → List ℕ → List ℕ
collected side g o = list_of (walk side (read_at g) 0 (path_length side) (laid o 0))

-- what a visit leaves and answers is what f makes of the bytes and the number of bits
abbrev pub Steps : (MutBor (List ℕ) → ℕ → ℕ → ℕ → MutBor (List ℕ) → Type 0) → (ℕ → Laid → Laid) → Type 0
Steps post f = (b : MutBor (List ℕ)) (at i r : ℕ) (c : MutBor (List ℕ)) → post b at i r c → laid c.now r ≡ f at (laid b.now i)

-- ---- laws

pub walk_add : (side : ℕ) (f : ℕ → Laid → Laid) (k m n : ℕ) (s : Laid) → walk side f k (m + n) s ≡ walk side f (k + m) n (walk side f k m s)
unfolding walk
walk_add side f k m zero s = simp add-zero
walk_add side f k m (suc n) s =
    simp add-suc (ap₂ (λ (q : ℕ) (t : Laid). f (cell side q) t) (sym (add_assoc k m n)) (walk_add side f k m n s))

pub walk_suc : (side : ℕ) (f : ℕ → Laid → Laid) (n : ℕ) (s : Laid) → walk side f 0 (suc n) s ≡ f (cell side n) (walk side f 0 n s)
unfolding walk
walk_suc side f n s = rw zero-add

-- the cells of row v of the pair p
pub cell_of : (side p v j : ℕ) → v < side → j < 2 → cell side ((p * side + v) * 2 + j) ≡ height side p v * side + (right side p - j)
unfolding cell
cell_of side p v j hv hj =
    rw (← div-div-eq-div-mul ((p * side + v) * 2 + j) 2 side)
    (simp (digits_div (p * side + v) hj, digits_mod (p * side + v) hj, digits_div p hv, digits_mod p hv))

pub walk_none : (side : ℕ) (f : ℕ → Laid → Laid) (k : ℕ) (s : Laid) → s ≡ walk side f k 0 s
unfolding walk
walk_none side f k s = refl

pub pair_none : (side : ℕ) (f : ℕ → Laid → Laid) (s : Laid) → s ≡ walk side f 0 (0 * side * 2) s
pair_none side f s = rw zero-mul (walk_none side f 0 s)

-- a loop that has made m turns
pub walk_end : (side : ℕ) (f : ℕ → Laid → Laid) (k n m : ℕ) (s t : Laid) → t ≡ walk side f k n s → n ≤ m → m ≤ n → t ≡ walk side f k m s
walk_end side f k n m s t e l h = rw (le_antisymm l h) at e

pub row_end : (side : ℕ) (f : ℕ → Laid → Laid) (k v : ℕ) (s t : Laid) → t ≡ walk side f k (v * 2) s → v ≤ side → side ≤ v → t ≡ walk side f k (side * 2) s
row_end side f k v s t e l h = rw (le_antisymm l h) at e

pub walk_done : (side : ℕ) (f : ℕ → Laid → Laid) (p i : ℕ) (g h : List ℕ) → laid h i ≡ walk side f 0 (p * side * 2) (laid g 0)
    → p ≤ (side - 1) / 2 → (side - 1) / 2 ≤ p → h ≡ list_of (walk side f 0 (path_length side) (laid g 0))
walk_done side f p i g h e l m = ap list_of (rw (le_antisymm l m) at e)

-- a turn of each of the three loops, over j, over v and over p
module _ (side : ℕ) (f : ℕ → Laid → Laid) (s t u : Laid) where
  pub cell_next : (p v j x y at : ℕ) → t ≡ walk side f ((p * side + v) * 2) j s → u ≡ f (at - j) t → at ≡ y * side + x
      → x ≡ right side p → 0 < x → y ≡ height side p v → v < side → j < 2 → u ≡ walk side f ((p * side + v) * 2) (j + 1) s
  unfolding walk
  cell_next p v j x y at e d is hx some hy hv hj =
      let place : at - j ≡ height side p v * side + (right side p - j) = rw (← hx, ← hy) (omega arith) in
      d ∙ rw add-one (ap₂ f (place ∙ sym (cell_of side p v j hv hj)) e)

  pub row_next : (p v : ℕ) → t ≡ walk side f (p * side * 2) (v * 2) s → u ≡ walk side f ((p * side + v) * 2) 2 t
      → u ≡ walk side f (p * side * 2) ((v + 1) * 2) s
  row_next p v e d =
      let more : (v + 1) * 2 ≡ v * 2 + 2 = omega arith in
      let from : p * side * 2 + v * 2 ≡ (p * side + v) * 2 = omega arith in
      d ∙ rw (more, walk_add, from, ← e)

  pub pair_next : (p : ℕ) → t ≡ walk side f 0 (p * side * 2) s → u ≡ walk side f (p * side * 2) (side * 2) t
      → u ≡ walk side f 0 ((p + 1) * side * 2) s
  pair_next p e d =
      let more : (p + 1) * side * 2 ≡ p * side * 2 + side * 2 = omega (arith, add-mul p 1 side) in
      d ∙ rw (more, walk_add, zero-add, ← e)

-- the three ways of one cell
module _ (cs g : List ℕ) (i at q : ℕ) where
  pub skip_function : at ≡ q → 2 ≤ get_or g at 0 → laid g i ≡ lay_at cs q (laid g i)
  unfolding lay_at
  skip_function e h = rw (← e, le-ltb _ _ h)

  pub skip_end : length cs * 8 ≤ i → laid g i ≡ lay_at cs q (laid g i)
  unfolding lay_at
  skip_end h = rw (le-ltb _ _ h, and-false)

  pub put : (w : ℕ) → at ≡ q → get_or g at 0 < 2 → i < length cs * 8 → w ≡ bit_of cs i → laid (set g at w) (i + 1) ≡ lay_at cs q (laid g i)
  unfolding lay_at
  put w e h l b = rw (← e, lt-ltb _ _ h, lt-ltb _ _ l, b)

module _ (g o : List ℕ) (i at q : ℕ) where
  pub read_function : at ≡ q → 2 ≤ get_or g at 0 → laid o i ≡ read_at g q (laid o i)
  unfolding read_at
  read_function e h = rw (← e, le-ltb _ _ h)

  pub read_end : length o * 8 ≤ i → laid o i ≡ read_at g q (laid o i)
  unfolding read_at
  read_end h = rw (le-ltb _ _ h, and-false)

  pub read_bit : at ≡ q → get_or g at 0 < 2 → i < length o * 8
      → laid (set o (i / 8) (get_or o (i / 8) 0 % 128 * 2 + get_or g at 0)) (i + 1) ≡ read_at g q (laid o i)
  unfolding read_at
  read_bit e h l = rw (← e, lt-ltb _ _ h, lt-ltb _ _ l)

-- the size as the code names it
pub drawn_at : (s t : ℕ) (cs g h : List ℕ) → h ≡ drawn s cs g → s ≡ t → h ≡ drawn t cs g
drawn_at s t cs g h e q = rw q at e
