-- Texts as bytes, what it is to write one into lent memory, and the words that go with a label.
-- Assumes nothing.
use Rattle.std.specs.Prelude.{ℕ, ◌+◌, ◌/◌, ◌%◌, Bool, cond, ◌&&◌, List, [], ◌∷◌, ◌++◌, ◌≡◌, leb, ltb, eqb, length, get_or, take, drop}
use Prim.Native.Char.{code}
use Prim.Native.String.{String, len, char_at}
use Rattle.standard.specs.Numbers.{tabulate, join}

-- the bytes of a text in ASCII
abbrev pub bytes : String → List ℕ
bytes s = tabulate (len s) (λ (i : ℕ). code (char_at s i))

-- words from place at on, and all else as it was
abbrev pub over : ℕ → List ℕ → List ℕ → List ℕ
over at words old = take at old ++ (words ++ drop (at + length words) old)

-- words are written from place at on, and r is the place after them
pub record Said (old : List ℕ) (at : ℕ) (words new : List ℕ) (r : ℕ) : Type 0 where
  pub whole : new ≡ over at words old
  pub size : length new ≡ length old
  pub end : r ≡ at + length words

-- ---- the line under a picture

-- a number below 1,000 in decimal
abbrev pub decimal : ℕ → List ℕ
decimal n =
    cond (ltb n 10) ((48 + n) ∷ [])
    (cond (ltb n 100) ((48 + n / 10) ∷ (48 + n % 10) ∷ []) ((48 + n / 100) ∷ (48 + n / 10 % 10) ∷ (48 + n % 10) ∷ []))

-- L, M, Q, H
abbrev pub letter : ℕ → ℕ
letter l = cond (eqb l 0) 76 (cond (eqb l 1) 77 (cond (eqb l 2) 81 72))

abbrev pub caption : ℕ → ℕ → ℕ → List ℕ
caption v l m =
    bytes "version " ++ (decimal v ++ (bytes ", level " ++ ((letter l ∷ []) ++ (bytes ", mask " ++ (decimal m ++ bytes "\n")))))

-- ---- bytes that a terminal can show

abbrev pub printable : ℕ → Bool
printable c = leb 32 c && leb c 126

-- a digit in base 16
abbrev pub hex_digit : ℕ → ℕ
hex_digit n = cond (ltb n 10) (48 + n) (87 + n)

-- \xNN
abbrev pub hexed : ℕ → List ℕ
hexed c = 92 ∷ 120 ∷ hex_digit (c / 16) ∷ hex_digit (c % 16) ∷ []

-- a printable byte but the backslash is itself
abbrev pub escaped_byte : ℕ → List ℕ
escaped_byte c = cond (ltb c 32) (hexed c) (cond (ltb 126 c) (hexed c) (cond (eqb c 92) (hexed c) (c ∷ [])))

-- the first n bytes of a text, escaped
abbrev pub escaped_to : List ℕ → ℕ → List ℕ
escaped_to t n = join (tabulate n (λ (i : ℕ). escaped_byte (get_or t i 0)))

abbrev pub escaped : List ℕ → List ℕ
escaped t = escaped_to t (length t)
