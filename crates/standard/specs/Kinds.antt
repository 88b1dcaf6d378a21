-- The kinds of segment, 0 Numeric, 1 Alphanumeric, 2 Byte, 3 ECI, and what depends on the kind.
-- Document 01, "What the label covers" and "From text to codewords". Assumes nothing.
use Rattle.std.specs.Prelude.{ℕ, zero, suc, ◌+◌, ◌-◌, ◌*◌, Bool, false, cond, ◌&&◌, List, [], ◌∷◌, ◌++◌, leb, ltb}
use Rattle.standard.specs.Numbers.{place}
use Rattle.standard.specs.Bits.{bits}

-- one of four by the kind
abbrev pub by_kind : {A : Type 0} → ℕ → A → A → A → A → A
by_kind zero n a b e = n
by_kind (suc zero) n a b e = a
by_kind (suc (suc zero)) n a b e = b
by_kind (suc (suc (suc k))) n a b e = e

abbrev pub mode_bits : ℕ → ℕ
mode_bits k = by_kind k 1 2 4 7

-- by version: 1 to 9, 10 to 26, 27 to 40
abbrev pub by_version : ℕ → ℕ → ℕ → ℕ → ℕ
by_version v small middle large = cond (ltb v 10) small (cond (ltb v 27) middle large)

abbrev pub count_width : ℕ → ℕ → ℕ
count_width v k = by_kind k (by_version v 10 12 14) (by_version v 9 11 13) (by_version v 8 16 16) 0

-- ---- characters

-- "0123456789ABCDEFGHIJKLMNOPQRSTUVWXYZ $%*+-./:"
unfoldable pub alphabet : List ℕ
alphabet =
    48 ∷ 49 ∷ 50 ∷ 51 ∷ 52 ∷ 53 ∷ 54 ∷ 55 ∷ 56 ∷ 57
    ∷ 65 ∷ 66 ∷ 67 ∷ 68 ∷ 69 ∷ 70 ∷ 71 ∷ 72 ∷ 73 ∷ 74 ∷ 75 ∷ 76 ∷ 77
    ∷ 78 ∷ 79 ∷ 80 ∷ 81 ∷ 82 ∷ 83 ∷ 84 ∷ 85 ∷ 86 ∷ 87 ∷ 88 ∷ 89 ∷ 90
    ∷ 32 ∷ 36 ∷ 37 ∷ 42 ∷ 43 ∷ 45 ∷ 46 ∷ 47 ∷ 58 ∷ []

-- a character's code is its position
unfoldable pub code : ℕ → ℕ
code c = place c alphabet

abbrev pub digit : ℕ → ℕ
digit c = c - 48

unfoldable pub is_digit : ℕ → Bool
is_digit c = leb 48 c && leb c 57

unfoldable pub is_alphanumeric : ℕ → Bool
is_alphanumeric c = ltb (code c) 45

-- c is no character foreign to kind k; an ECI segment has none
unfoldable pub allowed : ℕ → ℕ → Bool
allowed k c = by_kind k (is_digit c) (is_alphanumeric c) (ltb c 256) false

-- ---- bits of characters, and of an ECI number

unfoldable pub digit_bits : List ℕ → List ℕ
digit_bits [] = []
digit_bits (a ∷ []) = bits 4 (digit a)
digit_bits (a ∷ b ∷ []) = bits 7 (10 * digit a + digit b)
digit_bits (a ∷ b ∷ c ∷ r) = bits 10 (100 * digit a + 10 * digit b + digit c) ++ digit_bits r

unfoldable pub pair_number : ℕ → ℕ → ℕ
pair_number a b = 45 * code a + code b

unfoldable pub pair_bits : List ℕ → List ℕ
pair_bits [] = []
pair_bits (a ∷ []) = bits 6 (code a)
pair_bits (a ∷ b ∷ r) = bits 11 (pair_number a b) ++ pair_bits r

unfoldable pub byte_bits : List ℕ → List ℕ
byte_bits [] = []
byte_bits (a ∷ r) = bits 8 a ++ byte_bits r

unfoldable pub eci_bits : ℕ → List ℕ
eci_bits n = cond (ltb n 128) (bits 8 n) (cond (ltb n 16_384) (1 ∷ 0 ∷ bits 14 n) (1 ∷ 1 ∷ 0 ∷ bits 21 n))
