-- Format and version: words with check bits, and the modules that show them. s is the side.
-- Document 01, "Modules". Assumes nothing.
use Rattle.std.specs.Prelude.{ℕ, zero, suc, ◌+◌, ◌-◌, ◌*◌, ◌/◌, ◌^◌, min, max, Bool, cond, ◌&&◌, ◌||◌, [], ◌∷◌, leb, ltb, eqb, get_or}
use Rattle.std.specs.Int.Bits.{bit_xor}
use Rattle.standard.specs.Numbers.{bit}
use Rattle.standard.specs.Sizes.{side}

-- ---- words

-- k steps of long division by g, which has w + 2 bits: what is left of r 2^k.
-- r is below 2^(w + 1) and stays so: r / 2^w is its highest bit, 0 or 1
unfoldable pub checked : ℕ → ℕ → ℕ → ℕ → ℕ
checked w g zero r = r
checked w g (suc k) r = checked w g k (bit_xor (2 * r) (r / 2 ^ w * g))

-- Low 1, Medium 0, Quartile 3, High 2
unfoldable pub level_bits : ℕ → ℕ
level_bits l = get_or (1 ∷ 0 ∷ 3 ∷ 2 ∷ []) l 0

-- five bits, level and mask, then ten check bits, and a fixed pattern over them
unfoldable pub format_word : ℕ → ℕ → ℕ
format_word l m =
    let d = 8 * level_bits l + m in
    bit_xor (1024 * d + checked 9 0x537 10 d) 0x5412

-- six bits, then twelve check bits
unfoldable pub version_word : ℕ → ℕ
version_word v = 4096 * v + checked 11 0x1F25 12 v

-- ---- format, in column 8 and row 8: two copies, and the dark module

-- which bit of the format word stands there: 0 to 14; 15 at the dark module; 16 where none does.
-- The thirty places of version 1 are listed by computation in proofs/Words.antt, `format_places`.
-- Column 8 from above: 0 to 5, the timing row, 6, 7; from below: 14 to 8, and the dark module
unfoldable pub format_in_column : ℕ → ℕ → ℕ
format_in_column s y =
    cond (ltb y 6) y
    (cond (eqb y 6) 16
    (cond (ltb y 9) (y - 1)
    (cond (ltb y (s - 8)) 16
    (cond (eqb y (s - 8)) 15 (y + 15 - s)))))

-- row 8 from the left: 14 to 9, the timing column, 8; from the right: 0 to 7. Its module in column 8 is the column's
unfoldable pub format_in_row : ℕ → ℕ → ℕ
format_in_row s x =
    cond (ltb x 6) (14 - x)
    (cond (eqb x 7) 8
    (cond (ltb x (s - 8)) 16 (s - 1 - x)))

unfoldable pub format_place : ℕ → ℕ → ℕ → ℕ
format_place s x y = cond (eqb x 8) (format_in_column s y) (cond (eqb y 8) (format_in_row s x) 16)

unfoldable pub on_format : ℕ → ℕ → ℕ → Bool
on_format s x y = ltb (format_place s x y) 16

-- bit 15, set, is the dark module
unfoldable pub format_colour : ℕ → ℕ → ℕ → ℕ → ℕ
format_colour s word x y = bit (2 ^ 15 + word) (format_place s x y)

-- ---- version, from 7: two blocks of six by three

-- (a, b) is in the block of three by six at the far end of axis a, beside the finder there
unfoldable pub in_version : ℕ → ℕ → ℕ → Bool
in_version s a b = ltb b 6 && (leb (s - 11) a && ltb a (s - 8))

unfoldable pub on_version : ℕ → ℕ → ℕ → Bool
on_version v x y = leb 7 v && (in_version (side v) x y || in_version (side v) y x)

-- bit 3 b + (a - (side - 11)): b is the lesser coordinate, below 6, and a the greater
unfoldable pub version_colour : ℕ → ℕ → ℕ → ℕ
version_colour v x y = bit (version_word v) (3 * min x y + (max x y + 11 - side v))
