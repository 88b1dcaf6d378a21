-- Segments as bits and bytes, and the level that boost reaches, held to the original's numbers.
-- The numbers are those of qrcodegen 1.8.0: a copy of its source with one line more, which shows the version, the level, the bits used and
-- the data codewords at the place where `encode_segments_advanced` hands them on; modes, widths and codes by its own functions and its string.
-- Assumes nothing.
use Prim.Native.Nat.{ℕ}
use mathlib.Core.Bool.{Bool, true, false}
use mathlib.Core.List.{List, [], ◌∷◌, map}
use mathlib.Core.Path.{◌≡◌, refl}
use lib.Dec.{T}
use lib.ListN.{replicate, take}
use Rattle.standard.specs.Numbers.{from, tabulate}
use Rattle.standard.specs.Kinds.{mode_bits, count_width, code}
use Rattle.standard.specs.Segments.{Segment, segments_of, text_parts, byte_parts, whole}
use Rattle.standard.specs.Codewords.{data_words}
use Rattle.standard.specs.Plan.{plan}
use Rattle.standard.proofs.Open.{opened}
use Rattle.standard.proofs.Table.{agree, numbers}

-- ---- modes, count widths and codes

-- of Numeric, Alphanumeric, Byte and ECI
pub modes : tabulate 4 mode_bits ≡ 1 ∷ 2 ∷ 4 ∷ 7 ∷ []
modes = refl

-- count widths of the four kinds at version v
pub widths_of : ℕ → List ℕ
widths_of v = tabulate 4 (count_width v)

-- at both ends of the three classes: versions 1, 9, 10, 26, 27, 40
pub widths : map widths_of (1 ∷ 9 ∷ 10 ∷ 26 ∷ 27 ∷ 40 ∷ [])
    ≡ (10 ∷ 9 ∷ 8 ∷ 0 ∷ [])
    ∷ (10 ∷ 9 ∷ 8 ∷ 0 ∷ [])
    ∷ (12 ∷ 11 ∷ 16 ∷ 0 ∷ [])
    ∷ (12 ∷ 11 ∷ 16 ∷ 0 ∷ [])
    ∷ (14 ∷ 13 ∷ 16 ∷ 0 ∷ [])
    ∷ (14 ∷ 13 ∷ 16 ∷ 0 ∷ [])
    ∷ []
unfolding widths_of
widths = refl

-- the place in the original's string of each character from ' ' to 'Z'; 45 where it stands at none
pub codes : from 32 59 code
    ≡ 36 ∷ 45 ∷ 45 ∷ 45 ∷ 37 ∷ 38 ∷ 45 ∷ 45 ∷ 45 ∷ 45 ∷ 39 ∷ 40 ∷ 45 ∷ 41 ∷ 42 ∷ 43
    ∷ 0 ∷ 1 ∷ 2 ∷ 3 ∷ 4 ∷ 5 ∷ 6 ∷ 7 ∷ 8 ∷ 9 ∷ 44 ∷ 45 ∷ 45 ∷ 45 ∷ 45 ∷ 45
    ∷ 45 ∷ 10 ∷ 11 ∷ 12 ∷ 13 ∷ 14 ∷ 15 ∷ 16 ∷ 17 ∷ 18 ∷ 19 ∷ 20 ∷ 21 ∷ 22
    ∷ 23 ∷ 24 ∷ 25 ∷ 26 ∷ 27 ∷ 28 ∷ 29 ∷ 30 ∷ 31 ∷ 32 ∷ 33 ∷ 34 ∷ 35 ∷ []
unfolding opened
codes = refl

-- ---- data codewords

-- the segments of the text entry and of the byte entry, and one ECI segment
text : List ℕ → List Segment
text t = segments_of t (text_parts t)

bytes : List ℕ → List Segment
bytes t = segments_of t (byte_parts t)

eci : ℕ → List Segment
eci n = record { kind = 3; chars = []; assign = n } ∷ []

-- ECI 26 and the byte 'A'
two : List Segment
two = record { kind = 3; chars = []; assign = 26 } ∷ record { kind = 2; chars = 65 ∷ []; assign = 0 } ∷ []

-- at 1-H, which has nine data codewords: a rest of one and of two digits, pairs and a single one, bytes, no segment,
-- and streams that leave 4 bits of room and 1 bit; last 41 digits at 1-L, which leave 1 bit
pub words_table : List (List ℕ × List ℕ)
words_table = (data_words 1 3 (text (49 ∷ [])), 16 ∷ 4 ∷ 64 ∷ 236 ∷ 17 ∷ 236 ∷ 17 ∷ 236 ∷ 17 ∷ [])
    ∷ (data_words 1 3 (text (49 ∷ 50 ∷ [])), 16 ∷ 8 ∷ 96 ∷ 0 ∷ 236 ∷ 17 ∷ 236 ∷ 17 ∷ 236 ∷ [])
    ∷ (data_words 1 3 (text (49 ∷ 50 ∷ 51 ∷ 52 ∷ [])), 16 ∷ 16 ∷ 123 ∷ 64 ∷ 236 ∷ 17 ∷ 236 ∷ 17 ∷ 236 ∷ [])
    ∷ (data_words 1 3 (text (65 ∷ 47 ∷ 58 ∷ [])), 32 ∷ 25 ∷ 237 ∷ 176 ∷ 0 ∷ 236 ∷ 17 ∷ 236 ∷ 17 ∷ [])
    ∷ (data_words 1 3 (text (65 ∷ 66 ∷ [])), 32 ∷ 17 ∷ 205 ∷ 0 ∷ 236 ∷ 17 ∷ 236 ∷ 17 ∷ 236 ∷ [])
    ∷ (data_words 1 3 (bytes (1 ∷ 2 ∷ [])), 64 ∷ 32 ∷ 16 ∷ 32 ∷ 236 ∷ 17 ∷ 236 ∷ 17 ∷ 236 ∷ [])
    ∷ (data_words 1 3 (text []), 0 ∷ 236 ∷ 17 ∷ 236 ∷ 17 ∷ 236 ∷ 17 ∷ 236 ∷ 17 ∷ [])
    ∷ (data_words 1 3 (text (65 ∷ 66 ∷ 67 ∷ 68 ∷ 69 ∷ 70 ∷ 71 ∷ 72 ∷ 73 ∷ 74 ∷ [])), 32 ∷ 81 ∷ 205 ∷ 69 ∷ 42 ∷ 21 ∷ 112 ∷ 179 ∷ 208 ∷ [])
    ∷ (data_words 1 3 (text (49 ∷ 50 ∷ 51 ∷ 52 ∷ 53 ∷ 54 ∷ 55 ∷ 56 ∷ 57 ∷ 48 ∷ 49 ∷ 50 ∷ 51 ∷ 52 ∷ 53 ∷ 54 ∷ 55 ∷ [])), 16 ∷ 68 ∷ 123 ∷ 114 ∷ 49 ∷ 80 ∷ 49 ∷ 89 ∷ 134 ∷ [])
    ∷ (data_words 1 0 (text (replicate 41 48)), 16 ∷ 164 ∷ replicate 17 0)
    ∷ []

pub words : T (agree words_table)
unfolding opened agree text bytes words_table
words = tt

-- ECI numbers at both ends of the three forms, and one before another segment
pub eci_table : List (List ℕ × List ℕ)
eci_table = (data_words 1 3 (eci 0), 112 ∷ 0 ∷ 236 ∷ 17 ∷ 236 ∷ 17 ∷ 236 ∷ 17 ∷ 236 ∷ [])
    ∷ (data_words 1 3 (eci 127), 119 ∷ 240 ∷ 236 ∷ 17 ∷ 236 ∷ 17 ∷ 236 ∷ 17 ∷ 236 ∷ [])
    ∷ (data_words 1 3 (eci 128), 120 ∷ 8 ∷ 0 ∷ 236 ∷ 17 ∷ 236 ∷ 17 ∷ 236 ∷ 17 ∷ [])
    ∷ (data_words 1 3 (eci 200), 120 ∷ 12 ∷ 128 ∷ 236 ∷ 17 ∷ 236 ∷ 17 ∷ 236 ∷ 17 ∷ [])
    ∷ (data_words 1 3 (eci 16_383), 123 ∷ 255 ∷ 240 ∷ 236 ∷ 17 ∷ 236 ∷ 17 ∷ 236 ∷ 17 ∷ [])
    ∷ (data_words 1 3 (eci 16_384), 124 ∷ 4 ∷ 0 ∷ 0 ∷ 236 ∷ 17 ∷ 236 ∷ 17 ∷ 236 ∷ [])
    ∷ (data_words 1 3 (eci 20_000), 124 ∷ 4 ∷ 226 ∷ 0 ∷ 236 ∷ 17 ∷ 236 ∷ 17 ∷ 236 ∷ [])
    ∷ (data_words 1 3 (eci 999_999), 124 ∷ 244 ∷ 35 ∷ 240 ∷ 236 ∷ 17 ∷ 236 ∷ 17 ∷ 236 ∷ [])
    ∷ (data_words 1 3 two, 113 ∷ 164 ∷ 1 ∷ 65 ∷ 0 ∷ 236 ∷ 17 ∷ 236 ∷ 17 ∷ [])
    ∷ []

pub ecis : T (agree eci_table)
unfolding opened agree eci two eci_table
ecis = tt

-- the first six data codewords at High
head : ℕ → List ℕ → List ℕ
head v t = take 6 (data_words v 3 (text t))

-- "7", "A" and "a" at versions 9, 10, 26 and 27, on both sides of the classes' borders
pub class_table : List (List ℕ × List ℕ)
class_table = (head 9 (55 ∷ []), 16 ∷ 5 ∷ 192 ∷ 236 ∷ 17 ∷ 236 ∷ [])
    ∷ (head 10 (55 ∷ []), 16 ∷ 1 ∷ 112 ∷ 236 ∷ 17 ∷ 236 ∷ [])
    ∷ (head 26 (55 ∷ []), 16 ∷ 1 ∷ 112 ∷ 236 ∷ 17 ∷ 236 ∷ [])
    ∷ (head 27 (55 ∷ []), 16 ∷ 0 ∷ 92 ∷ 0 ∷ 236 ∷ 17 ∷ [])
    ∷ (head 9 (65 ∷ []), 32 ∷ 9 ∷ 64 ∷ 236 ∷ 17 ∷ 236 ∷ [])
    ∷ (head 10 (65 ∷ []), 32 ∷ 2 ∷ 80 ∷ 0 ∷ 236 ∷ 17 ∷ [])
    ∷ (head 26 (65 ∷ []), 32 ∷ 2 ∷ 80 ∷ 0 ∷ 236 ∷ 17 ∷ [])
    ∷ (head 27 (65 ∷ []), 32 ∷ 0 ∷ 148 ∷ 0 ∷ 236 ∷ 17 ∷ [])
    ∷ (head 9 (97 ∷ []), 64 ∷ 22 ∷ 16 ∷ 236 ∷ 17 ∷ 236 ∷ [])
    ∷ (head 10 (97 ∷ []), 64 ∷ 0 ∷ 22 ∷ 16 ∷ 236 ∷ 17 ∷ [])
    ∷ (head 27 (97 ∷ []), 64 ∷ 0 ∷ 22 ∷ 16 ∷ 236 ∷ 17 ∷ [])
    ∷ []

pub classes : T (agree class_table)
unfolding opened agree text head class_table
classes = tt

-- ---- boost

-- n bytes planned from level l on in versions 1 to last
raised : ℕ → ℕ → ℕ → Bool → List ℕ
raised n l last boost = numbers (plan l 1 last 8 boost (replicate n 0) (whole 2 (replicate n 0)))

-- the most bytes that each level of version 1 holds, and one more; from Medium; at version 2; and without boost
pub boost_table : List (List ℕ × List ℕ)
boost_table = (raised 7 0 1 true, 0 ∷ 1 ∷ 3 ∷ 68 ∷ [])
    ∷ (raised 8 0 1 true, 0 ∷ 1 ∷ 2 ∷ 76 ∷ [])
    ∷ (raised 11 0 1 true, 0 ∷ 1 ∷ 2 ∷ 100 ∷ [])
    ∷ (raised 12 0 1 true, 0 ∷ 1 ∷ 1 ∷ 108 ∷ [])
    ∷ (raised 14 0 1 true, 0 ∷ 1 ∷ 1 ∷ 124 ∷ [])
    ∷ (raised 15 0 1 true, 0 ∷ 1 ∷ 0 ∷ 132 ∷ [])
    ∷ (raised 17 0 1 true, 0 ∷ 1 ∷ 0 ∷ 148 ∷ [])
    ∷ (raised 8 1 1 true, 0 ∷ 1 ∷ 2 ∷ 76 ∷ [])
    ∷ (raised 20 0 40 true, 0 ∷ 2 ∷ 2 ∷ 172 ∷ [])
    ∷ (raised 7 0 1 false, 0 ∷ 1 ∷ 0 ∷ 68 ∷ [])
    ∷ []

pub boosts : T (agree boost_table)
unfolding opened agree numbers raised boost_table
boosts = tt
