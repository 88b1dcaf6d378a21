-- Format words and where their bits stand, version words, and the centres of alignment patterns.
-- The numbers are those of qrcodegen 1.8.0: the words are read off what its `draw_format_bits` and `draw_version` draw on blank grids, the
-- place of a format bit is where the modules are that bit of all 32 words, and the centres are its `get_alignment_pattern_positions`.
-- Assumes nothing.
use Prim.Native.Nat.{ℕ, ◌*◌, ◌/◌, ◌%◌}
use mathlib.Core.List.{List, [], ◌∷◌, map}
use mathlib.Core.Path.{◌≡◌, refl}
use lib.Dec.{eqb}
use Rattle.standard.specs.Numbers.{from, tabulate, join, keep}
use Rattle.standard.specs.Patterns.{alignment}
use Rattle.standard.specs.Format.{format_word, version_word, format_place}
use Rattle.standard.proofs.Open.{opened}

-- a row for each level, and in it masks 0 to 7
pub format_words : tabulate 4 (λ l. tabulate 8 (format_word l))
    ≡ (30660 ∷ 29427 ∷ 32170 ∷ 30877 ∷ 26159 ∷ 25368 ∷ 27713 ∷ 26998 ∷ [])
    ∷ (21522 ∷ 20773 ∷ 24188 ∷ 23371 ∷ 17913 ∷ 16590 ∷ 20375 ∷ 19104 ∷ [])
    ∷ (13663 ∷ 12392 ∷ 16177 ∷ 14854 ∷ 9396 ∷ 8579 ∷ 11994 ∷ 11245 ∷ [])
    ∷ (5769 ∷ 5054 ∷ 7399 ∷ 6608 ∷ 1890 ∷ 597 ∷ 3340 ∷ 2107 ∷ [])
    ∷ []
unfolding opened
format_words = refl

-- versions 7 to 40
pub version_words : from 7 34 version_word
    ≡ 31892 ∷ 34236 ∷ 39577 ∷ 42195 ∷ 48118 ∷ 51042 ∷ 55367 ∷ 58893 ∷ 63784 ∷ 68472 ∷ 70749 ∷ 76311
    ∷ 79154 ∷ 84390 ∷ 87683 ∷ 92361 ∷ 96236 ∷ 102084 ∷ 102881 ∷ 110507 ∷ 110734 ∷ 117786 ∷ 119615 ∷ 126325
    ∷ 127568 ∷ 133589 ∷ 136944 ∷ 141498 ∷ 145311 ∷ 150283 ∷ 152622 ∷ 158308 ∷ 161089 ∷ 167017 ∷ []
unfolding opened
version_words = refl

-- versions 1 to 40
pub centres_of_all : from 1 40 alignment
    ≡ []
    ∷ (6 ∷ 18 ∷ [])
    ∷ (6 ∷ 22 ∷ [])
    ∷ (6 ∷ 26 ∷ [])
    ∷ (6 ∷ 30 ∷ [])
    ∷ (6 ∷ 34 ∷ [])
    ∷ (6 ∷ 22 ∷ 38 ∷ [])
    ∷ (6 ∷ 24 ∷ 42 ∷ [])
    ∷ (6 ∷ 26 ∷ 46 ∷ [])
    ∷ (6 ∷ 28 ∷ 50 ∷ [])
    ∷ (6 ∷ 30 ∷ 54 ∷ [])
    ∷ (6 ∷ 32 ∷ 58 ∷ [])
    ∷ (6 ∷ 34 ∷ 62 ∷ [])
    ∷ (6 ∷ 26 ∷ 46 ∷ 66 ∷ [])
    ∷ (6 ∷ 26 ∷ 48 ∷ 70 ∷ [])
    ∷ (6 ∷ 26 ∷ 50 ∷ 74 ∷ [])
    ∷ (6 ∷ 30 ∷ 54 ∷ 78 ∷ [])
    ∷ (6 ∷ 30 ∷ 56 ∷ 82 ∷ [])
    ∷ (6 ∷ 30 ∷ 58 ∷ 86 ∷ [])
    ∷ (6 ∷ 34 ∷ 62 ∷ 90 ∷ [])
    ∷ (6 ∷ 28 ∷ 50 ∷ 72 ∷ 94 ∷ [])
    ∷ (6 ∷ 26 ∷ 50 ∷ 74 ∷ 98 ∷ [])
    ∷ (6 ∷ 30 ∷ 54 ∷ 78 ∷ 102 ∷ [])
    ∷ (6 ∷ 28 ∷ 54 ∷ 80 ∷ 106 ∷ [])
    ∷ (6 ∷ 32 ∷ 58 ∷ 84 ∷ 110 ∷ [])
    ∷ (6 ∷ 30 ∷ 58 ∷ 86 ∷ 114 ∷ [])
    ∷ (6 ∷ 34 ∷ 62 ∷ 90 ∷ 118 ∷ [])
    ∷ (6 ∷ 26 ∷ 50 ∷ 74 ∷ 98 ∷ 122 ∷ [])
    ∷ (6 ∷ 30 ∷ 54 ∷ 78 ∷ 102 ∷ 126 ∷ [])
    ∷ (6 ∷ 26 ∷ 52 ∷ 78 ∷ 104 ∷ 130 ∷ [])
    ∷ (6 ∷ 30 ∷ 56 ∷ 82 ∷ 108 ∷ 134 ∷ [])
    ∷ (6 ∷ 34 ∷ 60 ∷ 86 ∷ 112 ∷ 138 ∷ [])
    ∷ (6 ∷ 30 ∷ 58 ∷ 86 ∷ 114 ∷ 142 ∷ [])
    ∷ (6 ∷ 34 ∷ 62 ∷ 90 ∷ 118 ∷ 146 ∷ [])
    ∷ (6 ∷ 30 ∷ 54 ∷ 78 ∷ 102 ∷ 126 ∷ 150 ∷ [])
    ∷ (6 ∷ 24 ∷ 50 ∷ 76 ∷ 102 ∷ 128 ∷ 154 ∷ [])
    ∷ (6 ∷ 28 ∷ 54 ∷ 80 ∷ 106 ∷ 132 ∷ 158 ∷ [])
    ∷ (6 ∷ 32 ∷ 58 ∷ 84 ∷ 110 ∷ 136 ∷ 162 ∷ [])
    ∷ (6 ∷ 26 ∷ 54 ∷ 82 ∷ 110 ∷ 138 ∷ 166 ∷ [])
    ∷ (6 ∷ 30 ∷ 58 ∷ 86 ∷ 114 ∷ 142 ∷ 170 ∷ [])
    ∷ []
unfolding opened
centres_of_all = refl

-- column and row of each place of a grid of side s at which bit b of the format word stands, row by row
pub places_of : ℕ → ℕ → List ℕ
places_of s b = join (map (λ i. i % s ∷ i / s ∷ []) (keep (λ i. eqb (format_place s (i % s) (i / s)) b) (tabulate (s * s) (λ i. i))))

-- at version 1, bits 0 to 14: two copies; and the dark module
pub format_places : tabulate 16 (places_of 21)
    ≡ (8 ∷ 0 ∷ 20 ∷ 8 ∷ [])
    ∷ (8 ∷ 1 ∷ 19 ∷ 8 ∷ [])
    ∷ (8 ∷ 2 ∷ 18 ∷ 8 ∷ [])
    ∷ (8 ∷ 3 ∷ 17 ∷ 8 ∷ [])
    ∷ (8 ∷ 4 ∷ 16 ∷ 8 ∷ [])
    ∷ (8 ∷ 5 ∷ 15 ∷ 8 ∷ [])
    ∷ (8 ∷ 7 ∷ 14 ∷ 8 ∷ [])
    ∷ (8 ∷ 8 ∷ 13 ∷ 8 ∷ [])
    ∷ (7 ∷ 8 ∷ 8 ∷ 14 ∷ [])
    ∷ (5 ∷ 8 ∷ 8 ∷ 15 ∷ [])
    ∷ (4 ∷ 8 ∷ 8 ∷ 16 ∷ [])
    ∷ (3 ∷ 8 ∷ 8 ∷ 17 ∷ [])
    ∷ (2 ∷ 8 ∷ 8 ∷ 18 ∷ [])
    ∷ (1 ∷ 8 ∷ 8 ∷ 19 ∷ [])
    ∷ (0 ∷ 8 ∷ 8 ∷ 20 ∷ [])
    ∷ (8 ∷ 13 ∷ [])
    ∷ []
unfolding opened places_of
format_places = refl
