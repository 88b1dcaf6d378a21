-- The refusals of the encoding entries: numbers, details and orders; and what an accepted call leaves in lent memory.
-- They are those of document 01, "Refusal table"; bits and capacities in 7, and the bits of what is accepted, are those of
-- `encode_segments_advanced` of qrcodegen 1.8.0.
-- Assumes nothing.
use Prim.Native.Nat.{ℕ}
use mathlib.Core.Bool.{true, false}
use mathlib.Core.List.{List, [], ◌∷◌, ◌++◌}
use mathlib.Core.Path.{◌≡◌, refl}
use lib.Dec.{T}
use lib.ListN.{replicate}
use Rattle.standard.specs.Segments.{Part}
use Rattle.standard.specs.Plan.{refusal, plan}
use Rattle.standard.specs.Encode.{accepted, refuse, accept, encode, encode_text, encode_bytes, encode_codewords}
use Rattle.standard.proofs.Open.{opened}
use Rattle.standard.proofs.Table.{agree, numbers}

-- a record by kind, start, length and assign
pub part : ℕ → ℕ → ℕ → ℕ → Part
part k start len n = record { kind = k; start = start; len = len; assign = n }

-- ---- the order of the list entry: each call mends the first fault of the one before it, and lent memory stays

-- level 4, versions 0 to 41, mask 9, 2,049 records, all bad
pub refusal_1 : (g s : List ℕ) → encode 4 0 41 9 true [] (replicate 2049 (part 4 0 0 0)) g s ≡ refuse (refusal 1 4 0) g s
unfolding opened part
refusal_1 g s = refl

pub refusal_2 : (g s : List ℕ) → encode 3 0 41 9 true [] (replicate 2049 (part 4 0 0 0)) g s ≡ refuse (refusal 2 0 41) g s
unfolding opened part
refusal_2 g s = refl

pub refusal_3 : (g s : List ℕ) → encode 3 1 40 9 true [] (replicate 2049 (part 4 0 0 0)) g s ≡ refuse (refusal 3 9 0) g s
unfolding opened part
refusal_3 g s = refl

pub refusal_4 : (g s : List ℕ) → encode 3 1 40 8 true [] (replicate 2049 (part 4 0 0 0)) g s ≡ refuse (refusal 4 2049 0) g s
unfolding opened part
refusal_4 g s = refl

-- a good record and two bad ones; that 2,048 are not too many is said by `borders`
pub refusal_5 : (g s : List ℕ) → encode 3 1 40 8 true [] (part 2 0 0 0 ∷ part 4 0 0 0 ∷ part 4 0 0 0 ∷ []) g s ≡ refuse (refusal 5 1 0) g s
unfolding opened part
refusal_5 g s = refl

-- 1,024 digits, and eight bytes, at 1-H: before the lent grid is looked at
pub refusal_6 : (g s : List ℕ) → encode_text 3 1 1 8 true (replicate 1024 48) g s ≡ refuse (refusal 6 0 0) g s
unfolding opened
refusal_6 g s = refl

pub refusal_7 : (g s : List ℕ) → encode_bytes 3 1 1 8 true (replicate 8 0) g s ≡ refuse (refusal 7 76 72) g s
unfolding opened
refusal_7 g s = refl

-- one module and one byte too few; that enough is accepted is said by `whole_label`
pub refusal_8 : (s : List ℕ) → encode_text 3 1 1 8 true [] (replicate 440 0) s ≡ refuse (refusal 8 441 0) (replicate 440 0) s
unfolding opened
refusal_8 s = refl

pub refusal_9 : encode_text 3 1 1 8 true [] (replicate 441 0) (replicate 39_999 0) ≡ refuse (refusal 9 40_000 0) (replicate 441 0) (replicate 39_999 0)
unfolding opened
refusal_9 = refl

-- the side in 8 is that of the chosen version: no segment at versions 40 to 40
pub side_in_8 : (s : List ℕ) → encode_text 0 40 40 8 true [] [] s ≡ refuse (refusal 8 31_329 0) [] s
unfolding opened
side_in_8 s = refl

-- ---- the order of the codewords entry

pub codewords_1 : (g s : List ℕ) → encode_codewords 4 0 9 [] g s ≡ refuse (refusal 1 4 0) g s
unfolding opened
codewords_1 g s = refl

-- the version stands as both bounds
pub codewords_2 : (g s : List ℕ) → encode_codewords 3 0 9 [] g s ≡ refuse (refusal 2 0 0) g s
unfolding opened
codewords_2 g s = refl

pub codewords_41 : (g s : List ℕ) → encode_codewords 3 41 9 [] g s ≡ refuse (refusal 2 41 41) g s
unfolding opened
codewords_41 g s = refl

pub codewords_3 : (g s : List ℕ) → encode_codewords 3 1 9 [] g s ≡ refuse (refusal 3 9 0) g s
unfolding opened
codewords_3 g s = refl

-- one data codeword too few, and one too many
pub codewords_10 : (g s : List ℕ) → encode_codewords 3 1 8 (replicate 8 0) g s ≡ refuse (refusal 10 9 0) g s
unfolding opened
codewords_10 g s = refl

pub codewords_long : (g s : List ℕ) → encode_codewords 3 1 8 (replicate 10 0) g s ≡ refuse (refusal 10 9 0) g s
unfolding opened
codewords_long g s = refl

pub codewords_8 : (s : List ℕ) → encode_codewords 3 1 8 (replicate 9 0) (replicate 440 0) s ≡ refuse (refusal 8 441 0) (replicate 440 0) s
unfolding opened
codewords_8 s = refl

pub codewords_9 : encode_codewords 3 1 8 (replicate 9 0) (replicate 441 0) [] ≡ refuse (refusal 9 40_000 0) (replicate 441 0) []
unfolding opened
codewords_9 = refl

-- ---- an accepted call

-- a drawn grid of version 1 stands before the two bytes that a grid of 443 has more
pub accepted_grid : (s : List ℕ) → (accept 1 2 3 (replicate 441 1) (replicate 443 5) s).grid ≡ replicate 441 1 ++ (5 ∷ 5 ∷ [])
accepted_grid s = refl

-- scratch of 40,001 bytes: all but the last are zero
pub accepted_scratch : (g : List ℕ) → (accept 1 2 3 [] g (replicate 40_001 7)).scratch ≡ replicate 40_000 0 ++ (7 ∷ [])
accepted_scratch g = refl

-- version, level and mask
pub accepted_answer : (g s : List ℕ) → (accept 1 2 3 [] g s).answer ≡ accepted 1 2 3
accepted_answer g s = refl

-- ---- where the refusals begin

-- levels, version bounds and masks; then 2,048 and 2,049 empty Byte records at version 40
pub border_table : List (List ℕ × List ℕ)
border_table = (numbers (plan 3 1 40 8 false [] []), 0 ∷ 1 ∷ 3 ∷ 0 ∷ [])
    ∷ (numbers (plan 4 1 40 8 false [] []), 1 ∷ 4 ∷ 0 ∷ [])
    ∷ (numbers (plan 0 1 1 8 false [] []), 0 ∷ 1 ∷ 0 ∷ 0 ∷ [])
    ∷ (numbers (plan 0 40 40 8 false [] []), 0 ∷ 40 ∷ 0 ∷ 0 ∷ [])
    ∷ (numbers (plan 0 0 40 8 false [] []), 2 ∷ 0 ∷ 40 ∷ [])
    ∷ (numbers (plan 0 1 41 8 false [] []), 2 ∷ 1 ∷ 41 ∷ [])
    ∷ (numbers (plan 0 5 4 8 false [] []), 2 ∷ 5 ∷ 4 ∷ [])
    ∷ (numbers (plan 0 1 40 7 false [] []), 0 ∷ 1 ∷ 0 ∷ 0 ∷ [])
    ∷ (numbers (plan 0 1 40 9 false [] []), 3 ∷ 9 ∷ 0 ∷ [])
    ∷ (numbers (plan 0 40 40 8 false [] (replicate 2048 (part 2 0 0 0))), 7 ∷ 40_960 ∷ 23_648 ∷ [])
    ∷ (numbers (plan 0 40 40 8 false [] (replicate 2049 (part 2 0 0 0))), 4 ∷ 2049 ∷ 0 ∷ [])
    ∷ []

pub borders : T (agree border_table)
unfolding opened agree numbers part border_table
borders = tt

-- ---- refusal 5

-- one record r between two good ones, over the text "12A" and a byte 255, at 1-L: what is told
pub between : Part → List ℕ
between r = numbers (plan 0 1 1 8 false (49 ∷ 50 ∷ 65 ∷ 255 ∷ []) (part 0 0 2 0 ∷ r ∷ part 2 3 1 0 ∷ []))

-- good: a part of each kind, an empty part at the end of the text, and the greatest ECI number; the bits are the original's
pub good_table : List (List ℕ × List ℕ)
good_table = (between (part 0 0 2 0), 0 ∷ 1 ∷ 0 ∷ 62 ∷ [])
    ∷ (between (part 1 0 3 0), 0 ∷ 1 ∷ 0 ∷ 71 ∷ [])
    ∷ (between (part 2 0 4 0), 0 ∷ 1 ∷ 0 ∷ 85 ∷ [])
    ∷ (between (part 2 4 0 0), 0 ∷ 1 ∷ 0 ∷ 53 ∷ [])
    ∷ (between (part 3 0 0 999_999), 0 ∷ 1 ∷ 0 ∷ 69 ∷ [])
    ∷ []

pub good_records : T (agree good_table)
unfolding opened agree numbers part between good_table
good_records = tt

-- bad: no such kind; a letter as a digit; a byte outside the 45; a part that ends past the text, or begins past it; an assign beside
-- characters; an ECI record with a start, with a length, with a number too great
pub bad_table : List (List ℕ × List ℕ)
bad_table = (between (part 4 0 0 0), 5 ∷ 1 ∷ 0 ∷ [])
    ∷ (between (part 0 1 2 0), 5 ∷ 1 ∷ 0 ∷ [])
    ∷ (between (part 1 2 2 0), 5 ∷ 1 ∷ 0 ∷ [])
    ∷ (between (part 2 2 3 0), 5 ∷ 1 ∷ 0 ∷ [])
    ∷ (between (part 2 5 0 0), 5 ∷ 1 ∷ 0 ∷ [])
    ∷ (between (part 2 0 1 1), 5 ∷ 1 ∷ 0 ∷ [])
    ∷ (between (part 3 1 0 5), 5 ∷ 1 ∷ 0 ∷ [])
    ∷ (between (part 3 0 1 5), 5 ∷ 1 ∷ 0 ∷ [])
    ∷ (between (part 3 0 0 1_000_000), 5 ∷ 1 ∷ 0 ∷ [])
    ∷ []

pub bad_records : T (agree bad_table)
unfolding opened agree numbers part between bad_table
bad_records = tt
