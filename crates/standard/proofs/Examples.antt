-- The worked examples of document 01, "Sleeves tried on each side".
-- The starred ones stand beside what the definitions give in one table with one statement, `starred`; the others follow it.
-- Assumes nothing.
use Prim.Native.Nat.{ℕ, ◌-◌, min}
use mathlib.Core.Bool.{false}
use mathlib.Core.List.{List, [], ◌∷◌}
use mathlib.Core.Path.{◌≡◌, refl}
use lib.Dec.{T}
use lib.IntN.{pos, negsuc}
use lib.ListN.{replicate}
use Rattle.standard.specs.Numbers.{tabulate}
use Rattle.standard.specs.Sizes.{capacity, check_bytes, blocks}
use Rattle.standard.specs.Kinds.{code, pair_number}
use Rattle.standard.specs.Segments.{Part, segments_of, whole, text_parts, byte_parts, total_bits}
use Rattle.standard.specs.Codewords.{data_words}
use Rattle.standard.specs.Field.{divisor}
use Rattle.standard.specs.Blocks.{block_length}
use Rattle.standard.specs.Patterns.{alignment}
use Rattle.standard.specs.Format.{format_word, version_word}
use Rattle.standard.specs.Plan.{plan}
use Rattle.standard.specs.Module.{dark}
use Rattle.standard.proofs.Open.{opened}
use Rattle.standard.proofs.Table.{agree, numbers}

-- n characters c as one record of kind k, planned at level Low and with no boost
low : ℕ → ℕ → ℕ → ℕ → ℕ → List ℕ
unfolding numbers
low k n c first last = numbers (plan 0 first last 8 false (replicate n c) (whole k (replicate n c)))

-- how many bits the terminator has after n characters c
spare : ℕ → ℕ → ℕ → ℕ → ℕ
spare v k n c = min 4 (capacity v 0 - total_bits v (segments_of (replicate n c) (whole k (replicate n c))))

-- 154 empty Byte segments
empties : List Part
empties = replicate 154 (record { kind = 2; start = 0; len = 0; assign = 0 })

-- "01234567" and "AC-42"
digits : List ℕ
digits = 48 ∷ 49 ∷ 50 ∷ 51 ∷ 52 ∷ 53 ∷ 54 ∷ 55 ∷ []

ac42 : List ℕ
ac42 = 65 ∷ 67 ∷ 45 ∷ 52 ∷ 50 ∷ []

pub table : List (List ℕ × List ℕ)
table = (
  data_words 1 1 (segments_of digits (text_parts digits)),
  0x10 ∷ 0x20 ∷ 0x0C ∷ 0x56 ∷ 0x61 ∷ 0x80 ∷ 0xEC ∷ 0x11 ∷ 0xEC ∷ 0x11 ∷ 0xEC ∷ 0x11 ∷ 0xEC ∷ 0x11 ∷ 0xEC ∷ 0x11 ∷ [],
)
    ∷ (total_bits 1 (segments_of ac42 (whole 1 ac42)) ∷ pair_number 65 67 ∷ pair_number 45 52 ∷ code 50 ∷ [], 41 ∷ 462 ∷ 1849 ∷ 2 ∷ [])
    ∷ (low 0 41 48 1 1, 0 ∷ 1 ∷ 0 ∷ 151 ∷ [])
    ∷ (spare 1 0 41 48 ∷ [], 1 ∷ [])
    ∷ (low 0 42 48 1 1, 7 ∷ 154 ∷ 152 ∷ [])
    ∷ (low 2 17 0 1 1, 0 ∷ 1 ∷ 0 ∷ 148 ∷ [])
    ∷ (low 2 18 0 1 1, 7 ∷ 156 ∷ 152 ∷ [])
    ∷ (low 2 255 0 1 9, 7 ∷ 2052 ∷ 1856 ∷ [])
    ∷ (low 2 256 0 1 9, 6 ∷ 0 ∷ 0 ∷ [])
    ∷ (low 2 256 0 1 40, 0 ∷ 10 ∷ 0 ∷ 2068 ∷ [])
    ∷ (low 2 2953 0 1 40, 0 ∷ 40 ∷ 0 ∷ 23644 ∷ [])
    ∷ (low 2 2954 0 1 40, 7 ∷ 23652 ∷ 23648 ∷ [])
    ∷ (low 0 7089 48 40 40, 0 ∷ 40 ∷ 0 ∷ 23648 ∷ [])
    ∷ (spare 40 0 7089 48 ∷ [], 0 ∷ [])
    ∷ (numbers (plan 0 1 40 8 false [] empties), 0 ∷ 9 ∷ 0 ∷ 1848 ∷ [])
    ∷ (numbers (plan 0 10 10 8 false [] empties), 7 ∷ 3080 ∷ 2192 ∷ [])
    ∷ (divisor 1, 1 ∷ [])
    ∷ (divisor 2, 3 ∷ 2 ∷ [])
    ∷ (divisor 3, 7 ∷ 14 ∷ 8 ∷ [])
    ∷ (format_word 1 0 ∷ format_word 0 0 ∷ version_word 7 ∷ [], 0x5412 ∷ 0x77C4 ∷ 0x07C94 ∷ [])
    ∷ (alignment 2, 6 ∷ 18 ∷ [])
    ∷ (alignment 7, 6 ∷ 22 ∷ 38 ∷ [])
    ∷ (alignment 32, 6 ∷ 34 ∷ 60 ∷ 86 ∷ 112 ∷ 138 ∷ [])
    ∷ (tabulate (blocks 5 2) (block_length 5 2), 15 ∷ 15 ∷ 16 ∷ 16 ∷ [])
    ∷ (check_bytes 5 2 ∷ [], 18 ∷ [])
    ∷ []

pub starred : T (agree table)
unfolding opened numbers low spare empties digits ac42 table agree
starred = tt

-- empty text: no segment
pub empty_text : text_parts [] ≡ []
unfolding text_parts
empty_text = refl

-- empty bytes: one of length 0
pub empty_bytes : byte_parts [] ≡ record { kind = 2; start = 0; len = 0; assign = 0 } ∷ []
unfolding byte_parts
empty_bytes = refl

-- `get_module` at (-1, 0): light, in every grid of any side
pub outside : (s : ℕ) (g : List ℕ) → dark s g (negsuc 0) (pos 0) ≡ false
unfolding dark
outside s g = refl
