-- Segments: the records that a caller hands in, what they mean, and their bits.
-- Document 01, "What the label covers" and "From text to codewords". Assumes nothing.
use Rattle.std.specs.Prelude.{ℕ, suc, ◌+◌, ◌^◌, Bool, true, false, cond, ◌&&◌, List, [], ◌∷◌, ◌++◌, map, leb, ltb, eqb, length, take, drop}
use Rattle.standard.specs.Numbers.{every}
use Rattle.standard.specs.Bits.{bits}
use Rattle.standard.specs.Sizes.{capacity}
use Rattle.standard.specs.Kinds.{by_kind, mode_bits, count_width, is_digit, is_alphanumeric, allowed, digit_bits, pair_bits, byte_bits, eci_bits}

-- a segment record: it names the part of a lent text from start on
pub record Part : Type 0 where
  pub kind : ℕ
  pub start : ℕ
  pub len : ℕ
  pub assign : ℕ

-- what a record means: kind, characters and ECI number
pub record Segment : Type 0 where
  pub kind : ℕ
  pub chars : List ℕ
  pub assign : ℕ

abbrev pub segment_of : List ℕ → Part → Segment
segment_of text r = record { kind = r.kind; chars = take r.len (drop r.start text); assign = r.assign }

-- two lists of records mean the same when these are equal
abbrev pub segments_of : List ℕ → List Part → List Segment
segments_of text rs = map (segment_of text) rs

-- ---- records that are as they should be

unfoldable pub good_part : List ℕ → Part → Bool
good_part text r =
    cond (eqb r.kind 3)
    (eqb r.start 0 && (eqb r.len 0 && ltb r.assign 1_000_000))
    (ltb r.kind 3 && (eqb r.assign 0 && (leb (r.start + r.len) (length text) && every (allowed r.kind) (segment_of text r).chars)))

-- the place of the first record that is not; the count where all are
unfoldable pub first_bad : List ℕ → List Part → ℕ
first_bad text [] = 0
first_bad text (r ∷ rs) = elim (good_part text r) [ true ↦ suc (first_bad text rs) | false ↦ 0 ]

-- the same of what a record means
unfoldable pub good_segment : Segment → Bool
good_segment s =
    cond (eqb s.kind 3)
    (eqb (length s.chars) 0 && ltb s.assign 1_000_000)
    (ltb s.kind 3 && (eqb s.assign 0 && every (allowed s.kind) s.chars))

-- ---- bits: mode, count, characters or ECI number

unfoldable pub payload : Segment → List ℕ
payload s = by_kind s.kind (digit_bits s.chars) (pair_bits s.chars) (byte_bits s.chars) (eci_bits s.assign)

unfoldable pub segment_bits : ℕ → Segment → List ℕ
segment_bits v s = bits 4 (mode_bits s.kind) ++ bits (count_width v s.kind) (length s.chars) ++ payload s

unfoldable pub stream : ℕ → List Segment → List ℕ
stream v [] = []
stream v (s ∷ ss) = segment_bits v s ++ stream v ss

-- ---- fitting

unfoldable pub segment_size : ℕ → Segment → ℕ
segment_size v s = 4 + count_width v s.kind + length (payload s)

unfoldable pub total_bits : ℕ → List Segment → ℕ
total_bits v [] = 0
total_bits v (s ∷ ss) = segment_size v s + total_bits v ss

-- each length fits its count field (an ECI segment has none, and no characters)
unfoldable pub lengths_fit : ℕ → List Segment → Bool
lengths_fit v ss = every (λ s. ltb (length s.chars) (2 ^ count_width v s.kind)) ss

-- a list fits version v at level l
unfoldable pub fits : ℕ → List Segment → ℕ → Bool
fits l ss v = lengths_fit v ss && leb (total_bits v ss) (capacity v l)

-- ---- the text entry and the byte entry

abbrev pub whole : ℕ → List ℕ → List Part
whole k text = record { kind = k; start = 0; len = length text; assign = 0 } ∷ []

unfoldable pub text_kind : List ℕ → ℕ
text_kind text = cond (every is_digit text) 0 (cond (every is_alphanumeric text) 1 2)

unfoldable pub text_parts : List ℕ → List Part
text_parts [] = []
text_parts (c ∷ cs) = whole (text_kind (c ∷ cs)) (c ∷ cs)

unfoldable pub byte_parts : List ℕ → List Part
byte_parts text = whole 2 text
