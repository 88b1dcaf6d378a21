-- Planning: the version and level that a list of records takes, or refusal 1 to 7.
-- Document 01, "Refusal table" and "From text to codewords". Assumes nothing.
use Rattle.std.specs.Prelude.{ℕ, suc, ◌-◌, Bool, cond, ◌&&◌, not, List, leb, ltb, length}
use Rattle.standard.specs.Numbers.{least, highest}
use Rattle.standard.specs.Sizes.{capacity}
use Rattle.standard.specs.Segments.{Part, Segment, segments_of, first_bad, total_bits, lengths_fit, fits}

-- a refusal: its number in the table, and two details; a detail that is not listed is 0
pub record Refusal : Type 0 where
  pub number : ℕ
  pub first : ℕ
  pub second : ℕ

abbrev pub refusal : ℕ → ℕ → ℕ → Refusal
refusal n a b = record { number = n; first = a; second = b }

pub data Plan : Type 0 where
  unplanned : Refusal → Plan
  -- version, level and total bits
  planned : ℕ → ℕ → ℕ → Plan

-- the lowest version of the range that fits; above last where none does
unfoldable pub lowest_fit : ℕ → ℕ → ℕ → List Segment → ℕ
lowest_fit l first last ss = least first (suc last - first) (fits l ss)

-- the highest level, not below l, whose capacity holds n bits
unfoldable pub boosted : ℕ → ℕ → ℕ → ℕ
boosted v l n = highest l (3 - l) (λ k. leb n (capacity v k))

-- no version of the range fits: the last version alone decides between 6 and 7
unfoldable pub too_long : ℕ → ℕ → List Segment → Refusal
too_long l last ss = cond (lengths_fit last ss) (refusal 7 (total_bits last ss) (capacity last l)) (refusal 6 0 0)

-- version v with its level
unfoldable pub levelled : ℕ → ℕ → Bool → List Segment → Plan
levelled v l boost ss =
    let n = total_bits v ss in
    planned v (cond boost (boosted v l n) l) n

unfoldable pub plan_fit : ℕ → ℕ → ℕ → Bool → List Segment → Plan
plan_fit l first last boost ss =
    let v = lowest_fit l first last ss in
    cond (ltb last v) (unplanned (too_long l last ss)) (levelled v l boost ss)

-- level, first and last version, mask (8: automatic), boost, lent text and records
unfoldable pub plan : ℕ → ℕ → ℕ → ℕ → Bool → List ℕ → List Part → Plan
plan l first last m boost text rs =
    cond (ltb 3 l) (unplanned (refusal 1 l 0))
    (cond (not (leb 1 first && (leb first last && leb last 40))) (unplanned (refusal 2 first last))
    (cond (ltb 8 m) (unplanned (refusal 3 m 0))
    (cond (ltb 2048 (length rs)) (unplanned (refusal 4 (length rs) 0))
    (cond (ltb (first_bad text rs) (length rs)) (unplanned (refusal 5 (first_bad text rs) 0))
    (plan_fit l first last boost (segments_of text rs))))))
