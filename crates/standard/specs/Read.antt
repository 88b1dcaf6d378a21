-- The reading entry: for every input the answer, and what the lent text, records and scratch hold at the return.
-- In words: refusals 11, 12, 13 and 9 are tried first (`first_refusal`). Where none applies, a grid that shows a label (`Shows`, the
-- definition's drawing) is answered by that label, or by 15 or 16 where it has no room (`labelled`); any other grid by 14.
-- This is a relation and not a function, so that it names no way of finding the label; that a grid shows one label at most is
-- proved (`no_two_labels`, crate `reader`).
-- Document 01, "Refusal table". Assumes nothing.
use Rattle.std.specs.Prelude.{ℕ, ◌+◌, ◌*◌, cond, not, List, [], ◌∷◌, ◌++◌, map, ◌≡◌, ltb, eqb, length, get_or, drop}
use Rattle.standard.specs.Numbers.{least, join}
use Rattle.standard.specs.Segments.{Part, Segment}
use Rattle.standard.specs.Plan.{Refusal, refusal}
use Rattle.standard.specs.Encode.{zeroed}
use Rattle.standard.specs.Module.{valid_side}
use Rattle.standard.specs.Label.{Label, Shows}

pub data Reading : Type 0 where
  unread : Refusal → Reading
  -- version, level, mask, count of records and length of the text
  read_as : ℕ → ℕ → ℕ → ℕ → ℕ → Reading

-- the answer, and the lent memory at the return
pub record Read : Type 0 where
  pub answer : Reading
  pub text : List ℕ
  pub records : List Part
  pub scratch : List ℕ

-- ---- refusals 11, 12, 13 and 9

-- the place of the first byte above 1; the length where there is none
unfoldable pub first_above : List ℕ → ℕ
first_above g = least 0 (length g) (λ i. ltb 1 (get_or g i 0))

pub data First : Type 0 where
  nothing : First
  refused_by : Refusal → First

-- the first of them that applies: s is the side, and scratch has n bytes
unfoldable pub first_refusal : List ℕ → ℕ → ℕ → First
first_refusal g s n =
    cond (not (valid_side s)) (refused_by (refusal 11 s 0))
    (cond (not (eqb (length g) (s * s))) (refused_by (refusal 12 (s * s) 0))
    (cond (ltb (first_above g) (length g)) (refused_by (refusal 13 (first_above g) 0))
    (cond (ltb n 40_000) (refused_by (refusal 9 40_000 0)) nothing)))

-- a refusal leaves text and records as they were; z is what scratch holds at the return
abbrev pub refuse_to : Refusal → List ℕ → List Part → List ℕ → Read
refuse_to e text records z = record { answer = unread e; text = text; records = records; scratch = z }

-- ---- a label

-- the joined characters
abbrev pub characters : List Segment → List ℕ
characters ss = join (map (λ (s : Segment). s.chars) ss)

-- the record of a segment with t characters before it: starts run on, and an ECI record has start 0
abbrev pub record_of : ℕ → Segment → Part
record_of t s =
    record { kind = s.kind; start = cond (ltb s.kind 3) t 0; len = length s.chars; assign = s.assign }

abbrev pub records_from : ℕ → List Segment → List Part
records_from t [] = []
records_from t (s ∷ ss) = record_of t s ∷ records_from (t + length s.chars) ss

-- text and records are written from the start on, and the rest of them stays
unfoldable pub written : Label → List ℕ → List Part → List ℕ → Read
written a text records z =
    record {
      answer = read_as a.version a.level a.mask (length a.segments) (length (characters a.segments));
      text = characters a.segments ++ drop (length (characters a.segments)) text;
      records = records_from 0 a.segments ++ drop (length a.segments) records;
      scratch = z;
    }

-- refusals 15 and 16, and else the label
unfoldable pub labelled : Label → List ℕ → List Part → List ℕ → Read
labelled a text records z =
    let n = length (characters a.segments) in
    let count = length a.segments in
    cond (ltb (length text) n) (refuse_to (refusal 15 n 0) text records z)
    (cond (ltb (length records) count) (refuse_to (refusal 16 count 0) text records z) (written a text records z))

-- ---- the relation

-- what is returned for a grid that none of those refuses: the label that it shows, or refusal 14 where there is none; z is scratch at the return
pub data Finds (g text : List ℕ) (records : List Part) (z : List ℕ) (out : Read) : Type 0 where
  shown : (a : Label) → Shows g a → out ≡ labelled a text records z → Finds g text records z out
  none : ((a : Label) → Shows g a → ⊥) → out ≡ refuse_to (refusal 14 0 0) text records z → Finds g text records z out

-- a grid, a side, lent text, records and scratch, and what is returned: refusals 11, 12, 13 and 9 change nothing, all else zeroes scratch
pub data Reads (g : List ℕ) (s : ℕ) (text : List ℕ) (records : List Part) (scratch : List ℕ) (out : Read) : Type 0 where
  refuses : (e : Refusal) → first_refusal g s (length scratch) ≡ refused_by e → out ≡ refuse_to e text records scratch → Reads g s text records scratch out
  looks : first_refusal g s (length scratch) ≡ nothing → Finds g text records (zeroed scratch) out → Reads g s text records scratch out
