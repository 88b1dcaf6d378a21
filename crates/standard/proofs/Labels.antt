-- What a label is and what the reader tells: the definition at small cases on both sides of each border.
-- Numbers, details and orders are those of document 01, "Refusal table"; that 7 bytes fill 1-H and 17 bytes 1-L is the original's.
-- Assumes nothing.
use Prim.Native.Nat.{ℕ, zero, suc}
use mathlib.Core.Bool.{true, false}
use mathlib.Core.List.{List, [], ◌∷◌, map}
use mathlib.Core.Path.{◌≡◌, refl, ap, sym, ◌∙◌}
use native.Mathlib.Omega.{arith}
use lib.ListN.{length, replicate}
use Rattle.standard.specs.Segments.{Part, Segment}
use Rattle.standard.specs.Plan.{Refusal, refusal}
use Rattle.standard.specs.Encode.{zeroed}
use Rattle.standard.specs.Label.{Label, is_label, Shows}
use Rattle.standard.specs.Read.{Read, read_as, First, nothing, refused_by, first_refusal, refuse_to, characters, records_from, labelled, shown, none, Reads, refuses, looks}
use Rattle.standard.proofs.Open.{opened}

-- ---- labels

pub segment : ℕ → List ℕ → ℕ → Segment
segment k cs n = record { kind = k; chars = cs; assign = n }

pub label : ℕ → ℕ → ℕ → List Segment → Label
label v l m ss = record { version = v; level = l; mask = m; segments = ss }

-- ECI 26, digits "12" and the byte 'a': two, four and three fields that are not 0
pub three : List Segment
three = segment 3 [] 26 ∷ segment 0 (49 ∷ 50 ∷ []) 0 ∷ segment 2 (97 ∷ []) 0 ∷ []

-- labels at both ends of version, level and mask, without a segment, and with as many bytes as there is room for
pub labels : map is_label (
    label 1 0 0 three
    ∷ label 40 3 7 three
    ∷ label 1 3 7 []
    ∷ label 1 3 0 (segment 2 (replicate 7 255) 0 ∷ [])
    ∷ label 1 0 0 (segment 2 (replicate 17 255) 0 ∷ [])
    ∷ []
    ) ≡ true ∷ true ∷ true ∷ true ∷ true ∷ []
unfolding opened segment label three
labels = refl

-- their neighbours are none: version 0 and 41, level 4, mask 8, one byte more
pub no_labels : map is_label (
    label 0 0 0 three
    ∷ label 41 3 7 three
    ∷ label 1 4 0 three
    ∷ label 1 0 8 three
    ∷ label 1 3 0 (segment 2 (replicate 8 255) 0 ∷ [])
    ∷ label 1 0 0 (segment 2 (replicate 18 255) 0 ∷ [])
    ∷ []
    ) ≡ false ∷ false ∷ false ∷ false ∷ false ∷ false ∷ []
unfolding opened segment label three
no_labels = refl

-- nor are lists with a segment that is not as it should be: a foreign character, a byte above 255, no such kind, an assign beside
-- characters, an ECI segment with characters, an ECI number too great; and 256 bytes at version 9, where the count field is too narrow
pub no_segments : map is_label (
    label 1 0 0 (segment 0 (65 ∷ []) 0 ∷ [])
    ∷ label 1 0 0 (segment 1 (97 ∷ []) 0 ∷ [])
    ∷ label 1 0 0 (segment 2 (256 ∷ []) 0 ∷ [])
    ∷ label 1 0 0 (segment 4 [] 0 ∷ [])
    ∷ label 1 0 0 (segment 2 (97 ∷ []) 1 ∷ [])
    ∷ label 1 0 0 (segment 3 (97 ∷ []) 1 ∷ [])
    ∷ label 1 0 0 (segment 3 [] 1_000_000 ∷ [])
    ∷ label 9 0 0 (segment 2 (replicate 256 0) 0 ∷ [])
    ∷ []
    ) ≡ false ∷ false ∷ false ∷ false ∷ false ∷ false ∷ false ∷ false ∷ []
unfolding opened segment label
no_segments = refl

-- ---- refusals 11, 12, 13 and 9, in this order

-- one of them as its number and details, or nothing
pub told : First → List ℕ
told nothing = []
told (refused_by e) = e.number ∷ e.first ∷ e.second ∷ []

-- sides that no version has; 21, 25 and 177 go on to 12
pub sides : map (λ s. told (first_refusal [] s 0)) (0 ∷ 17 ∷ 20 ∷ 22 ∷ 178 ∷ 181 ∷ 21 ∷ 25 ∷ 177 ∷ [])
    ≡ (11 ∷ 0 ∷ 0 ∷ [])
    ∷ (11 ∷ 17 ∷ 0 ∷ [])
    ∷ (11 ∷ 20 ∷ 0 ∷ [])
    ∷ (11 ∷ 22 ∷ 0 ∷ [])
    ∷ (11 ∷ 178 ∷ 0 ∷ [])
    ∷ (11 ∷ 181 ∷ 0 ∷ [])
    ∷ (12 ∷ 441 ∷ 0 ∷ [])
    ∷ (12 ∷ 625 ∷ 0 ∷ [])
    ∷ (12 ∷ 31_329 ∷ 0 ∷ [])
    ∷ []
unfolding opened told
sides = refl

-- a grid of n zeros, then 2, 1 and 7
pub spoilt : ℕ → List ℕ
spoilt zero = 2 ∷ 1 ∷ 7 ∷ []
spoilt (suc n) = 0 ∷ spoilt n

-- the length before the bytes, the bytes before scratch, and the first byte above 1; last a grid that none of them refuses
pub first_refusals : told (first_refusal (spoilt 437) 21 0)
    ∷ told (first_refusal (spoilt 439) 21 0)
    ∷ told (first_refusal (spoilt 438) 21 0)
    ∷ told (first_refusal (replicate 441 1) 21 39_999)
    ∷ told (first_refusal (replicate 441 1) 21 40_000)
    ∷ []
    ≡ (12 ∷ 441 ∷ 0 ∷ [])
    ∷ (12 ∷ 441 ∷ 0 ∷ [])
    ∷ (13 ∷ 438 ∷ 0 ∷ [])
    ∷ (9 ∷ 40_000 ∷ 0 ∷ [])
    ∷ []
    ∷ []
unfolding opened told spoilt
first_refusals = refl

-- ---- what a label tells

-- characters run on, and so do the starts; an ECI record has start 0
pub characters_of : characters three ≡ 49 ∷ 50 ∷ 97 ∷ []
unfolding segment three
characters_of = refl

pub records_of : records_from 0 (segment 2 (97 ∷ []) 0 ∷ three)
    ≡ record { kind = 2; start = 0; len = 1; assign = 0 }
    ∷ record { kind = 3; start = 0; len = 0; assign = 26 }
    ∷ record { kind = 0; start = 1; len = 2; assign = 0 }
    ∷ record { kind = 2; start = 3; len = 1; assign = 0 }
    ∷ []
unfolding segment three
records_of = refl

-- a record that stands in lent memory
pub old : Part
old = record { kind = 9; start = 8; len = 7; assign = 6 }

-- text and records with room for one more: version, level, mask, three records and three characters are told, and the rest stays
pub labelled_written : (z : List ℕ) → labelled (label 2 1 5 three) (7 ∷ 7 ∷ 7 ∷ 8 ∷ []) (replicate 4 old) z
    ≡ record {
      answer = read_as 2 1 5 3 3;
      text = 49 ∷ 50 ∷ 97 ∷ 8 ∷ [];
      records = record { kind = 3; start = 0; len = 0; assign = 26 }
          ∷ record { kind = 0; start = 0; len = 2; assign = 0 }
          ∷ record { kind = 2; start = 2; len = 1; assign = 0 }
          ∷ old
          ∷ [];
      scratch = z;
    }
unfolding opened segment label three old
labelled_written z = refl

-- no room for the last character, whatever the records; and no room for the last record
pub refusal_15 : (rs : List Part) (z : List ℕ) → labelled (label 2 1 5 three) (7 ∷ 7 ∷ []) rs z ≡ refuse_to (refusal 15 3 0) (7 ∷ 7 ∷ []) rs z
unfolding opened segment label three
refusal_15 rs z = refl

pub refusal_16 : (z : List ℕ) → labelled (label 2 1 5 three) (7 ∷ 7 ∷ 7 ∷ []) (old ∷ old ∷ []) z ≡ refuse_to (refusal 16 3 0) (7 ∷ 7 ∷ 7 ∷ []) (old ∷ old ∷ []) z
unfolding opened segment label three old
refusal_16 z = refl

-- ---- the relation

same_refusal : (d e : Refusal) → ◌≡◌ {A = First} (refused_by d) (refused_by e) → d ≡ e
same_refusal d e q = cc

not_both : (e : Refusal) → ◌≡◌ {A = First} (refused_by e) nothing → ⊥
not_both e q = let z : ◌≡◌ {A = ℕ} 0 1 = cc in omega arith

-- 11, 12, 13 and 9: all lent memory stays, scratch too
pub refused_first : (g : List ℕ) (s : ℕ) (text : List ℕ) (rs : List Part) (scratch : List ℕ) (out : Read) (e : Refusal) → first_refusal g s (length scratch) ≡ refused_by e
    → Reads g s text rs scratch out → out ≡ refuse_to e text rs scratch
refused_first g s text rs scratch out e is (refuses d also told-so) = told-so ∙ ap (λ (x : Refusal). refuse_to x text rs scratch) (same_refusal d e (sym also ∙ is))
refused_first g s text rs scratch out e is (looks fine found) = absurd (not_both e (sym is ∙ fine))

-- a grid that no label has: 14, with the first 40,000 bytes of scratch zero, and text and records as they were
pub refusal_14 : (g : List ℕ) (s : ℕ) (text : List ℕ) (rs : List Part) (scratch : List ℕ) (out : Read) → first_refusal g s (length scratch) ≡ nothing → ((a : Label) → Shows g a → ⊥)
    → Reads g s text rs scratch out → out ≡ refuse_to (refusal 14 0 0) text rs (zeroed scratch)
refusal_14 g s text rs scratch out fine unlike (refuses e is told-so) = absurd (not_both e (sym is ∙ fine))
refusal_14 g s text rs scratch out fine unlike (looks also (shown a shows told-so)) = absurd (unlike a shows)
refusal_14 g s text rs scratch out fine unlike (looks also (none no_label told-so)) = told-so
