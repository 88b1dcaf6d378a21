-- The numbers and details that document 01 gives each answer of the code.
-- Assumes nothing.
use Rattle.std.specs.Prelude.{ℕ, ◌*◌, ◌≤◌, List, ◌≡◌, length, Result, Ok, Err}
use Rattle.standard.specs.Sizes.{side}
use Rattle.standard.specs.Segments.{Part}
use Rattle.standard.specs.Plan.{refusal, Refusal as Numbered}
use Rattle.types.specs.Numbers.{level_of}
use Rattle.types.specs.declared.Version.{Version}
use Rattle.reader.specs.declared.Label.{Label}
use Rattle.reader.specs.declared.Refusal.{Refusal}
use Rattle.reader.specs.declared.Refusal.TheVariants.{Side, Length, Byte, Scratch, NoLabel, Text, Records}
use Rattle.standard.specs.Read.{Reading, unread, read_as, Read, first_above, nothing, refused_by, first_refusal}

-- what the reader answers
abbrev pub Outcome : Type 0
Outcome = Result Label Refusal

abbrev pub refusal_of : Refusal → Numbered
refusal_of (Side s) = refusal 11 s 0
refusal_of (Length n) = refusal 12 n 0
refusal_of (Byte i) = refusal 13 i 0
refusal_of Scratch = refusal 9 40_000 0
refusal_of NoLabel = refusal 14 0 0
refusal_of (Text n) = refusal 15 n 0
refusal_of (Records n) = refusal 16 n 0

abbrev pub answer_of : Outcome → Reading
answer_of (Err e) = unread (refusal_of e)
answer_of (Ok a) = read_as a.version.value (level_of a.level) a.mask.value a.records a.text

-- the answer with the lent memory at the return
abbrev pub read_of : Outcome → List ℕ → List Part → List ℕ → Read
read_of r text records scratch = record { answer = answer_of r; text = text; records = records; scratch = scratch }

-- what the first checks say
abbrev pub Checks : List ℕ → ℕ → ℕ → Result Version Refusal → Type 0
Checks g s room (Err e) = first_refusal g s room ≡ refused_by (refusal_of e)
Checks g s room (Ok v) = (first_refusal g s room ≡ nothing) × (s ≡ side v.value) × (length g ≡ side v.value * side v.value) × (40_000 ≤ room) × (length g ≤ first_above g)
