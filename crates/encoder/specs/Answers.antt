-- Document 01's number and details of each refusal, and the answers of the code as answers of the definition.
-- Assumes nothing.
use Rattle.std.specs.Prelude.{Result, Ok, Err}
use Rattle.standard.specs.Plan.{Refusal as Told, refusal, Plan as Planned, unplanned, planned}
use Rattle.standard.specs.Encode.{Answer, refused, accepted}
use Rattle.types.specs.Numbers.{level_of}
use Rattle.encoder.specs.declared.Refusal.{Refusal}
use Rattle.encoder.specs.declared.Refusal.TheVariants.{Level, Versions, MaskNumber, Records, Record, SegmentTooLong, DataOverCapacity, GridShort, ScratchShort, DataLength}
use Rattle.encoder.specs.declared.Label.{Label}
use Rattle.encoder.specs.declared.plan.Plan.{Plan}

abbrev pub number_of : Refusal → Told
number_of (Level l) = refusal 1 l 0
number_of (Versions a b) = refusal 2 a b
number_of (MaskNumber m) = refusal 3 m 0
number_of (Records n) = refusal 4 n 0
number_of (Record i) = refusal 5 i 0
number_of SegmentTooLong = refusal 6 0 0
number_of (DataOverCapacity n c) = refusal 7 n c
number_of (GridShort n) = refusal 8 n 0
number_of (ScratchShort n) = refusal 9 n 0
number_of (DataLength n) = refusal 10 n 0

abbrev pub plan_of : Result Plan Refusal → Planned
plan_of (Ok p) = planned p.version.value (level_of p.level) p.bits
plan_of (Err e) = unplanned (number_of e)

abbrev pub answer_of : Result Label Refusal → Answer
answer_of (Ok a) = accepted a.version.value (level_of a.level) a.mask.value
answer_of (Err e) = refused (number_of e)
