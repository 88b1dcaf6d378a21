-- What the code's segments mean, in the definition's words.
-- Assumes nothing.
use Rattle.std.specs.Prelude.{[]}
use Rattle.standard.specs.Segments.{Segment}
use Rattle.types.specs.Numbers.{text_kind_of}
use Rattle.segments.specs.declared.records.Segment.{Segment as Named}
use Rattle.segments.specs.declared.records.Segment.TheVariants.{Text, Eci}
use Rattle.segments.specs.Payload.{segment}

abbrev pub meaning : Named → Segment
meaning (Text kind chars) = segment (text_kind_of kind) chars.now 0
meaning (Eci assign) = segment 3 [] assign
