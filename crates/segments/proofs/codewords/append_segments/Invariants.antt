-- `segments::codewords::append_segments` meets its contract: a turn appends the segment of one record.
-- Assumes nothing.
use Rattle.std.proofs.Common.{T}
use Rattle.standard.specs.Segments.{segments_of, stream, lengths_fit}
use Rattle.bits.specs.Appended.{Progress}
use Rattle.segments.specs.Records.{parts_of, rest_of}
use Rattle.segments.specs.Streams.{rest_bits}
use Rattle.segments.proofs.codewords.append_segments.Given as goal

abbrev pub invariant-loop-record : goal.invariant-loop-record
invariant-loop-record l =
    Progress l.initial.bb l.bb 0 l.at (stream l.ver.value (segments_of l.text (parts_of l.records))) (rest_bits l.ver.value l.text l.records l.record-index) × T (lengths_fit l.ver.value (segments_of l.text (rest_of l.records l.record-index)))
