-- `segments::codewords::append_segments` meets its contract: a turn appends the segment of one record.
-- Assumes nothing.
use Rattle.std.proofs.Common.{[], get_or}
use Rattle.segments.specs.Meaning.{meaning}
use Rattle.segments.specs.Good.{named_good}
use Rattle.segments.specs.Records.{good_chunk}
use Rattle.segments.specs.Streams.{stream_free, stream_end, fit_here}
use Rattle.segments.proofs.codewords.append_segments.Goals as goal

pub append_segment-at-requires : goal.append_segment-at-requires
append_segment-at-requires c =
    let a = c.args in
    let cs = c.as_chunks.result.0.now in
    let ec = c.as_chunks.ensures.front in
    let i = c.loop-record.record-index in
    let near = c.loop-record-test.true in
    let s = meaning c.segment_of.result in (
      named_good a.text.now (get_or cs i []) (good_chunk a.records.now cs ec a.text.now i c.requires.0 near) s c.segment_of.ensures,
      fit_here a.ver.value a.text.now a.records.now cs ec i near s c.segment_of.ensures c.loop-record.invariant.1,
      stream_free a.ver.value a.text.now a.records.now cs ec i near s c.segment_of.ensures a.bb.now c.loop-record.bb c.loop-record.at _ c.loop-record.invariant.0 c.requires.2,
    )

pub returns : goal.returns
returns c =
    let a = c.args in
    stream_end a.ver.value a.text.now a.records.now a.bb.now c.loop-record.bb c.loop-record.at _ _ _ c.loop-record.invariant.0 c.as_chunks.ensures.front c.loop-record-test.false
