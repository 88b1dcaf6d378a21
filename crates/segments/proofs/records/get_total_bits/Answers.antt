-- `segments::records::get_total_bits` meets its contract: the total is the bits so far and those of the records that are left.
-- Assumes nothing.
use Rattle.std.proofs.Common.{length}
use Rattle.segments.specs.Meaning.{meaning}
use Rattle.segments.specs.Records.{chunk_count}
use Rattle.segments.specs.Totals.{totals_next}
use Rattle.segments.specs.Fit.{total_bound, total_room}
use Rattle.segments.proofs.records.get_total_bits.Goals as goal

pub overflow_add-result : goal.overflow_add-result
overflow_add-result c =
    let s = meaning c.segment_of.result in
    record { fits = total_room c.args.ver.value s c.in_ok-result.field-0 c.loop-record.result c.loop-record.record-index c.bits.result c.bits.ensures c.in_ok-result.was c.loop-record.invariant.1 (length c.args.records.now) _ c.loop-record-test.true (chunk_count c.args.records.now _ c.as_chunks.ensures.front) c.requires.0 }

pub loop-record-preserved : goal.loop-record-preserved
loop-record-preserved c =
    let s = meaning c.segment_of.result in (
      totals_next c.args.text.now c.args.records.now c.args.ver.value c.loop-record.record-index c.loop-record.result s c.as_chunks.result.0.now c.bits.result c.loop-record.invariant.0
          c.as_chunks.ensures.front c.loop-record-test.true c.segment_of.ensures c.bits.ensures _ c.in_ok-result.was,
      total_bound c.args.ver.value s _ _ _ c.bits.result c.bits.ensures c.in_ok-result.was c.loop-record.invariant.1,
    )
