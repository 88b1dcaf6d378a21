-- `segments::records::get_total_bits` meets its contract: the total is the bits so far and those of the records that are left.
-- Assumes nothing.
use Rattle.std.proofs.Common.{◌≡◌, ◌*◌, ◌^◌, ◌≤◌}
use Rattle.standard.specs.Segments.{segments_of}
use Rattle.segments.specs.Records.{parts_of, rest_of}
use Rattle.segments.specs.Totals.{total_of, more}
use Rattle.segments.proofs.records.get_total_bits.Given as goal

abbrev pub invariant-loop-record : goal.invariant-loop-record
invariant-loop-record l =
    (total_of l.ver.value (segments_of l.text (parts_of l.records)) ≡ more l.result (total_of l.ver.value (segments_of l.text (rest_of l.records l.record-index)))) × (l.result ≤ l.record-index * 2 ^ 20)
