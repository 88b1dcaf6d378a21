-- `segments::records::Segment::bits` meets its contract: the length fits its count field, or it does not.
-- Assumes nothing.
use Rattle.segments.specs.Fit.{sum_64}
use Rattle.std.proofs.Common.{rules}
use Rattle.segments.proofs.records.Segment.bits.Goals as goal

pub overflow_add-result-2 : goal.overflow_add-result-2
overflow_add-result-2 c = record { fits = search (sum_64, rules) }
