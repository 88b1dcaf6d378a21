-- `segments::make::append_segment` meets its contract: three parts, one after the other.
-- Assumes nothing.
use Rattle.segments.specs.Appends.{mode_free, count_32, width_32, count_free, payload_free, segment_done}
use Rattle.std.proofs.Common.{rules}
use Rattle.segments.proofs.make.append_segment.Goals as goal

pub append_bits-p-requires : goal.append_bits-p-requires
append_bits-p-requires c = (search rules, search (mode_free, rules))

pub overflow_cast-count : goal.overflow_cast-count
overflow_cast-count c = record { fits = search (count_32, rules) }

pub append_bits-q-requires : goal.append_bits-q-requires
append_bits-q-requires c = (search (width_32, rules), search (count_free, rules))

pub append_payload-requires : goal.append_payload-requires
append_payload-requires c = (search rules, search (payload_free, rules))

pub returns : goal.returns
returns c = search (segment_done, rules)
