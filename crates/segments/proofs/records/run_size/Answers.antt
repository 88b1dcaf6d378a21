-- `segments::records::run_size` meets its contract: full groups and the rest.
-- Assumes nothing.
use Rattle.segments.specs.Sizes.{product_64, sum_64, rest_le, size_is, full_pos}
use Rattle.std.proofs.Common.{rules}
use Rattle.segments.proofs.records.run_size.Goals as goal

pub nonzero_rem-count : goal.nonzero_rem-count
nonzero_rem-count c = search (full_pos, rules)

pub width_of-v-requires : goal.width_of-v-requires
width_of-v-requires c = search (rest_le, rules)

pub nonzero_div-result : goal.nonzero_div-result
nonzero_div-result c = search (full_pos, rules)

pub overflow_mul-result : goal.overflow_mul-result
overflow_mul-result c = record { fits = search (product_64, rules) }

pub overflow_add-result : goal.overflow_add-result
overflow_add-result c = record { fits = search (sum_64, rules) }

pub returns : goal.returns
returns c = search (size_is, rules)
