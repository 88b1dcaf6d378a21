-- `segments::make::make_eci` meets its contract: one field, or two one after the other, by the size of the number.
-- Assumes nothing.
use Rattle.segments.specs.Eci.{small_free, small_done, middle_first, middle_second, middle_done, large_first, large_second, large_done}
use Rattle.std.proofs.Common.{rules}
use Rattle.segments.proofs.make.make_eci.Goals as goal

pub append_bits-requires : goal.append_bits-requires
append_bits-requires c = (search rules, search (small_free, rules))

pub returns-then-assignval-lt128 : goal.returns-then-assignval-lt128
returns-then-assignval-lt128 c = search (small_done, rules)

pub append_bits-p-requires : goal.append_bits-p-requires
append_bits-p-requires c = (search rules, search (middle_first, rules))

pub append_bits-requires-then-assignval-lt16384 : goal.append_bits-requires-then-assignval-lt16384
append_bits-requires-then-assignval-lt16384 c = (search rules, search (middle_second, rules))

pub returns-then-assignval-lt16384 : goal.returns-then-assignval-lt16384
returns-then-assignval-lt16384 c = search (middle_done, rules)

pub append_bits-p-requires-else-assignval-lt16384 : goal.append_bits-p-requires-else-assignval-lt16384
append_bits-p-requires-else-assignval-lt16384 c = (search rules, search (large_first, rules))

pub append_bits-requires-else-assignval-lt16384 : goal.append_bits-requires-else-assignval-lt16384
append_bits-requires-else-assignval-lt16384 c = (search rules, search (large_second, rules))

pub returns-else-assignval-lt16384 : goal.returns-else-assignval-lt16384
returns-else-assignval-lt16384 c = search (large_done, rules)
