-- `segments::make::make_numeric` meets its contract: the digit payload is a run of kind 0.
-- Assumes nothing.
use Rattle.segments.specs.Groups.{every_digit, digits_free, digits_done}
use Rattle.std.proofs.Common.{rules}
use Rattle.segments.proofs.make.make_numeric.Goals as goal

pub append_groups-requires : goal.append_groups-requires
append_groups-requires c = (search (every_digit, rules), search (digits_free, rules))

pub returns : goal.returns
returns c = search (digits_done, rules)
