-- `segments::make::make_alphanumeric` meets its contract: the pair payload is a run of kind 1.
-- Assumes nothing.
use Rattle.segments.specs.Groups.{every_alphanumeric, pairs_free, pairs_done}
use Rattle.std.proofs.Common.{rules}
use Rattle.segments.proofs.make.make_alphanumeric.Goals as goal

pub append_groups-requires : goal.append_groups-requires
append_groups-requires c = (search (every_alphanumeric, rules), search (pairs_free, rules))

pub returns : goal.returns
returns c = search (pairs_done, rules)
