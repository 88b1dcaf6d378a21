-- `segments::make::make_bytes` meets its contract: the byte payload is a run of kind 2, and every byte is allowed.
-- Assumes nothing.
use Rattle.segments.specs.Groups.{every_byte, bytes_free, bytes_done}
use Rattle.std.proofs.Common.{rules}
use Rattle.segments.proofs.make.make_bytes.Goals as goal

pub append_groups-requires : goal.append_groups-requires
append_groups-requires c = (every_byte c.args.«data».now (λ i. (c.type_inv.«data» i).fits), search (bytes_free, rules))

pub returns : goal.returns
returns c = search (bytes_done, rules)
