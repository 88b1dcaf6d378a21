-- `packed::packing::digit_of` meets its contract.
-- Assumes nothing.
use Rattle.packed.specs.Packs.{digit_free, digit_colour}
use Rattle.std.proofs.Common.{rules}
use Rattle.packed.proofs.packing.digit_of.Goals as goal

pub returns-then-free : goal.returns-then-free
returns-then-free c = (digit_free c.args.free c.args.byte c.if-free.true, search rules)

pub returns-else-free : goal.returns-else-free
returns-else-free c = (search (digit_colour, rules), search rules)
