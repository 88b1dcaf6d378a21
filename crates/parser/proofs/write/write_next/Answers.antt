-- `parser::write::write_next` meets its contract.
-- Assumes nothing.
use native.Mathlib.Omega.{arith}
use Rattle.std.proofs.Common.{◌∙◌}
use Rattle.segments.specs.Groups.{width_32}
use Rattle.parser.specs.CodeWrites.{own_room, chars_own}
use Rattle.parser.proofs.write.write_next.Goals as goal

pub read_bits-requires : goal.read_bits-requires
read_bits-requires c =
    let room = own_room _ _ _ _ _ c.requires.0 c.width_of-w.ensures c.requires.2 c.requires.3 in
    (width_32 _ _ _ c.width_of-w.ensures, room, omega (arith, room))

pub returns : goal.returns
returns c = c.write_group.ensures ∙ chars_own _ _ _ _ _ _ c.width_of-w.ensures c.read_bits.ensures c.requires.0
