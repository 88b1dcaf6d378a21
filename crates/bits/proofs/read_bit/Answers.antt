-- `bits::read_bit` meets its contract: shift and mask give the bit.
-- Assumes nothing.
use Prim.Native.Nat.{◌-◌, ◌/◌, ◌%◌, ◌^◌}
use mathlib.Core.Path.{sym, ◌∙◌}
use lib.Bits.{and_mask}
use Rattle.bits.specs.PackedLaws.{get_d_unpack_at}
use lib.ListN.{get_or}
use Rattle.bits.proofs.read_bit.Goals as goal

pub returns : goal.returns
returns c =
    let a = c.args in
    and_mask (get_or a.buf.now (a.i / 8) 0 / 2 ^ (7 - a.i % 8)) 1 ∙ sym (get_d_unpack_at a.buf.now a.i c.requires)
