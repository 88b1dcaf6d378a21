-- `bits::read_bits` meets its contract: the number of the bytes so far, one byte more each turn.
-- Assumes nothing.
use Rattle.std.proofs.Common.{◌≡◌, ◌*◌}
use Rattle.standard.specs.Bits.{unpack}
use Rattle.bits.specs.Fields.{field}
use Rattle.bits.proofs.read_bits.Given as goal

abbrev pub invariant-loop-b : goal.invariant-loop-b
invariant-loop-b l = l.r ≡ field (unpack l.buf) (8 * l.k) (8 * l.b-index)
