-- `bits::append_bits` meets its contract: piece after piece is put into its byte.
-- Assumes nothing.
use Prim.Native.Nat.{◌≤◌}
use Rattle.standard.specs.Bits.{bits}
use Rattle.bits.specs.Appended.{Progress}
use Rattle.bits.proofs.append_bits.Given as goal

abbrev pub invariant-loop-left : goal.invariant-loop-left
invariant-loop-left l = (l.left ≤ 32) × Progress l.initial.buf l.buf l.at l.p (bits l.len l.val) (bits l.left l.val)

abbrev pub decreases-loop-left : goal.decreases-loop-left
decreases-loop-left l = l.left
