-- `parser::tail::pads_at` meets its contract.
-- Assumes nothing.
use native.Mathlib.Omega.{arith}
use Rattle.parser.specs.CodeTail.{pads_start, pads_room, pads_next, pads_wrong, pads_done}
use Rattle.parser.proofs.tail.pads_at.Goals as goal

pub loop-i-init : goal.loop-i-init
loop-i-init c = (pads_start _ _, pads_room _ _ c.requires.1, omega arith)

pub returns-then-read_bits-pad_byte : goal.returns-then-read_bits-pad_byte
returns-then-read_bits-pad_byte c = pads_wrong _ _ _ _ _ c.loop-i.invariant.0 _ _ c.read_bits.ensures c.pad_byte.ensures c.loop-i-test.true c.if-read_bits-pad_byte.true

pub loop-i-preserved : goal.loop-i-preserved
loop-i-preserved c = (pads_next _ _ _ _ _ c.loop-i.invariant.0 _ _ c.read_bits.ensures c.pad_byte.ensures c.loop-i-test.true c.if-read_bits-pad_byte.false, omega arith, omega arith)

pub returns : goal.returns
returns c = pads_done _ _ _ _ _ c.loop-i.invariant.0 c.loop-i-test.false
