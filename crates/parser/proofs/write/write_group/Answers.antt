-- `parser::write::write_group` meets its contract.
-- Assumes nothing.
use native.Mathlib.Omega.{arith}
use Rattle.std.proofs.Common.{refl, rules}
use Rattle.parser.specs.CodeWrites.{group_next, group_whole, digit_lt}
use Rattle.parser.proofs.write.write_group.Goals as goal

pub loop-i-init : goal.loop-i-init
loop-i-init c = (refl, omega arith, refl)

pub char_of-requires : goal.char_of-requires
char_of-requires c = digit_lt _ _ _ _ c.digit_of.ensures

pub loop-i-preserved : goal.loop-i-preserved
loop-i-preserved c = (group_next _ _ _ _ _ _ _ _ c.loop-i.invariant.0 c.digit_of.ensures c.char_of.ensures c.loop-i-test.true refl, omega arith, search rules)

pub returns : goal.returns
returns c = group_whole _ _ _ _ _ _ c.loop-i.invariant.0 refl c.loop-i-test.false c.loop-i.invariant.1
