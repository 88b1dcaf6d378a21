-- `level_of` finds the level of two bits.
-- Assumes nothing.
use Rattle.std.proofs.Common.{arith}
use Rattle.modules.specs.FormatBack.{level_three}
use Rattle.standard.specs.Format.{level_bits}
use Rattle.modules.proofs.read.level_of.Goals as goal

pub returns-in-0 : goal.returns-in-0
unfolding level_bits
returns-in-0 c = rw c.in-0.is

pub returns-in-1 : goal.returns-in-1
unfolding level_bits
returns-in-1 c = rw c.in-1.is

pub returns-in-2 : goal.returns-in-2
unfolding level_bits
returns-in-2 c = rw c.in-2.is

pub returns-in_default : goal.returns-in_default
returns-in_default c = level_three _ (omega (arith, c.in_default)) (omega arith)
