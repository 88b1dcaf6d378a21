-- `blocks::shares::Shares::place` meets its contract.
-- Assumes nothing.
use native.Mathlib.Omega.{arith}
use borrow.Author.Tests.{lt-ltb, le-ltb}
use Rattle.blocks.specs.Undo.{place_in}
use Rattle.blocks.specs.Code.{row_small}
use Rattle.blocks.proofs.shares.Shares.place.Goals as goal

pub overflow_mul-result : goal.overflow_mul-result
overflow_mul-result c = omega (arith, row_small c.args.c c.args.self.numblocks (omega arith) (omega arith))

pub overflow_add-result : goal.overflow_add-result
overflow_add-result c = omega (arith, row_small c.args.c c.args.self.numblocks (omega arith) (omega arith))

pub overflow_mul-result-else-c-self : goal.overflow_mul-result-else-c-self
overflow_mul-result-else-c-self c = omega (arith, row_small c.args.self.shortdatlen c.args.self.numblocks (omega arith) (omega arith))

pub overflow_sub-result : goal.overflow_sub-result
overflow_sub-result c = omega (arith, c.requires.long (omega arith))

pub overflow_add-result-else-c-self : goal.overflow_add-result-else-c-self
overflow_add-result-else-c-self c = omega (arith, row_small c.args.self.shortdatlen c.args.self.numblocks (omega arith) (omega arith))

pub returns-then-c-self : goal.returns-then-c-self
unfolding place_in
returns-then-c-self c = simp (lt-ltb _ _ c.if-c-self.true)

pub returns-else-c-self : goal.returns-else-c-self
unfolding place_in
returns-else-c-self c = simp (le-ltb _ _ c.if-c-self.false)
