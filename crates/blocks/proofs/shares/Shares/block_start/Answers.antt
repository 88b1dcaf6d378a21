-- `blocks::shares::Shares::block_start` meets its contract.
-- Assumes nothing.
use native.Mathlib.Omega.{arith}
use Rattle.blocks.specs.Code.{product_small}
use Rattle.blocks.proofs.shares.Shares.block_start.Goals as goal

pub overflow_mul-result : goal.overflow_mul-result
overflow_mul-result c = omega (arith, product_small c.args.i c.args.self.shortdatlen (omega arith) (omega arith))

pub overflow_mul-result-else-i-self : goal.overflow_mul-result-else-i-self
overflow_mul-result-else-i-self c = omega (arith, product_small c.args.i c.args.self.shortdatlen (omega arith) (omega arith))

pub overflow_add-result : goal.overflow_add-result
overflow_add-result c = omega (arith, product_small c.args.i c.args.self.shortdatlen (omega arith) (omega arith))
