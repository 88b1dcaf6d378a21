-- `packed::cost::run_cost` meets its contract.
-- Assumes nothing.
use native.Mathlib.Omega.{arith}
use Rattle.packed.specs.Cost.{word_cost, fives}
use Rattle.packed.proofs.cost.run_cost.Goals as goal

pub returns : goal.returns
unfolding word_cost fives
returns g c = (cc, omega arith)
