-- `place` is the place of a module, in the grid.
-- Assumes nothing.
use native.Mathlib.Omega.{arith}
use lib.Arith.{digits_lt}
use Rattle.laws.specs.Grid.{square_small}
use Rattle.patterns.proofs.place.Goals as goal

pub overflow_mul-result : goal.overflow_mul-result
overflow_mul-result c = omega (arith, digits_lt c.requires.2 c.requires.1, square_small _ c.requires.0)

pub overflow_add-result : goal.overflow_add-result
overflow_add-result c = omega (arith, digits_lt c.requires.2 c.requires.1, square_small _ c.requires.0)

pub returns : goal.returns
returns c = omega (arith, digits_lt c.requires.2 c.requires.1)
