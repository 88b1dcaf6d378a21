-- `packed::score` meets its contract. The four parts are the definition's.
-- Assumes nothing.
use Rattle.laws.specs.Grid.{paint, length_paint, square_small}
use Rattle.modules.specs.Mask.{masked}
use Rattle.penalty.specs.Squares.{penalty_parts}
use Rattle.packed.specs.Rows.{dark_le}
use native.Mathlib.Omega.{arith}
use Rattle.std.proofs.Common.{rules}
use Rattle.packed.proofs.score.Goals as goal

pub balance_of-requires : goal.balance_of-requires
balance_of-requires g c = let a = c.args.candidate.now in
    (omega (arith, square_small a.side (omega arith), dark_le (paint a.side (masked a.msk) a.grid.now) _ c.rows_of-across.ensures.2, length_paint a.side (masked a.msk) a.grid.now), omega (arith, square_small a.side (omega arith)))

pub returns : goal.returns
returns g c = search (penalty_parts, rules)
