-- `penalty::get_penalty_score` meets its contract. The four parts are the definition's.
-- Assumes nothing.
use Rattle.laws.specs.Grid.{square_small}
use Rattle.penalty.specs.Squares.{penalty_parts}
use mathlib.Core.Path.{◌∙◌}
use Rattle.penalty.specs.Lines.{colours, in_row, in_columns, rows_sum, columns_sum}
use native.Mathlib.Omega.{arith}
use Rattle.penalty.proofs.get_penalty_score.Goals as goal

pub overflow_cast-total : goal.overflow_cast-total
overflow_cast-total c = omega (arith, square_small c.args.side (omega arith))

pub dark_modules-requires : goal.dark_modules-requires
dark_modules-requires c = omega (arith, square_small c.args.side (omega arith))

pub balance_of-requires : goal.balance_of-requires
balance_of-requires c = omega (arith, square_small c.args.side (omega arith))

pub lines_penalty-rows-requires : goal.lines_penalty-rows-requires
lines_penalty-rows-requires c = (omega arith, λ k i h l. in_row _ _ _ c.requires.2 h i l)

pub lines_penalty-columns-requires : goal.lines_penalty-columns-requires
lines_penalty-columns-requires c = (omega arith, λ k i h l. in_columns _ _ _ c.requires.2 h i l)

pub returns : goal.returns
returns c =
    let s = c.args.side in let g = c.args.grid.now in
    penalty_parts s (colours g) _ _ _ _ _ (c.lines_penalty-rows.ensures.0 ∙ rows_sum s g) (c.lines_penalty-columns.ensures.0 ∙ columns_sum s g)
    c.all_squares-same.ensures.0 c.dark_modules.ensures.0 c.balance_of.ensures.0
