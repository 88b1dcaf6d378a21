-- `packed::rows_of` meets its contract. Before turn y the rows before y are passed.
-- Assumes nothing.
use mathlib.Core.Path.{◌∙◌}
use Rattle.laws.specs.Grid.{length_paint}
use Rattle.packed.specs.Rows.{row_framed, passed_first, passed_more, passed_costs, passed_squares, passed_darks}
use native.Mathlib.Omega.{arith}
use Rattle.std.proofs.Common.{rules}
use Rattle.packed.proofs.rows_of.Goals as goal

pub line_cost-cost-requires : goal.line_cost-cost-requires
line_cost-cost-requires g c = (search (row_framed, rules), search rules, search rules, search rules, search rules)

pub loop-y-init : goal.loop-y-init
loop-y-init g c = (search (passed_first, rules), omega arith, omega arith, omega arith, omega arith, omega arith)

pub line_cost-cost-requires-in-loop-y : goal.line_cost-cost-requires-in-loop-y
line_cost-cost-requires-in-loop-y g c = (search (row_framed, rules), search rules, search rules, search rules, search rules)

pub square_count-same-requires : goal.square_count-same-requires
square_count-same-requires g c = (row_framed _ _ _ _ c.loop-y.invariant.0.line, search (row_framed, rules), search rules)

pub loop-y-preserved : goal.loop-y-preserved
loop-y-preserved g c =
    let l = c.loop-y in (
      passed_more _ _ l.y _ _ _ _ _ _ _ _ l.invariant.1 l.invariant.0 c.line-next.ensures c.line_cost-cost-in-loop-y.ensures.0 c.count-dark-in-loop-y.ensures.0 c.square_count-same.ensures.0,
      omega arith,
      omega arith,
      omega arith,
      omega arith,
      omega arith,
    )

pub returns : goal.returns
returns g c =
    let p = c.loop-y.invariant.0 in (
      passed_costs _ _ _ _ _ _ _ p (omega arith) (omega arith),
      passed_squares _ _ _ _ _ _ _ p (omega arith) (omega arith),
      passed_darks _ _ _ _ _ _ _ p (omega arith) (omega arith) (length_paint _ _ _ ∙ omega arith),
      omega arith,
      omega arith,
      omega arith,
    )
