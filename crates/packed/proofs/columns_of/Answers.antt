-- `packed::columns_of` meets its contract. The loop adds up the columns passed.
-- Assumes nothing.
use Prim.Native.Nat.{ℕ}
use Rattle.standard.specs.Penalty.{column, line_cost}
use Rattle.laws.specs.Sums.{sum_next, sum_end}
use Rattle.laws.specs.Grid.{paint}
use Rattle.modules.specs.Mask.{masked}
use Rattle.penalty.specs.Lines.{colours}
use Rattle.packed.specs.Rows.{column_framed, column_cost}
use native.Mathlib.Omega.{arith}
use Rattle.std.proofs.Common.{rules}
use Rattle.packed.proofs.columns_of.Goals as goal

pub line_cost-result-requires : goal.line_cost-result-requires
line_cost-result-requires g c = (search (column_framed, rules), search rules, search rules, search rules, search rules)

pub loop-x-preserved : goal.loop-x-preserved
loop-x-preserved g c =
    let a = c.args.candidate.now in
    let l = c.loop-x in (
      omega arith,
      sum_next (λ (k : ℕ). line_cost a.side (column a.side (colours (paint a.side (masked a.msk) a.grid.now)) k)) _ _ _ l.invariant.1 (column_cost _ _ _ _ _ c.line-column.ensures c.line_cost-result.ensures.0),
      omega arith,
    )

pub returns : goal.returns
returns g c = (search (sum_end, rules), search rules)
