-- `penalty::squares::all_squares` meets its contract. The loop adds up the rows passed.
-- Assumes nothing.
use Rattle.laws.specs.Sums.{sum_next, sum_end}
use Rattle.std.proofs.Common.{rules}
use Rattle.penalty.proofs.squares.all_squares.Goals as goal

pub loop-y-preserved : goal.loop-y-preserved
loop-y-preserved c = (search rules, search (sum_next, rules), search rules)

pub returns : goal.returns
returns c = (search (sum_end, rules), search rules)
