-- `penalty::dark_modules` meets its contract. The loop adds up the modules passed.
-- Assumes nothing.
use Rattle.laws.specs.Each.{each}
use Rattle.laws.specs.Sums.{sum_next, sum_end}
use Rattle.std.proofs.Common.{rules}
use Rattle.penalty.proofs.dark_modules.Goals as goal

pub loop-byte-preserved : goal.loop-byte-preserved
loop-byte-preserved c = (search rules, search (sum_next, rules), search rules)

pub returns : goal.returns
unfolding each
returns c = (search (sum_end, rules), search rules)
