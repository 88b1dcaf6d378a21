-- `first_above` finds the first byte above 1.
-- Assumes nothing.
use Rattle.std.proofs.Common.{rules, tests}
use Rattle.std.proofs.lemmas.Iterator.{YieldsList-from_slice}
use Rattle.std.proofs.lemmas.Iterator.Search.{position_from_yields_List}
use Rattle.reader.specs.Early.{above_found, small_all}
use Rattle.reader.proofs.check.first_above.Goals as goal

pub returns-then-all_small : goal.returns-then-all_small
returns-then-all_small c = search (small_all, rules)

pub returns : goal.returns
returns c = above_found c.args.grid.now _ (position_from_yields_List _ _ _ _ c.position.ensures.ran (YieldsList-from_slice c.args.grid.now cc) (λ x b q k. search (rules, tests)))
