-- `segments::alphanumeric_code` meets its contract: the charset is the definition's alphabet, and `position` answers the definition's place.
-- Assumes nothing.
use Rattle.std.proofs.Common.{◌==◌, rules, tests}
use Rattle.std.proofs.lemmas.Iterator.{YieldsList-from_slice}
use Rattle.std.proofs.lemmas.Iterator.Search.{position_from_yields_List}
use Rattle.standard.specs.Kinds.{alphabet}
use Rattle.segments.specs.Codes.{place_is}
use Rattle.segments.proofs.alphanumeric_code.Goals as goal

pub returns : goal.returns
unfolding alphabet
returns c =
    place_is c.args.c c.position.result
    (position_from_yields_List (λ x. x == c.args.c) _ _ c.position.result c.position.ensures.ran (YieldsList-from_slice alphabet cc) (λ x b q h. search (rules, tests)))
