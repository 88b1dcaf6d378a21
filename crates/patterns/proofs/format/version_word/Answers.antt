-- `version_word` has the twelve check bits.
-- Assumes nothing.
use Rattle.std.proofs.Common.{rules, ◌∙◌}
use Rattle.patterns.specs.Words.{twelve, version_is}
use Rattle.patterns.proofs.format.version_word.Goals as goal

pub remainder-requires : goal.remainder-requires
remainder-requires c = (search rules, search rules, twelve)

pub returns : goal.returns
returns c = version_is _ _ _ c.remainder.ensures.0 (c.from-data.ensures ∙ c.value.ensures)
