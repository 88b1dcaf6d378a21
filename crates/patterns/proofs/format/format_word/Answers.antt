-- `format_word` has the ten check bits.
-- Assumes nothing.
use Rattle.std.proofs.Common.{rules, arith, ◌∙◌}
use Rattle.patterns.specs.Words.{ten, format_is, format_small, level_small}
use Rattle.patterns.proofs.format.format_word.Goals as goal

pub remainder-requires : goal.remainder-requires
remainder-requires c = (search rules, omega (arith, level_small _ _ c.format_bits.ensures), ten)

pub returns : goal.returns
returns c =
    let level = c.from.ensures ∙ c.format_bits.ensures in
    (format_is _ _ _ _ _ c.remainder.ensures.0 level (c.from-2.ensures ∙ c.value.ensures), format_small _ _ _ c.remainder.ensures.1 (level_small _ _ level) (search rules))
