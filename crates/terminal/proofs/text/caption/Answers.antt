-- `terminal::text::caption`: seven texts, one behind the other.
-- Assumes nothing.
use Rattle.std.proofs.Common.{arith}
use Rattle.terminal.specs.TextLaws.{caption_said}
use Rattle.terminal.proofs.text.caption.Goals as goal

pub returns-clause-said : goal.returns-clause-said
returns-clause-said c =
    (caption_said c.args.version c.args.level c.args.mask _ c.say-4.ensures.0 c.number-2.ensures.said.0 c.say-3.ensures.0 c.push.ensures.0 c.letter.ensures c.say-2.ensures.0 c.number.ensures.said.0 c.say.ensures.0 (omega arith), cc)
