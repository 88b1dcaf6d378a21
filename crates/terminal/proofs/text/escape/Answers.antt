-- `terminal::text::escape`: one byte behind the others.
-- Assumes nothing.
use Rattle.std.proofs.Common.{rules, arith}
use Rattle.terminal.specs.TextLaws.{escape_start, escape_next, escape_end}
use Rattle.terminal.proofs.text.escape.Goals as goal

pub loop-c-init : goal.loop-c-init
loop-c-init c = search (escape_start, rules)

pub loop-c-preserved : goal.loop-c-preserved
loop-c-preserved c =
    let i = c.loop-c.invariant in
    ((escape_next c.args.text.now _ _ _ _ _ _ c.loop-c.c-index c.escape_byte.ensures.said.0 i.0.0 (omega arith), cc), omega arith)

pub returns-clause-said : goal.returns-clause-said
returns-clause-said c = search (escape_end, rules)
