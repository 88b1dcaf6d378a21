-- `terminal::words::number`: one digit more, or no number.
-- Assumes nothing.
use Rattle.std.proofs.Common.{rules}
use Rattle.terminal.specs.WordLaws.{number_start, number_next, number_fails, number_end}
use Rattle.terminal.proofs.words.number.Goals as goal

pub loop-c-init : goal.loop-c-init
loop-c-init c = (search (number_start, rules), search rules)

pub loop-c-preserved : goal.loop-c-preserved
loop-c-preserved c = (search (number_next, rules), search rules)

pub returns-in_err-n : goal.returns-in_err-n
returns-in_err-n c = search (number_fails, rules)

pub returns : goal.returns
returns c = search (number_end, rules)
