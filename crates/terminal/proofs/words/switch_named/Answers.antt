-- `terminal::words::switch_named`: a word of another length, or with another byte, is none.
-- Assumes nothing.
use Rattle.std.proofs.Common.{rules, arith}
use Rattle.terminal.specs.WordLaws.{switch_none, switch_second}
use Rattle.terminal.proofs.words.switch_named.Goals as goal

pub returns-in_default : goal.returns-in_default
returns-in_default c = switch_none c.args.word.now (λ e. omega arith) (λ e. omega arith)

pub returns-in_default-5 : goal.returns-in_default-5
returns-in_default-5 c = switch_second c.args.word.now (omega arith) (search rules)

pub returns-in_default-7 : goal.returns-in_default-7
returns-in_default-7 c = switch_none c.args.word.now (λ e. omega arith) (λ e. omega arith)
