-- `terminal::words::level_named`: a word of another length is none.
-- Assumes nothing.
use Rattle.std.proofs.Common.{arith}
use Rattle.terminal.specs.WordLaws.{level_none}
use Rattle.terminal.proofs.words.level_named.Goals as goal

pub returns-in_default-3 : goal.returns-in_default-3
returns-in_default-3 c = level_none c.args.word.now (λ e. omega arith)
