-- `parser::tail::fill_at` meets its contract.
-- Assumes nothing.
use Rattle.std.proofs.Common.{rules}
use Rattle.parser.specs.CodeTail.{fill_on, fill_wrong}
use Rattle.parser.proofs.tail.fill_at.Goals as goal

pub returns-then-read_bits-ne0 : goal.returns-then-read_bits-ne0
returns-then-read_bits-ne0 c = search (fill_wrong, rules)

pub returns : goal.returns
returns c = search (fill_on, rules)
