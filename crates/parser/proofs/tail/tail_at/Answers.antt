-- `parser::tail::tail_at` meets its contract.
-- Assumes nothing.
use Rattle.std.proofs.Common.{rules}
use Rattle.parser.specs.CodeTail.{tail_on, tail_wrong}
use Rattle.parser.proofs.tail.tail_at.Goals as goal

pub returns-then-read_bits-ne0 : goal.returns-then-read_bits-ne0
returns-then-read_bits-ne0 c = search (tail_wrong, rules)

pub returns : goal.returns
returns c = search (tail_on, rules)
