-- `format_bit` reads one module of row 8.
-- Assumes nothing.
use Rattle.std.proofs.Common.{rules}
use Rattle.modules.specs.FormatBack.{bit_is}
use Rattle.modules.proofs.read.format_bit.Goals as goal

pub returns : goal.returns
returns c = (search (bit_is, rules), search rules)
