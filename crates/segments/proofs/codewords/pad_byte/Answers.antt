-- `segments::codewords::pad_byte` meets its contract: even and odd places.
-- Assumes nothing.
use Rattle.segments.specs.Ends.{pad_even, pad_odd}
use Rattle.std.proofs.Common.{rules}
use Rattle.segments.proofs.codewords.pad_byte.Goals as goal

pub returns-then-i-eq0 : goal.returns-then-i-eq0
returns-then-i-eq0 c = search (pad_even, rules)

pub returns-else-i-eq0 : goal.returns-else-i-eq0
returns-else-i-eq0 c = search (pad_odd, rules)
