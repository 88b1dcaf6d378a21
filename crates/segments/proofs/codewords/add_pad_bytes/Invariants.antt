-- `segments::codewords::add_pad_bytes` meets its contract: each byte so far is a pad byte.
-- Assumes nothing.
use Rattle.std.proofs.Common.{◌≡◌, ℕ, ◌<◌, get_or}
use Rattle.standard.specs.Codewords.{pad_byte}
use Rattle.segments.proofs.codewords.add_pad_bytes.Given as goal

abbrev pub invariant-loop-i : goal.invariant-loop-i
invariant-loop-i l = (j : ℕ) → j < l.i → get_or l.rest j 0 ≡ pad_byte j
