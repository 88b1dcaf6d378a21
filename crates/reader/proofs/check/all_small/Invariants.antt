-- `all_small` looks at one byte after the other.
-- Assumes nothing.
use mathlib.Core.Path.{◌≡◌}
use Rattle.reader.specs.Early.{small_to}
use Rattle.reader.proofs.check.all_small.Given as goal

abbrev pub invariant-loop-b : goal.invariant-loop-b
invariant-loop-b l = l.all ≡ small_to l.b-index l.grid
