-- `same_functions` compares the function modules one after the other.
-- Assumes nothing.
use Rattle.std.proofs.Common.{◌≡◌, length}
use Rattle.modules.specs.Same.{agree_to}
use Rattle.modules.proofs.read.same_functions.Given as goal

abbrev pub invariant-loop-c : goal.invariant-loop-c
invariant-loop-c l = l.all ≡ agree_to (length l.yielded) l.grid l.work
