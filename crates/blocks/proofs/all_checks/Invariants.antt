-- `blocks::all_checks` meets its contract.
-- Assumes nothing.
use Prim.Native.Nat.{◌*◌}
use mathlib.Core.List.{◌++◌}
use mathlib.Core.Path.{◌≡◌}
use lib.ListN.{length, drop}
use Rattle.blocks.specs.Checks.{rests_in}
use Rattle.blocks.proofs.all_checks.Given as goal

abbrev pub invariant-loop-i : goal.invariant-loop-i
invariant-loop-i l =
    let g = l.divisor.coefficients.now in
    l.out ≡ rests_in g l.shares.shortdatlen l.shares.numshortblocks l.«data» l.i ++ drop (l.i * length g) l.initial.out
