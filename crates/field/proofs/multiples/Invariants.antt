-- `field::multiples` meets its contract.
-- Assumes nothing.
use Prim.Native.Nat.{◌*◌}
use mathlib.Core.Path.{◌≡◌}
use lib.ListN.{length, take}
use Rattle.laws.specs.Front.{front}
use Rattle.field.specs.Multiples.{multiples_of, wide, padded}
use Rattle.field.proofs.multiples.Given as goal

abbrev pub invariant-loop-x : goal.invariant-loop-x
invariant-loop-x l = l.x-items ≡ front l.x-index (padded l.c l.divisor) (wide l.divisor)

abbrev pub invariant-loop-n : goal.invariant-loop-n
invariant-loop-n l = (length l.rows ≡ 512) × (take (l.n * 32) l.rows ≡ take (l.n * 32) (multiples_of l.base))
