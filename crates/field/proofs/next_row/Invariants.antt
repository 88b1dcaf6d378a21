-- `field::next_row` meets its contract.
-- Assumes nothing.
use Prim.Native.Nat.{◌+◌, ◌*◌}
use mathlib.Core.Path.{◌≡◌}
use lib.ListN.{take}
use Rattle.field.specs.Multiples.{multiples_of}
use Rattle.field.proofs.next_row.Given as goal

abbrev pub invariant-loop-j : goal.invariant-loop-j
invariant-loop-j l = take (l.n * 32 + l.j) l.rows ≡ take (l.n * 32 + l.j) (multiples_of l.base)
