-- `field::times_root` meets its contract.
-- Assumes nothing.
use Prim.Native.Nat.{◌≤◌}
use mathlib.Core.Path.{◌≡◌}
use Rattle.field.specs.Generator.{times_root}
use Rattle.laws.specs.Front.{front}
use lib.ListN.{length}
use Rattle.field.proofs.times_root.Given as goal

abbrev pub invariant-loop-j : goal.invariant-loop-j
invariant-loop-j l = (l.j ≤ 32) × (length l.wide ≡ 33) × (l.wide ≡ front l.j (times_root l.root l.initial.wide) l.initial.wide)
