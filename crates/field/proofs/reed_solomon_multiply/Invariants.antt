-- `field::reed_solomon_multiply` meets its contract.
-- Assumes nothing.
use Prim.Native.Nat.{◌-◌, ◌/◌, ◌^◌, ◌≤◌}
use mathlib.Core.Path.{◌≡◌}
use Rattle.standard.specs.Field.{times_low}
use Rattle.field.proofs.reed_solomon_multiply.Given as goal

abbrev pub invariant-loop-i : goal.invariant-loop-i
invariant-loop-i l = (l.i ≤ 8) × (l.z ≡ times_low (8 - l.i) l.x (l.y / 2 ^ l.i))
