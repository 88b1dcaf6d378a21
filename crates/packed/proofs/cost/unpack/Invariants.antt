-- `packed::cost::unpack` meets its contract. Before a turn the modules that were passed are written.
-- Assumes nothing.
use Prim.Native.Nat.{◌/◌, ◌^◌, ◌≤◌}
use mathlib.Core.Path.{◌≡◌}
use lib.ListN.{length}
use Rattle.laws.specs.Front.{front}
use Rattle.packed.specs.Frame.{digits}
use Rattle.packed.proofs.cost.unpack.Given as goal

abbrev pub invariant-loop-module : goal.invariant-loop-module
invariant-loop-module g l =
    let number = g.L.Strip.number in
    (l.module-items ≡ front l.module-index (digits l.module-index-end (number l.initial.rest)) l.initial.module-items) × (number l.rest ≡ number l.initial.rest / 2 ^ l.module-index) × (l.module-index-end ≡ length l.initial.module-items) × (l.module-index ≤ l.module-index-end) × (length l.module-items ≡ length l.initial.module-items)
