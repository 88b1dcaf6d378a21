-- `packed::packing::pack_lines` meets its contract. Before a turn the lines passed are held.
-- Assumes nothing.
use Prim.Native.Nat.{ℕ, ◌*◌, ◌≤◌, ◌<◌}
use mathlib.Core.Path.{◌≡◌}
use lib.ListN.{length}
use Rattle.packed.specs.Ways.{LineHeld}
use Rattle.packed.proofs.packing.pack_lines.Given as goal

abbrev pub invariant-loop-k : goal.invariant-loop-k
invariant-loop-k l = (l.k ≤ l.side) × (length l.words ≡ 6 * l.side) × ((k : ℕ) → k < l.k → LineHeld l.way l.side l.grid l.words k)
