-- `packed::packing::pack_word` meets its contract. The modules are taken from the last to the first.
-- Assumes nothing.
use mathlib.Core.Path.{◌≡◌}
use Prim.Native.Nat.{◌+◌, ◌-◌, ◌≤◌}
use Rattle.standard.specs.Numbers.{from}
use Rattle.packed.specs.Digits.{value}
use Rattle.packed.specs.Packs.{digit_at}
use Rattle.packed.proofs.packing.pack_word.Given as goal

abbrev pub invariant-loop-i : goal.invariant-loop-i
invariant-loop-i l =
    (l.i ≤ l.n) × (l.w ≡ value (from (l.first + l.i) (l.n - l.i) (digit_at l.free l.grid l.start l.step)))
