-- `penalty::dark_modules` meets its contract. The loop adds up the modules passed.
-- Assumes nothing.
use Rattle.standard.specs.Numbers.{sum, tabulate}
use Prim.Native.Nat.{◌%◌, ◌≤◌}
use mathlib.Core.Path.{◌≡◌}
use lib.ListN.{length, get_or}
use Rattle.penalty.proofs.dark_modules.Given as goal

abbrev pub invariant-loop-byte : goal.invariant-loop-byte
invariant-loop-byte l = (l.byte-index ≤ length l.grid) × (l.dark ≡ sum (tabulate l.byte-index (λ k. get_or l.grid k 0 % 2))) × (l.dark ≤ l.byte-index)
