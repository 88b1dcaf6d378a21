-- `penalty::balance_of` meets its contract. No number before k is enough.
-- Assumes nothing.
use lib.Dec.{leb}
use Rattle.standard.specs.Penalty.{balance}
use Rattle.standard.specs.Numbers.{least}
use Prim.Native.Nat.{◌+◌, ◌-◌, ◌*◌, ◌≤◌}
use mathlib.Core.Path.{◌≡◌}
use Rattle.penalty.proofs.balance_of.Given as goal

abbrev pub invariant-loop-k : goal.invariant-loop-k
invariant-loop-k l = (l.k ≤ 10) × (balance l.dark l.total ≡ least l.k (10 - l.k) (λ j. leb l.off ((j + 1) * l.total)))
