-- `penalty::balance_of` meets its contract. No number before k is enough.
-- Assumes nothing.
use lib.Dec.{leb}
use Rattle.penalty.specs.Squares.{least_on}
use Rattle.standard.specs.Penalty.{balance}
use Rattle.standard.specs.Numbers.{least}
use Prim.Native.Nat.{ℕ, ◌+◌, ◌*◌}
use mathlib.Core.Path.{sym, ap, ◌∙◌}
use native.Mathlib.Omega.{arith}
use Rattle.penalty.proofs.balance_of.Goals as goal

pub loop-k-init : goal.loop-k-init
unfolding balance
loop-k-init c =
    let t = c.args.total in
    (omega arith, ap (λ (a : ℕ). least 0 10 (λ k. leb a ((k + 1) * t))) (sym c.abs_diff-off.ensures))

pub loop-k-preserved : goal.loop-k-preserved
loop-k-preserved c = let k = c.loop-k.k in (
  omega arith,
  c.loop-k.invariant.1
      ∙ least_on c.abs_diff-off.result c.args.total k 10 (omega arith) (omega arith),
)
