-- `penalty::lines_penalty` meets its contract. The loop adds up the lines passed.
-- Assumes nothing.
use Rattle.penalty.specs.Lines.{along}
use Rattle.standard.specs.Penalty.{line_cost}
use Rattle.standard.specs.Numbers.{tabulate}
use Rattle.laws.specs.Sums.{sum_next}
use Prim.Native.Nat.{ℕ, ◌*◌}
use native.Mathlib.Omega.{arith}
use Rattle.penalty.proofs.lines_penalty.Goals as goal

pub loop-k-preserved : goal.loop-k-preserved
loop-k-preserved c =
    let a = c.args in let l = c.loop-k in (
      omega arith,
      sum_next (λ (k : ℕ). line_cost a.side (tabulate a.side (along a.grid.now (k * a.stride) a.step))) _ _ _ l.invariant.1 c.line_penalty-result.ensures.0,
      omega arith,
    )
