-- `field::reed_solomon_compute_divisor` meets its contract.
-- Assumes nothing.
use Prim.Native.Nat.{ℕ}
use mathlib.Core.Path.{◌≡◌, refl, ap, ◌∙◌}
use native.Mathlib.Omega.{arith}
use Rattle.standard.specs.Field.{times, power}
use Rattle.field.specs.Generator.{times_root, power_suc, wide_at, wide_start, wide_last, wide_turn, wide_end}
use lib.ListN.{length}
use Rattle.field.proofs.reed_solomon_compute_divisor.Goals as goal

pub loop-init : goal.loop-init
unfolding power
loop-init c = (refl, wide_start)

pub times_root-requires : goal.times_root-requires
times_root-requires c = let t = c.loop in wide_last t.counter t.wide t.invariant.1 (omega arith)

pub loop-preserved : goal.loop-preserved
loop-preserved c =
    let t = c.loop in (
      c.reed_solomon_multiply-root.ensures ∙ ap (λ (x : ℕ). times x 2) t.invariant.0 ∙ power_suc t.counter,
      c.times_root.ensures ∙ ap (λ (x : ℕ). times_root x t.wide) t.invariant.0 ∙ wide_turn t.counter t.wide t.invariant.1 (omega arith),
    )

pub returns : goal.returns
returns c =
    let d = length c.args.out.now in
    let e : c.loop.counter ≡ d = omega arith in
    c.copy_from_slice.ensures.after ∙ wide_end d c.loop.wide (c.loop.invariant.1 ∙ ap wide_at e) (omega arith)
