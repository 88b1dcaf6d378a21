-- `field::reed_solomon_multiply` meets its contract.
-- Assumes nothing.
use Prim.Native.Nat.{suc, ◌-◌}
use mathlib.Core.Path.{◌≡◌, refl, ap, ◌∙◌}
use native.Mathlib.Omega.{arith}
use native.Mathlib.Nat.{div-one}
use Rattle.field.specs.Times.{turn}
use Rattle.std.proofs.Common.{rules}
use Rattle.standard.specs.Field.{times, times_low}
use Rattle.field.proofs.reed_solomon_multiply.Goals as goal

pub loop-i-init : goal.loop-i-init
unfolding times_low
loop-i-init c = (search rules, refl)

pub loop-i-preserved : goal.loop-i-preserved
loop-i-preserved c =
    let a = c.args in
    let i = c.loop-i.i in
    let e : suc (i - 1) ≡ i = omega arith in
    (omega arith, turn a.x a.y c.loop-i.z c.double-z.result (i - 1) (omega arith) c.double-z.ensures (rw e c.loop-i.invariant.1))

pub returns : goal.returns
unfolding times
returns c =
    let e : c.loop-i.i ≡ 0 = omega arith in
    rw e at c.loop-i.invariant.1 ∙ ap (times_low 8 c.args.x) (div-one c.args.y)
