-- `field::reed_solomon_compute_remainder` meets its contract.
-- Assumes nothing.
use mathlib.Core.Path.{ap, ◌∙◌}
use native.Mathlib.Omega.{arith}
use lib.ListN.{length, take}
use lib.Seq.{take_all}
use Rattle.standard.specs.Field.{remainder}
use Rattle.field.specs.Division.{length_remainder}
use Rattle.field.specs.Multiples.{divide_start, divide_turn, alike_part}
use Rattle.field.proofs.reed_solomon_compute_remainder.Goals as goal

pub loop-b-init : goal.loop-b-init
loop-b-init c = divide_start c.args.divisor.now.coefficients.now c.args.«data».now

pub loop-b-preserved : goal.loop-b-preserved
loop-b-preserved c =
    let g = c.args.divisor.now in
    divide_turn g.coefficients.now c.args.«data».now g.low g.high c.loop-b.rest c.divide_step.new.rest c.loop-b.b-index
    c.loop-b.invariant c.divide_step.ensures g.tables (omega arith) (omega arith)
    g.bytes (λ i. (c.type_inv.data i).fits) (omega arith)

pub returns : goal.returns
returns c =
    let g = c.args.divisor.now.coefficients.now in
    let p = c.args.«data».now in
    c.copy_from_slice.ensures.after
    ∙ alike_part c.loop-b.rest (remainder g (take c.loop-b.b-index p)) (length g) c.loop-b.invariant (length_remainder g (take c.loop-b.b-index p)) (omega arith)
    ∙ ap (remainder g) (take_all c.loop-b.b-index p (omega arith))
