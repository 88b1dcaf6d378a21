-- `field::multiples` meets its contract.
-- Assumes nothing.
use mathlib.Core.Path.{refl, ap, ◌∙◌}
use native.Mathlib.Omega.{arith}
use Rattle.field.specs.Multiples.{multiples_of, multiples_padded, padded_turn, padded_end, row_start, rows_end, wide_written}
use Rattle.field.proofs.multiples.Goals as goal

pub loop-x-init : goal.loop-x-init
loop-x-init c = wide_written c.args.divisor.now c.copy_from_slice.new.self c.copy_from_slice.ensures.after c.requires

pub loop-x-preserved : goal.loop-x-preserved
loop-x-preserved c =
    let a = c.args in
    let t = c.loop-x in
    padded_turn a.c a.divisor.now t.x-items t.x-index c.reed_solomon_multiply.result t.invariant c.requires (omega arith) c.reed_solomon_multiply.ensures

pub loop-n-init : goal.loop-n-init
loop-n-init c = (refl, row_start c.loop-x.x-items)

pub returns : goal.returns
returns c =
    let a = c.args in
    let b = c.loop-x in
    let t = c.loop-n in
    rows_end b.x-items t.rows t.n t.invariant.0 (omega arith) (omega arith) t.invariant.1
    ∙ ap multiples_of (padded_end a.c a.divisor.now b.x-items b.x-index b.invariant c.requires (omega arith)) ∙ multiples_padded a.c a.divisor.now
