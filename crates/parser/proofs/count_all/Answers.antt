-- `parser::count_all` meets its contract.
-- Assumes nothing.
use native.Mathlib.Omega.{arith}
use Rattle.std.specs.Prelude.{Ok}
use Rattle.std.proofs.Common.{ap, ◌∙◌}
use Rattle.std.proofs.lemmas.Result.{err_from_is_err_and}
use Rattle.parser.specs.Steps.{step_of}
use Rattle.parser.specs.Counts.{count_start, count_next, count_end, count_bad, end_read, end_bad, found_high, found_less, found_records, found_text, found_fits}
use Rattle.parser.proofs.count_all.Goals as goal

pub loop-seg-init : goal.loop-seg-init
loop-seg-init c = (count_start _ _, omega arith, omega arith, omega arith)

pub returns-in_err-seg : goal.returns-in_err-seg
returns-in_err-seg c =
    let p = err_from_is_err_and c.from_residual.result c.from_residual.ensures.1 in
    let l = c.loop-seg in
    rw (p.1, p.2) (count_bad _ _ _ l.at l.records l.text _ l.invariant.0 c.step_at.ensures l.invariant.2 l.invariant.1 _ (ap step_of c.in_err-seg.was))

pub overflow_add-text : goal.overflow_add-text
overflow_add-text c =
    let l = c.loop-seg in
    record { fits = found_fits _ _ _ _ _ _ _ _ _ c.step_at.ensures (ap step_of (c.in_ok-seg.was ∙ ap (λ o. Ok o) c.in-Some.is)) l.records l.text l.invariant.3 l.invariant.2 l.invariant.1 c.requires }

pub loop-seg-smaller : goal.loop-seg-smaller
loop-seg-smaller c = found_less _ _ _ _ _ _ _ _ _ c.step_at.ensures (ap step_of (c.in_ok-seg.was ∙ ap (λ o. Ok o) c.in-Some.is))

pub loop-seg-preserved : goal.loop-seg-preserved
loop-seg-preserved c =
    let l = c.loop-seg in
    let is = c.step_at.ensures in
    let was = ap step_of (c.in_ok-seg.was ∙ ap (λ o. Ok o) c.in-Some.is) in
    (count_next _ _ _ l.at l.records l.text _ l.invariant.0 is l.invariant.2 l.invariant.1 _ _ _ _ _ was, found_high _ _ _ _ _ _ _ _ _ is was, found_records _ _ _ _ _ _ _ _ _ is was _ l.invariant.2, found_text _ _ _ _ _ _ _ _ _ is was _ _ l.invariant.3)

pub returns-in_err-tail_at : goal.returns-in_err-tail_at
returns-in_err-tail_at c =
    let p = err_from_is_err_and c.from_residual-in_err-tail_at.result c.from_residual-in_err-tail_at.ensures.1 in
    let l = c.loop-seg in
    rw (p.1, p.2) (count_end _ _ _ l.at l.records l.text _ l.invariant.0 c.step_at.ensures l.invariant.2 l.invariant.1 _ (ap step_of (c.in_ok-seg.was ∙ ap (λ o. Ok o) c.in_default.is))
    (end_bad _ _ _ _ _ _ c.tail_at.ensures c.in_err-tail_at.was))

pub returns : goal.returns
returns c =
    let l = c.loop-seg in
    count_end _ _ _ l.at l.records l.text _ l.invariant.0 c.step_at.ensures l.invariant.2 l.invariant.1 _ (ap step_of (c.in_ok-seg.was ∙ ap (λ o. Ok o) c.in_default.is))
    (end_read _ _ _ _ _ _ c.tail_at.ensures c.in_ok-tail_at.was)
