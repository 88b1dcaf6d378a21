-- `encoder::plan::plan_fit` meets its contract.
-- Assumes nothing.
use Rattle.std.proofs.Common.{ℕ, sym, ap, ◌∙◌, ◌+◌}
use native.Mathlib.Omega.{arith}
use Rattle.encoder.specs.Search.{none_here, none_last, found_room, found_last}
use Rattle.encoder.proofs.plan.plan_fit.Goals as goal

pub returns-then-value : goal.returns-then-value
returns-then-value c = none_last _ _ _ _ _ c.loop-bits.invariant _ _ (sym c.in-Err.is ∙ c.fit_at.ensures) (omega arith)

pub loop-bits-preserved : goal.loop-bits-preserved
loop-bits-preserved c =
    none_here _ _ _ _ _ c.loop-bits.invariant _ (sym c.in-Err.is ∙ c.fit_at.ensures) (omega arith) _ (c.version_at-version.ensures ∙ ap (λ (n : ℕ). n + 1) c.value-in-Err-2.ensures)

pub plan_at-requires : goal.plan_at-requires
plan_at-requires c = found_room _ _ _ _ _ c.loop-bits.invariant _ (sym c.in-Ok.is ∙ c.fit_at.ensures)

pub returns : goal.returns
returns c =
    let p = c.plan_at.ensures in
    found_last _ _ _ _ _ c.loop-bits.invariant _ (sym c.in-Ok.is ∙ c.fit_at.ensures) _ _ _ _ p.0 p.1 p.2
