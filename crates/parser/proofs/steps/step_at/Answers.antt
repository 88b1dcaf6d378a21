-- `parser::steps::step_at` meets its contract.
-- Assumes nothing.
use native.Mathlib.Omega.{arith}
use Rattle.parser.specs.CodeSteps.{some_found, step_short, step_none, step_digits, step_pairs, step_bytes, step_eci, step_other}
use Rattle.parser.proofs.steps.step_at.Goals as goal

pub returns-then-buf-at : goal.returns-then-buf-at
returns-then-buf-at c = step_short _ _ _ c.if-buf-at.true

pub returns-in-0 : goal.returns-in-0
returns-in-0 c = step_none _ _ _ _ c.read_bits.ensures c.if-buf-at.false c.in-0.is

pub returns-in-1 : goal.returns-in-1
returns-in-1 c = some_found _ _ _ c.map.ensures.cases (step_digits _ _ _ _ _ c.text_step.ensures c.read_bits.ensures c.if-buf-at.false c.in-1.is)

pub returns-in-2 : goal.returns-in-2
returns-in-2 c = some_found _ _ _ c.map-in-2.ensures.cases (step_pairs _ _ _ _ _ c.text_step-in-2.ensures c.read_bits.ensures c.if-buf-at.false c.in-2.is)

pub returns-in-4 : goal.returns-in-4
returns-in-4 c = some_found _ _ _ c.map-in-4.ensures.cases (step_bytes _ _ _ _ _ c.text_step-in-4.ensures c.read_bits.ensures c.if-buf-at.false c.in-4.is)

pub returns-in-7 : goal.returns-in-7
returns-in-7 c = some_found _ _ _ c.map-in-7.ensures.cases (step_eci _ _ _ _ _ c.eci_step.ensures c.read_bits.ensures c.if-buf-at.false c.in-7.is)

pub returns-in_default : goal.returns-in_default
returns-in_default c =
    step_other _ _ _ _ c.read_bits.ensures c.if-buf-at.false (λ e. omega arith) (λ e. omega arith) (λ e. omega arith) (λ e. omega arith) (λ e. omega arith)
