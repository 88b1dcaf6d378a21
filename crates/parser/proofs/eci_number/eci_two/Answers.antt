-- `parser::eci_number::eci_two` meets its contract.
-- Assumes nothing.
use Rattle.std.proofs.lemmas.Result.{err_from_is_err_and}
use Rattle.parser.specs.CodeSteps.{two_short, two_small, two_value}
use Rattle.parser.proofs.eci_number.eci_two.Goals as goal

pub returns-in_err-y : goal.returns-in_err-y
returns-in_err-y c =
    let p = err_from_is_err_and c.from_residual.result c.from_residual.ensures.1 in
    rw (p.1, p.2) (two_short _ _ _ c.field_at.ensures _ c.in_err-y.was)

pub returns-then-y-lt128 : goal.returns-then-y-lt128
returns-then-y-lt128 c = two_small _ _ _ c.field_at.ensures _ c.in_ok-y.was c.if-y-lt128.true

pub returns : goal.returns
returns c = two_value _ _ _ c.field_at.ensures _ c.in_ok-y.was c.if-y-lt128.false
