-- `parser::eci_number::eci_at` meets its contract.
-- Assumes nothing.
use native.Mathlib.Omega.{arith}
use Rattle.std.proofs.lemmas.Result.{err_from_is_err_and}
use Rattle.parser.specs.CodeSteps.{eci_short, eci_one, eci_two_lem, eci_three_lem, eci_other}
use Rattle.parser.proofs.eci_number.eci_at.Goals as goal

pub returns-in_err-x : goal.returns-in_err-x
returns-in_err-x c =
    let p = err_from_is_err_and c.from_residual.result c.from_residual.ensures.1 in
    rw (p.1, p.2) (eci_short _ _ _ c.field_at.ensures _ c.in_err-x.was)

pub returns-in-0-to-127 : goal.returns-in-0-to-127
returns-in-0-to-127 c = eci_one _ _ _ c.field_at.ensures _ c.in_ok-x.was (omega arith)

pub returns-in-128-to-191 : goal.returns-in-128-to-191
returns-in-128-to-191 c = eci_two_lem _ _ _ c.field_at.ensures _ _ c.in_ok-x.was (omega arith) (omega arith) c.eci_two.ensures

pub returns-in-192-to-223 : goal.returns-in-192-to-223
returns-in-192-to-223 c = eci_three_lem _ _ _ c.field_at.ensures _ _ c.in_ok-x.was (omega arith) (omega arith) c.eci_three.ensures

pub returns-in_default : goal.returns-in_default
returns-in_default c = eci_other _ _ _ c.field_at.ensures _ c.in_ok-x.was (omega arith)
