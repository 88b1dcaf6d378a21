-- `parser::eci_number::eci_three` meets its contract.
-- Assumes nothing.
use Rattle.std.proofs.lemmas.Result.{err_from_is_err_and}
use Rattle.parser.specs.CodeSteps.{three_short, three_small, three_large, three_value}
use Rattle.parser.proofs.eci_number.eci_three.Goals.{then-z-lt16384-via-then-z-lt16384, then-z-lt16384-via-else-z-lt16384+then-z-gt999999}
use Rattle.parser.proofs.eci_number.eci_three.Goals as goal

pub returns-in_err-z : goal.returns-in_err-z
returns-in_err-z c =
    let p = err_from_is_err_and c.from_residual.result c.from_residual.ensures.1 in
    rw (p.1, p.2) (three_short _ _ _ c.field_at.ensures _ c.in_err-z.was)

pub returns-then-z-lt16384 : goal.returns-then-z-lt16384
returns-then-z-lt16384 c =
    elim c.then-z-lt16384.branch [
      | then-z-lt16384-via-then-z-lt16384 w ↦ three_small _ _ _ c.field_at.ensures _ c.in_ok-z.was w.if-z-lt16384.true
      | then-z-lt16384-via-else-z-lt16384+then-z-gt999999 w ↦ three_large _ _ _ c.field_at.ensures _ c.in_ok-z.was w.if-z-lt16384.false w.if-z-gt999999.true
    ]

pub returns : goal.returns
returns c = three_value _ _ _ c.field_at.ensures _ c.in_ok-z.was c.if-z-lt16384.false c.if-z-gt999999.false
