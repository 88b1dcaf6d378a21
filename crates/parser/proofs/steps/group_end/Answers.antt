-- `parser::steps::group_end` meets its contract.
-- Assumes nothing.
use Rattle.std.proofs.lemmas.Result.{err_from_is_err_and}
use Rattle.segments.specs.Groups.{width_32}
use Rattle.parser.specs.CodeRuns.{group_cut, group_large, group_fine}
use Rattle.parser.proofs.steps.group_end.Goals as goal

pub field_at-requires : goal.field_at-requires
field_at-requires c = (width_32 _ _ _ c.width_of-w.ensures, c.requires.1, c.requires.2)

pub returns-in_err-x : goal.returns-in_err-x
returns-in_err-x c =
    let p = err_from_is_err_and c.from_residual.result c.from_residual.ensures.1 in
    rw (p.1, p.2) (group_cut _ _ _ _ _ c.requires.0 c.width_of-w.ensures c.requires.2 _ c.field_at.ensures _ c.in_err-x.was)

pub returns-then-limit_of-x : goal.returns-then-limit_of-x
returns-then-limit_of-x c = group_large _ _ _ _ _ c.requires.0 c.width_of-w.ensures c.requires.2 _ c.field_at.ensures _ _ c.in_ok-x.was c.limit_of.ensures c.if-limit_of-x.true

pub returns : goal.returns
returns c = group_fine _ _ _ _ _ c.requires.0 c.width_of-w.ensures c.requires.2 _ c.field_at.ensures _ _ c.in_ok-x.was c.limit_of.ensures c.if-limit_of-x.false
