-- `parser::steps::groups_end` meets its contract: the groups that are left end where all of them end.
-- Assumes nothing.
use native.Mathlib.Omega.{arith}
use Rattle.std.proofs.lemmas.Result.{err_from_is_err_and}
use Rattle.parser.specs.CodeRuns.{left_small, runs_start, runs_cut, runs_next, runs_high, runs_last}
use Rattle.parser.proofs.steps.groups_end.Goals as goal

pub loop-init : goal.loop-init
loop-init c = (runs_start _ _ _ _ _, c.requires.1, omega arith)

pub group_end-requires : goal.group_end-requires
group_end-requires c = (omega arith, c.requires.0, c.loop.invariant.1)

pub returns-in_err-p : goal.returns-in_err-p
returns-in_err-p c =
    let p = err_from_is_err_and c.from_residual.result c.from_residual.ensures.1 in
    rw (p.1, p.2) (runs_cut _ _ _ _ _ _ _ c.size_of-m.ensures c.loop.invariant.0 c.loop-test.true _ c.group_end.ensures _ c.in_err-p.was)

pub loop-preserved : goal.loop-preserved
loop-preserved c =
    let em = c.size_of-m.ensures in
    let inv = c.loop.invariant.0 in
    (runs_next _ _ _ _ _ _ _ em inv c.loop-test.true _ c.group_end.ensures _ c.in_ok-p.was, runs_high _ _ _ _ _ _ _ em inv c.loop-test.true _ c.group_end.ensures _ c.in_ok-p.was, omega arith)

pub group_end-requires-2 : goal.group_end-requires-2
group_end-requires-2 c = (omega (arith, left_small _ c.size_of-m.result c.args.count c.size_of-m.ensures), c.requires.0, c.loop.invariant.1)

pub returns : goal.returns
returns c = runs_last _ _ _ _ _ _ _ c.size_of-m.ensures c.loop.invariant.0 c.loop.invariant.2 c.loop-test.false _ c.group_end-2.ensures
