-- `penalty::line_penalty` meets its contract. What is found and what is yet to come is what the line costs.
-- Assumes nothing.
use Rattle.penalty.specs.HistoryLaws.{second_fits}
use Rattle.penalty.specs.Lines.{along_at, along_lt}
use Rattle.penalty.specs.Scanned.{scan_start, scan_same, scan_other, scan_end, scan_le, line_in_range}
use mathlib.Core.Path.{refl}
use native.Mathlib.Omega.{arith}
use Rattle.std.proofs.Common.{rules}
use Rattle.penalty.proofs.line_penalty.Goals as goal
use Rattle.penalty.proofs.line_penalty.Goals.{then-color-runcolor, else-color-runcolor}

pub loop-i-init : goal.loop-i-init
loop-i-init c = search (scan_start, along_lt, rules)

pub overflow_mul-color : goal.overflow_mul-color
overflow_mul-color c = omega (arith, c.requires.2 c.loop-i.i (omega arith))

pub overflow_add-color : goal.overflow_add-color
overflow_add-color c = omega (arith, c.requires.2 c.loop-i.i (omega arith))

pub bounds-grid-start : goal.bounds-grid-start
bounds-grid-start c = c.requires.2 c.loop-i.i (omega arith)

pub overflow_add-run : goal.overflow_add-run
overflow_add-run c = omega arith

pub overflow_add-result : goal.overflow_add-result
overflow_add-result c = omega (arith, scan_le _ _ _ _ _ _ _ c.loop-i.invariant.1 (omega arith) (omega arith))

pub add_history-requires : goal.add_history-requires
add_history-requires c = omega arith

pub light_patterns-requires : goal.light_patterns-requires
light_patterns-requires c = second_fits _ _ _ _ c.add_history.ensures (omega arith)

pub overflow_add-result-else-color-runcolor : goal.overflow_add-result-else-color-runcolor
overflow_add-result-else-color-runcolor c = omega (arith, scan_le _ _ _ _ _ _ _ c.loop-i.invariant.1 (omega arith) (omega arith))

pub loop-i-preserved : goal.loop-i-preserved
loop-i-preserved c =
    let a = c.args in
    let l = c.loop-i in
    let v = along_at a.grid.now a.start a.step l.i in
    elim c.if-color-runcolor.branch [
      | then-color-runcolor w ↦ (
        omega arith,
        rw (w.result-is, w.runcolor-is, w.run-is, w.runhistory-is)
            (scan_same _ _ _ _ _ _ _ _ _ _ l.invariant.1 (omega arith) v w.if-color-runcolor.true refl w.growth-result.ensures.0),
      )
      | else-color-runcolor w ↦ (
        omega arith,
        rw (w.result-is, w.runcolor-is, w.run-is, w.runhistory-is)
            (scan_other _ _ _ _ _ _ _ _ _ _ _ l.invariant.1 (omega arith) v w.if-color-runcolor.false w.add_history.ensures w.light_patterns.ensures.0 refl),
      )
    ]

pub terminate_and_count-requires : goal.terminate_and_count-requires
terminate_and_count-requires c = omega arith

pub overflow_add-result-2 : goal.overflow_add-result-2
overflow_add-result-2 c = omega (arith, scan_le _ _ _ _ _ _ _ c.loop-i.invariant.1 (omega arith) (omega arith))

pub returns : goal.returns
returns c = let e = scan_end _ _ _ _ _ _ _ _ c.loop-i.invariant.1 (omega arith) c.terminate_and_count.ensures.0 in
    (e, line_in_range _ _ _ e (omega arith))
