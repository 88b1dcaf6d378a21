-- `terminal::scan::halves`: one byte more, if it is one of them.
-- Assumes nothing.
use Rattle.std.proofs.Common.{rules, arith, sym, ◌∙◌}
use Rattle.terminal.specs.ScanLaws.{halves_start, halves_kept, halves_left, halves_end}
use Rattle.terminal.proofs.scan.halves.Goals as goal
use Rattle.terminal.proofs.scan.halves.Goals.{then-is_half, else-is_half}

pub loop-c-init : goal.loop-c-init
loop-c-init c = search (halves_start, rules)

pub loop-c-preserved : goal.loop-c-preserved
loop-c-preserved c =
    let t = c.args.text.now in
    let l = c.loop-c in
    let s = l.invariant.0 in
    elim c.if-is_half.branch [
      | then-is_half w ↦
          rw w.out-is
          ((halves_kept t _ _ _ _ _ _ l.c-index (sym c.is_half.ensures ∙ w.if-is_half.true) w.push.ensures.0 s.0 c.loop-c-test.true (omega arith), cc), omega arith)
      | else-is_half w ↦
          rw w.out-is ((halves_left t _ _ _ _ l.c-index (sym c.is_half.ensures ∙ w.if-is_half.false) s.0 c.loop-c-test.true, s.1), omega arith)
    ]

pub returns : goal.returns
returns c = search (halves_end, rules)
