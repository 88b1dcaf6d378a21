-- `penalty::FinderPenalty::terminate_and_count` meets its contract: what the pushed runs show is what the end of a line shows.
-- Assumes nothing.
use Rattle.penalty.specs.declared.FinderPenalty.{FinderPenalty}
use Rattle.penalty.specs.History.{pushed}
use Rattle.penalty.specs.HistoryLaws.{size_kept, second_fits, newest_fits, ended_dark, ended_light}
use Rattle.penalty.specs.Windows.{is}
use Rattle.std.proofs.Common.{◌+◌, ◌<◌, get_or, sym, ap, ◌∙◌, subst, arith}
use Rattle.penalty.proofs.FinderPenalty.terminate_and_count.Goals as goal
use Rattle.penalty.proofs.FinderPenalty.terminate_and_count.Goals.{then-currentruncolor, else-currentruncolor}

pub count_patterns-requires : goal.count_patterns-requires
count_patterns-requires c =
    let small = λ (p : FinderPenalty). get_or p.run_history 0 0 < 65536 in
    second_fits _ _ _ _ c.add_history-2.ensures (elim c.if-currentruncolor.branch [
      | then-currentruncolor w ↦ subst small (sym w.self-is) (newest_fits _ _ _ _ w.add_history.ensures (omega (arith, c.requires)))
      | else-currentruncolor w ↦ subst small (sym w.self-is) c.requires.1
    ])

pub returns : goal.returns
returns c =
    let p = c.args.self in let d = c.if-currentruncolor.self in let n = c.if-currentruncolor.currentrunlength in (
      elim c.if-currentruncolor.branch [
        | then-currentruncolor w ↦
            let e = w.self-is ∙ w.add_history.ensures in
            ended_dark p d _ _ _ _ w.if-currentruncolor.true e
            (c.add_history-2.ensures ∙ ap (pushed d) (is (n + d.qr_size) p.qr_size (omega (arith, w.currentrunlength-is, size_kept p d _ e)))) c.count_patterns.ensures.0
        | else-currentruncolor w ↦
            ended_light p _ _ _ _ w.if-currentruncolor.false (rw (w.self-is, w.currentrunlength-is) at c.add_history-2.ensures) c.count_patterns.ensures.0
      ],
      c.count_patterns.ensures.1,
    )
