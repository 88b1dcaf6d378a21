-- `penalty::FinderPenalty::add_history` meets its contract.
-- Assumes nothing.
use Rattle.penalty.specs.HistoryLaws.{push_first, push_next}
use Rattle.std.proofs.Common.{arith}
use Rattle.penalty.proofs.FinderPenalty.add_history.Goals as goal
use Rattle.penalty.proofs.FinderPenalty.add_history.Goals.{then-newest-eq0, else-newest-eq0}

pub returns : goal.returns
returns c =
    let p = c.args.self.now in
    let r = c.args.currentrunlength in
    let n = c.if-newest-eq0.currentrunlength in
    elim c.if-newest-eq0.branch [
      | then-newest-eq0 w ↦ push_first p r n w.if-newest-eq0.true (omega (arith, w.currentrunlength-is))
      | else-newest-eq0 w ↦ push_next p r n w.if-newest-eq0.false (omega (arith, w.currentrunlength-is))
    ]
