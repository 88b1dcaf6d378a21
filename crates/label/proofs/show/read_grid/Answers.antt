-- `label::show::read_grid` meets the contracts of what it calls: the records that were read fit their room, and name parts of the text.
-- Assumes nothing.
use Rattle.std.proofs.Common.{arith}
use Rattle.records.proofs.Within.{read_fits}
use Rattle.label.proofs.show.read_grid.Goals as goal

pub tell_segments-requires : goal.tell_segments-requires
tell_segments-requires g c =
    let p = read_fits _ _ _ _ _ _ _ _ _ c.read-answer.ensures in (
      omega (arith, p.0, c.read-answer.auto.records),
      (λ i h. p.1 i (omega (arith, h))),
      omega (arith, c.read-answer.auto.text),
    )
