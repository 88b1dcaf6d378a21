-- `packed::packing::pack_lines` meets its contract. Before a turn the lines passed are held.
-- Assumes nothing.
use mathlib.Core.Path.{◌∙◌}
use native.Mathlib.Omega.{arith}
use Rattle.packed.specs.Stored.{length_written}
use Rattle.packed.specs.Ways.{lines_next}
use Rattle.packed.proofs.packing.pack_lines.Goals as goal

pub loop-k-preserved : goal.loop-k-preserved
loop-k-preserved c =
    let a = c.args in let l = c.loop-k in let first = c.store.ensures in let second = c.store-in-loop-k.ensures in (
      omega arith,
      length_written _ _ _ _ _ _ _ _ _ _ first second ∙ l.invariant.1,
      lines_next a.way a.side l.k _ _ a.grid.now _ _ _ _ _ _ _ _ _ c.start-start.ensures c.step-step.ensures first second l.invariant.1 (omega arith)
          c.pack.ensures c.pack-in-loop-k.ensures l.invariant.2,
    )
