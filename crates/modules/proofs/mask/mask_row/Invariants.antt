-- `mask_row` works out six places, and makes each later place like the one six before it.
-- Assumes nothing.
use Rattle.std.proofs.Common.{◌≡◌}
use Rattle.laws.specs.Each.{each_done}
use Rattle.modules.specs.MaskRows.{on_row, again}
use Rattle.modules.proofs.mask.mask_row.Given as goal

abbrev pub invariant-loop-x : goal.invariant-loop-x
invariant-loop-x l = l.row ≡ each_done l.x (on_row l.mask.value l.y) l.initial.row

abbrev pub invariant-loop-x-2 : goal.invariant-loop-x-2
invariant-loop-x-2 l = l.row ≡ each_done l.x (again l.initial.row) l.initial.row
