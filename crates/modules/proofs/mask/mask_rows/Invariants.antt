-- `mask_rows` works out twelve rows of the mask.
-- Assumes nothing.
use Rattle.std.proofs.Common.{◌≡◌, ◌*◌}
use Rattle.laws.specs.Each.{each_done}
use Rattle.modules.specs.MaskRows.{in_row}
use Rattle.modules.proofs.mask.mask_rows.Given as goal

abbrev pub invariant-loop-y : goal.invariant-loop-y
invariant-loop-y l = l.rows ≡ each_done (l.y * l.size) (in_row l.mask.value l.size) l.initial.rows
