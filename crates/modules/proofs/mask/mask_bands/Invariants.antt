-- `mask_bands` lays the rows over the grid, again and again.
-- Assumes nothing.
use Rattle.std.proofs.Common.{◌≡◌, ◌%◌, length}
use Rattle.laws.specs.Each.{each_done}
use Rattle.modules.specs.MaskRows.{under}
use Rattle.modules.proofs.mask.mask_bands.Given as goal

abbrev pub invariant-loop-at : goal.invariant-loop-at
invariant-loop-at l = (l.grid ≡ each_done l.at (under l.rows) l.initial.grid) × (l.at % length l.rows ≡ 0)
