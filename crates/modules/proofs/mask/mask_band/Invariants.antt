-- `mask_band` lays the rows over as many modules.
-- Assumes nothing.
use Rattle.std.proofs.Common.{◌≡◌, get_or}
use Rattle.laws.specs.Each.{each_done}
use Rattle.modules.specs.MaskRows.{inverted}
use Rattle.modules.proofs.mask.mask_band.Given as goal

abbrev pub invariant-loop-k : goal.invariant-loop-k
invariant-loop-k l = l.grid ≡ each_done l.k (λ i v. inverted (get_or l.rows i 0) v) l.initial.grid
