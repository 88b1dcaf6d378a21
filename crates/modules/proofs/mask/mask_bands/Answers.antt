-- `mask_bands` lays the rows over the grid, again and again.
-- Assumes nothing.
use Rattle.std.proofs.Common.{rules}
use Rattle.laws.specs.Each.{each_start, each_end}
use Rattle.modules.specs.MaskRows.{bands_start, bands_next, bands_last, bands_turn}
use Rattle.modules.proofs.mask.mask_bands.Goals as goal

pub loop-at-init : goal.loop-at-init
loop-at-init c = (search (each_start, rules), search (bands_start, rules))

pub loop-at-preserved : goal.loop-at-preserved
loop-at-preserved c =
    let l = c.loop-at in
    (bands_next _ _ _ _ _ _ _ (search rules) l.invariant.0 (search rules) l.invariant.1 c.min-end.ensures c.mask_band.ensures, bands_turn _ _ l.invariant.1)

pub returns : goal.returns
returns c = search (each_end, rules)

pub returns-2 : goal.returns-2
returns-2 c =
    let l = c.loop-at in
    bands_last _ _ _ _ _ _ (search rules) l.invariant.0 (search rules) l.invariant.1 c.min-end.ensures c.mask_band.ensures
