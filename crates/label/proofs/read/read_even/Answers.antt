-- `label::read::read_even` meets its contract.
-- Assumes nothing.
use Rattle.std.proofs.Common.{rules}
use Rattle.terminal.specs.ScanLaws.{area_fits, area_in, part_in}
use Rattle.label.proofs.read.read_even.Goals as goal

pub overflow_mul-area : goal.overflow_mul-area
overflow_mul-area g c = record { fits = search (area_fits, rules) }

pub slice_bounds-modules-end : goal.slice_bounds-modules-end
slice_bounds-modules-end g c = search (area_in, rules)

pub rows-requires : goal.rows-requires
rows-requires g c = (search rules, search (part_in, rules))
