-- `read_level` reads the level.
-- Assumes nothing.
use native.Mathlib.Omega.{arith}
use Rattle.std.proofs.Common.{rules}
use Rattle.modules.specs.FormatBack.{data_small, level_is}
use Rattle.patterns.specs.Everything.{square_is}
use Rattle.modules.proofs.read.read_level.Goals as goal

pub format_data-bits-requires : goal.format_data-bits-requires
format_data-bits-requires c = record { square = square_is _ _ _ c.size_of-size.ensures (search rules); le_size = search rules }

pub level_of-requires : goal.level_of-requires
level_of-requires c = omega (arith, data_small _ _ _ c.format_data-bits.ensures)

pub returns : goal.returns
returns c = search (level_is, rules)
