-- `capacity::get_alignment_pattern_positions` meets its contract: version 1 has no positions.
-- Assumes nothing.
use Rattle.capacity.specs.Positions.{none}
use Rattle.std.proofs.Common.{rules}
use Rattle.capacity.proofs.get_alignment_pattern_positions.Goals as goal

pub returns-then-v-eq1 : goal.returns-then-v-eq1
returns-then-v-eq1 c = none _ _ c.value-v.ensures (search rules)
