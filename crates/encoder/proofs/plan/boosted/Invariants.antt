-- `encoder::plan::boosted`: the level after the first levels were tried.
-- Assumes nothing.
use Rattle.std.proofs.Common.{◌≡◌}
use Rattle.types.specs.Numbers.{level_of}
use Rattle.encoder.specs.Planning.{raised}
use Rattle.encoder.proofs.plan.boosted.Given as goal

abbrev pub invariant-loop-newecl : goal.invariant-loop-newecl
invariant-loop-newecl l = level_of l.ecl ≡ raised l.ver.value l.datausedbits (level_of l.fn.ecl) l.newecl-index
