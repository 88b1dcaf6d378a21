-- `choice::choose_best`: the best of the first i candidates is msk.
-- Assumes nothing.
use Rattle.standard.specs.Sizes.{side}
use Rattle.types.specs.Numbers.{level_of}
use Rattle.packed.specs.Stored.{HeldRows, HeldColumns}
use Rattle.choice.specs.Candidates.{Scored}
use Rattle.choice.proofs.choose_best.Given as goal

abbrev pub invariant-loop-i : goal.invariant-loop-i
invariant-loop-i l =
    Scored l.ver.value (level_of l.ecl) l.fn.grid l.grid l.i l.msk.value l.minpenalty × HeldRows (side l.ver.value) l.grid l.rows × HeldColumns (side l.ver.value) l.grid l.columns
