-- `choice::mask_for` meets its contract.
-- Assumes nothing.
use mathlib.Core.Path.{refl}
use native.Mathlib.Omega.{arith}
use Rattle.choice.specs.Candidates.{named}
use Rattle.choice.proofs.mask_for.Goals as goal

pub returns-in-Some : goal.returns-in-Some
returns-in-Some c = rw c.in-Some.is (named _ _ _ _ _ (omega arith) refl)

pub returns-in-None : goal.returns-in-None
returns-in-None c = rw c.in-None.is c.choose_mask.ensures
