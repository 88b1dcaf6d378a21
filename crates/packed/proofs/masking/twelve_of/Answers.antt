-- `packed::masking::twelve_of` meets its contract.
-- Assumes nothing.
use mathlib.Core.Path.{refl}
use native.Mathlib.Nat.{mod-lt, zero-lt-suc}
use Rattle.packed.specs.Masks.{twelve, mask_table}
use Rattle.packed.proofs.masking.twelve_of.Goals as goal

pub returns : goal.returns
unfolding twelve mask_table
returns c = (refl, mod-lt _ (zero-lt-suc 4095))
