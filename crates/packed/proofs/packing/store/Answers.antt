-- `packed::packing::store` meets its contract.
-- Assumes nothing.
use mathlib.Core.Path.{refl}
use native.Mathlib.Omega.{arith}
use lib.ListN.{length-set}
use Rattle.packed.specs.Stored.{put}
use Rattle.packed.proofs.packing.store.Goals as goal

pub bounds-words-p-2 : goal.bounds-words-p-2
bounds-words-p-2 c = omega (arith, length-set c.args.words.now c.args.p c.args.line.a)

pub returns : goal.returns
unfolding put
returns c = refl
