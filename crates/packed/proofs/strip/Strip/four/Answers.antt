-- `packed::strip::Strip::four` meets its contract.
-- Assumes nothing.
use lib.Pow.{shr-shr}
use Rattle.packed.specs.Cost.{four, two}
use Rattle.packed.proofs.strip.Strip.four.Goals as goal

pub returns : goal.returns
unfolding four two
returns g c = cc (shr-shr (g.Self.Strip.number c.or-two.result) 1 1)
