-- `packed::cost::unpack` meets its contract. Before a turn the modules that were passed are written.
-- Assumes nothing.
use mathlib.Core.Path.{◌∙◌}
use native.Mathlib.Omega.{arith}
use Rattle.std.proofs.Common.{rules}
use lib.ListN.{length-set}
use Rattle.packed.specs.Frame.{unpacked_next, unpacked_end, rest_next}
use Rattle.packed.proofs.cost.unpack.Goals as goal

pub loop-module-preserved : goal.loop-module-preserved
loop-module-preserved g c =
    let number = g.L.Strip.number in
    let a = c.args in let l = c.loop-module in (
      unpacked_next (number a.x) _ _ (number l.rest) _ _ _ l.invariant.0 l.invariant.1 l.invariant.2 (omega arith) c.first.ensures,
      rest_next (number a.x) _ _ _ l.invariant.1 c.after-rest.ensures,
      l.invariant.2,
      omega arith,
      length-set l.module-items l.module-index _ ∙ l.invariant.4,
    )

pub returns : goal.returns
returns g c = search (unpacked_end, rules)
