-- `packed::cost::unit_cores` meets its contract.
-- Assumes nothing.
use native.Mathlib.Omega.{arith}
use Rattle.packed.specs.Joined.{unit_found}
use Rattle.packed.proofs.cost.unit_cores.Goals as goal

pub returns : goal.returns
returns g c =
    let number = g.L.Strip.number in (
      unit_found c.args.side (number c.args.x) (number c.args.y) c.requires.0 c.requires.1
          c.join-l2.ensures c.join-l4.ensures c.join-d2.ensures c.join-d3.ensures c.join-p2.ensures c.join-p5.ensures c.join-p6.ensures c.join-core.ensures c.join-p8.ensures c.join-a.ensures c.join-p11.ensures c.join-b.ensures
          c.count.ensures.0 c.count-2.ensures.0,
      omega (arith, c.count.ensures.1, c.count-2.ensures.1),
    )
