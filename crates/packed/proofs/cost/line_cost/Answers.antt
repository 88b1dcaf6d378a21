-- `packed::cost::line_cost` meets its contract.
-- Assumes nothing.
use native.Mathlib.Omega.{arith}
use Rattle.std.proofs.Common.{rules}
use Rattle.packed.specs.Whole.{light_zone, line_parts, line_small}
use Rattle.packed.proofs.cost.line_cost.Goals as goal

pub none_larger-requires : goal.none_larger-requires
none_larger-requires g c = (search rules, search (light_zone, rules))

pub unit_cores-requires : goal.unit_cores-requires
unit_cores-requires g c = (search rules, search (light_zone, rules))

pub returns-then-none_larger : goal.returns-then-none_larger
returns-then-none_larger g c =
    let n = c.none_larger.ensures c.if-none_larger.true in
    let e = line_parts _ _ _ _ _ _ c.requires.0 c.requires.2 c.after.ensures c.run_cost.ensures.0 c.unit_cores.ensures.0 (omega arith) n in
    (e, line_small _ _ _ e (omega arith))
