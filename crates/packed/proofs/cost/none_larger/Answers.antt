-- `packed::cost::none_larger` meets its contract.
-- Assumes nothing.
use lib.Bits.{bit_or}
use mathlib.Core.Path.{sym, ap, ◌∙◌}
use Rattle.packed.specs.Joined.{none_found}
use Rattle.packed.proofs.cost.none_larger.Goals as goal

pub returns : goal.returns
returns g c = λ e.
    let number = g.L.Strip.number in
    none_found c.args.side (number c.args.x) (number c.args.y) c.requires.0 c.requires.1
    c.join-l2.ensures c.join-l3.ensures c.join-l4.ensures c.join-d2.ensures c.join-d3.ensures c.join-d6.ensures c.join-d9.ensures c.join-d12.ensures c.join-p4.ensures c.join-p6.ensures c.join-p12.ensures c.join-p18.ensures c.join-t6.ensures c.join-t9.ensures c.join-t18.ensures c.join-t27.ensures c.join-q16.ensures
    (sym (c.or-2.ensures ∙ ap (bit_or (number c.join-p18.result)) c.or.ensures) ∙ c.is_light.ensures.0 e)
