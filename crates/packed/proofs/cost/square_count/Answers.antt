-- `packed::cost::square_count` meets its contract.
-- Assumes nothing.
use mathlib.Core.Path.{◌≡◌, ◌∙◌}
use Prim.Native.Nat.{◌/◌}
use native.Mathlib.Omega.{arith}
use lib.Count.{ones}
use Rattle.packed.specs.Cost.{without}
use Rattle.packed.specs.Squares.{uneven}
use Rattle.packed.specs.Whole.{squares_of_lem}
use Rattle.packed.proofs.cost.square_count.Goals as goal

pub returns : goal.returns
unfolding uneven
returns g c =
    let r = c.args in let p = c.requires in let number = g.L.Strip.number in
    let e : c.count.result ≡ ones (without (number r.m) (uneven (number r.x / 16) (number r.y / 16))) = cc in
    (e ∙ squares_of_lem r.side (number r.x) (number r.y) (number r.m) p.0 p.1 p.2, omega arith)
