-- `zigzag` walks along the path.
-- Assumes nothing.
use Rattle.std.proofs.Common.{rules}
use Rattle.modules.specs.Zigzag.{walk_none, pair_none, cell_next, walk_end, row_next, row_end, pair_next, walk_done}
use Rattle.modules.proofs.zigzag.zigzag.Goals as goal

pub loop-p-init : goal.loop-p-init
loop-p-init g c = λ f steps. search (pair_none, rules)

pub loop-vert-init : goal.loop-vert-init
loop-vert-init g c = λ f steps. search (walk_none, rules)

pub loop-j-init : goal.loop-j-init
loop-j-init g c = λ f steps. search (walk_none, rules)

pub loop-j-preserved : goal.loop-j-preserved
loop-j-preserved g c =
    λ f steps.
    let x = c.right_column-x.ensures in
    cell_next _ _ _ _ _ _ _ _ _ _ _ (c.loop-j.invariant f steps) (steps _ _ _ _ _ c.visit-i.ensures) c.place-at.ensures.0 x.0 x.1 c.row_of.ensures.0 (search rules) c.loop-j-test.true

pub loop-vert-preserved : goal.loop-vert-preserved
loop-vert-preserved g c =
    λ f steps. row_next _ _ _ _ _ _ _ (c.loop-vert.invariant f steps) (walk_end _ _ _ _ _ _ _ (c.loop-j.invariant f steps) (search rules) (search rules))

pub loop-p-preserved : goal.loop-p-preserved
loop-p-preserved g c =
    λ f steps. pair_next _ _ _ _ _ _ (c.loop-p.invariant f steps) (row_end _ _ _ _ _ _ (c.loop-vert.invariant f steps) (search rules) (search rules))

pub returns : goal.returns
returns g c = λ f steps. walk_done _ _ _ _ _ _ (c.loop-p.invariant f steps) (search rules) (search rules)
