-- `draw_square` draws rows, one module after the other.
-- Assumes nothing.
use Rattle.std.proofs.Common.{arith, ◌≤◌, ◌∙◌, refl}
use Rattle.patterns.specs.Shapes.{rows_start, cells_start, cells_next, cells_end, rows_next, rows_end}
use Rattle.patterns.specs.Painted.{from, also, next}
use Rattle.patterns.proofs.canvas.Canvas.draw_square.Goals as goal

pub loop-yy-init : goal.loop-yy-init
loop-yy-init g c = (refl, λ rule rules_it. from _ _ (rows_start _ _ _ _ _ _ _ c.saturating_sub-yy.ensures c.args.self.now.square))

pub loop-xx-init : goal.loop-xx-init
loop-xx-init g c = (refl, λ rule rules_it. from _ _ (cells_start _ _ _ _ _ _ _ _ c.saturating_sub-xx.ensures c.loop-yy.self.square))

pub set_function_module-requires : goal.set_function_module-requires
set_function_module-requires g c =
    let a = c.loop-yy.invariant.0 in
    let b = c.loop-xx.invariant.0 in
    (omega arith, omega arith)

pub loop-xx-preserved : goal.loop-xx-preserved
loop-xx-preserved g c =
    let near : c.max-dist.result ≤ c.args.r = omega arith in
    let d = c.set_function_module.ensures in (
      d.size ∙ c.loop-xx.invariant.0,
      λ rule rules_it.
          let e = c.loop-xx.invariant.1 rule rules_it in
          next _ _ _ _ _ _ e d (λ cells. cells_next _ _ _ _ _ _ _ _ _ _ _ _ e.cells cells (rules_it _ _ near c.isdark.ensures) (cc) near),
    )

pub loop-yy-preserved : goal.loop-yy-preserved
loop-yy-preserved g c =
    let a = c.loop-yy.invariant.0 in (
      c.loop-xx.invariant.0 ∙ c.loop-yy.invariant.0,
      λ rule rules_it.
          let e = c.loop-yy.invariant.1 rule rules_it in
          let d = c.loop-xx.invariant.1 rule rules_it in
          let row = also _ _ _ _ d (cells_end _ _ _ _ _ _ _ _ _ d.cells c.loop-yy.self.square (omega arith)) in
          next _ _ _ _ _ _ e row (rows_next _ _ _ _ _ _ _ _ _ e.cells),
    )

pub returns : goal.returns
returns g c =
    λ rule rules_it.
    let e = c.loop-yy.invariant.1 rule rules_it in
    also _ _ _ _ e (rows_end _ _ _ _ _ _ _ _ e.cells c.args.self.now.square (omega arith))
