-- `draw_timing` draws column 6 and row 6.
-- Assumes nothing.
use Rattle.std.proofs.Common.{rules, arith, refl}
use Rattle.laws.specs.Marks.{twins_start, twins_next}
use Rattle.patterns.specs.FinderLayer.{timing_module_lem, timing_end}
use Rattle.patterns.specs.Painted.{from, also, next}
use Rattle.patterns.proofs.canvas.Canvas.draw_timing.Goals as goal

pub loop-i-init : goal.loop-i-init
loop-i-init c = from _ _ (twins_start _ _ _ _ _ c.args.self.now.square)

pub set_twin_modules-requires : goal.set_twin_modules-requires
set_twin_modules-requires c = let size = c.loop-i.invariant.size in (omega arith, omega arith)

pub loop-i-preserved : goal.loop-i-preserved
loop-i-preserved c =
    let e = c.loop-i.invariant in
    next _ _ _ _ _ _ e c.set_twin_modules.ensures (λ d. twins_next _ _ _ _ _ _ _ _ _ _ _ e.cells d refl refl (timing_module_lem _))

pub returns : goal.returns
returns c =
    let e = c.loop-i.invariant in
    also _ _ _ _ e (timing_end _ _ _ _ e.cells c.args.self.now.square (search rules) (search rules) (search rules))
