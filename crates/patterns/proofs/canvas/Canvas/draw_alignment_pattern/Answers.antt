-- `draw_alignment_pattern` draws the square of five, row by row.
-- Assumes nothing.
use Rattle.std.proofs.Common.{◌+◌, ◌-◌, ◌≡◌, ◌≤◌, not, eqb, arith, refl}
use Rattle.patterns.specs.Shapes.{square, alignment_square, shifted, rows_start, cells_start, cells_next, cells_end, rows_next, rows_end}
use Rattle.patterns.specs.Painted.{from, also, next}
use Rattle.patterns.proofs.canvas.Canvas.draw_alignment_pattern.Goals as goal

pub loop-dy-init : goal.loop-dy-init
loop-dy-init c = from _ _ (rows_start _ _ _ _ _ _ _ (omega arith) c.args.self.now.square)

pub loop-dx-init : goal.loop-dx-init
loop-dx-init c = from _ _ (cells_start _ _ _ _ _ _ _ _ (omega arith) c.loop-dy.self.square)

pub loop-dx-preserved : goal.loop-dx-preserved
loop-dx-preserved c =
    let dx = c.loop-dx.dx in
    let dy = c.loop-dy.dy in
    let near : c.max-dist.result ≤ 2 = omega arith in
    let px = shifted c.args.x dx c.requires.0 in
    let py = shifted c.args.y dy c.requires.1 in
    let e = c.loop-dx.invariant in
    let d = c.set_function_module.ensures in
    let k : c.args.x + (dx + 1) - 2 ≡ c.args.x + dx - 2 + 1 = omega arith in
    rw k (next _ _ _ _ _ _ e d (λ cells. cells_next _ _ _ _ _ _ _ _ _ _ _ _ e.cells cells refl (cc) near))

pub loop-dy-preserved : goal.loop-dy-preserved
loop-dy-preserved c =
    let e = c.loop-dy.invariant in
    let d = c.loop-dx.invariant in
    let row = also _ _ _ _ d (cells_end _ _ _ _ _ _ _ _ _ d.cells c.loop-dy.self.square (omega arith)) in
    let k : c.args.y + (c.loop-dy.dy + 1) - 2 ≡ c.args.y + c.loop-dy.dy - 2 + 1 = omega arith in
    rw k (next _ _ _ _ _ _ e row (rows_next _ _ _ _ _ _ _ _ _ e.cells))

pub returns : goal.returns
unfolding square alignment_square
returns c = let e = c.loop-dy.invariant in also _ _ _ _ e (rows_end _ _ (λ d. not (eqb d 1)) _ _ _ _ _ e.cells c.args.self.now.square (omega arith))
