-- `draw_function_patterns` draws all function modules of the definition.
-- Assumes nothing.
use Rattle.std.proofs.Common.{rules, refl, ◌∙◌}
use Rattle.standard.specs.Sizes.{side}
use Rattle.patterns.specs.Everything.{all_drawn}
use Rattle.patterns.proofs.draw_function_patterns.Goals as goal

pub returns : goal.returns
returns c =
    let n = c.new-canvas.ensures in
    let t = c.draw_timing.ensures in
    let f = c.draw_finders.ensures in
    let a = c.draw_alignment_patterns.ensures in
    let m = c.draw_format.ensures in
    let v = c.draw_version.ensures in
    let kt = t.size ∙ n.size in
    let kf = f.size ∙ kt in
    let ka = a.size ∙ kf in
    let km = m.size ∙ ka in
    let whole =
    all_drawn _ _ _ _ _ _ _ _ (side c.args.ver.value) c.args.ver.value
    (rw n.cells at (rw n.size at t.cells)) (rw kt at f.cells) (rw kf at a.cells) (rw ka at m.cells) (rw km at v.cells)
    refl refl c.requires.square c.args.ver.in_range.0 in
    let same = v.same ∙ m.same ∙ a.same ∙ f.same ∙ t.same ∙ n.same in
    search rules
