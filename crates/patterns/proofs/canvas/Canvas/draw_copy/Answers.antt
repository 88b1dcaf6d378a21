-- `draw_copy` draws fifteen bits, at the places that are answered.
-- Assumes nothing.
use Rattle.std.proofs.Common.{rules, arith, refl, ◌∙◌}
use Rattle.laws.specs.Dots.{dots_start, dots_next, dots_end}
use Rattle.patterns.specs.FormatPlaces.{word_bit_lem}
use Rattle.patterns.specs.Painted.{from, also, next}
use Rattle.patterns.proofs.canvas.Canvas.draw_copy.Goals as goal

pub loop-i-init : goal.loop-i-init
loop-i-init g c = (refl, λ px py places. from _ _ (dots_start _ _ _ _ _ c.args.self.now.square))

pub set_function_module-requires : goal.set_function_module-requires
set_function_module-requires g c =
    let size = c.loop-i.invariant.0 in
    let p = c.requires.inside _ _ c.loop-i-test.true c.at-x.ensures in
    (omega (arith, p.0), omega (arith, p.1))

pub loop-i-preserved : goal.loop-i-preserved
loop-i-preserved g c =
    let d = c.set_function_module.ensures in (
      d.size ∙ c.loop-i.invariant.0,
      λ px py places.
          let at = places _ _ c.loop-i-test.true c.at-x.ensures in
          let e = c.loop-i.invariant.1 px py places in
          next _ _ _ _ _ _ e d (λ cells. dots_next _ _ _ _ _ _ _ _ _ _ _ e.cells cells at.0 at.1 (word_bit_lem _ _ _ c.get_bit.ensures)),
    )

pub returns : goal.returns
returns g c =
    λ px py places.
    let e = c.loop-i.invariant.1 px py places in
    also _ _ _ _ e (dots_end _ _ _ _ _ _ _ _ e.cells (search rules) (search rules))
