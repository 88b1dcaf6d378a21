-- `set_twin_modules` stores two modules.
-- Assumes nothing.
use Rattle.laws.specs.Marks.{twin_two}
use Rattle.patterns.specs.Painted.{next}
use Rattle.patterns.proofs.canvas.Canvas.set_twin_modules.Goals as goal

pub returns : goal.returns
returns c =
    let e = c.set_function_module.ensures in
    next _ _ _ _ _ _ e c.set_function_module-2.ensures (twin_two _ _ _ _ _ _ _ e.cells)
