-- `set_function_module` stores one module.
-- Assumes nothing.
use Rattle.std.proofs.Common.{rules, refl}
use Rattle.laws.specs.Store.{store}
use Rattle.patterns.proofs.canvas.Canvas.set_function_module.Goals as goal

pub returns : goal.returns
returns c =
    record {
      same = refl;
      size = refl;
      cells = store _ _ _ _ _ _ _ c.args.self.now.square c.requires.0 c.requires.1 c.place.ensures.0 (search rules);
    }
