-- `draw_label` draws the grid of the definition.
-- Assumes nothing.
use Rattle.std.proofs.Common.{rules}
use Rattle.modules.specs.Finished.{label_drawn}
use Rattle.modules.proofs.draw_label.Goals as goal

pub returns : goal.returns
returns c = search (label_drawn, rules)
