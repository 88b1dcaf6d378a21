-- `draw::draw` meets its contract: what is accepted is drawn, and the scratch zeroed.
-- Assumes nothing.
use Rattle.std.proofs.Common.{◌∙◌}
use Rattle.encoder.specs.Drawing.{zeros_long, label_drawn}
use Rattle.encoder.proofs.draw.draw.Goals as goal

pub returns : goal.returns
returns c =
    label_drawn _ _ _ _ _ _ _ c.size_of-size.ensures _ _ _ c.if-grid-area.false c.if-scratch-lt-SCRATCH.false c.draw_words-mask.ensures.mask c.draw_words-mask.ensures.drawn
    (c.fill.ensures.after (λ y e. e) ∙ zeros_long _ c.if-scratch-lt-SCRATCH.false)
