-- `terminal::picture::Picture::line`: the colours around the characters.
-- Assumes nothing.
use Rattle.std.proofs.Common.{arith, refl, ap, length, ◌∙◌}
use Rattle.terminal.specs.PictureLaws.{line_said}
use Rattle.terminal.specs.TextLaws.{said_as}
use Rattle.terminal.specs.BeginLaws.{said_part}
use Rattle.terminal.proofs.picture.Picture.line.Goals as goal

pub returns-clause-said : goal.returns-clause-said
returns-clause-said c =
    let a = c.args.self.now in
    let s = line_said a.side a.grid.now c.args.y _ _ _ _ _ _ _ _ c.say-2.ensures.0 c.characters.ensures.said.0 c.say.ensures.0 (omega (arith, ap length c.new-line.ensures.unchanged)) in
    (said_as c.say-3.ensures.0 (c.bytes.ensures ∙ said_part s c.new-line.ensures.empty) refl, cc)
