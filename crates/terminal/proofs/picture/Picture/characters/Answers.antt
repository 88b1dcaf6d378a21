-- `terminal::picture::Picture::characters`: one character behind the others.
-- Assumes nothing.
use Rattle.std.proofs.Common.{rules, arith, refl}
use Rattle.terminal.specs.PictureLaws.{line_start, line_next, line_end}
use Rattle.terminal.proofs.picture.Picture.characters.Goals as goal

pub loop-x-init : goal.loop-x-init
loop-x-init c = search (line_start, rules)

pub loop-x-preserved : goal.loop-x-preserved
loop-x-preserved c =
    let a = c.args.self.now in
    let i = c.loop-x.invariant in
    ((line_next a.side a.grid.now c.args.y _ _ _ _ _ _ c.loop-x.x _ _ _ c.glyph.ensures.said.0 i.0.0 refl c.shown-upper.ensures c.shown-lower.ensures (omega arith), cc), omega arith)

pub returns : goal.returns
returns c = search (line_end, rules)
