-- `terminal::picture::draw`: one line behind the others.
-- Assumes nothing.
use Rattle.std.proofs.Common.{rules, arith}
use Rattle.terminal.specs.PictureLaws.{lines_start, lines_next, lines_end}
use Rattle.terminal.proofs.picture.draw.Goals as goal

pub loop-j-init : goal.loop-j-init
loop-j-init c = search (lines_start, rules)

pub loop-j-preserved : goal.loop-j-preserved
loop-j-preserved c =
    let a = c.args in
    let i = c.loop-j.invariant in
    ((lines_next a.side a.grid.now _ _ _ _ _ _ c.loop-j.j c.line.ensures.said.0 i.0.0 (omega arith), cc), omega arith)

pub returns : goal.returns
returns c = search (lines_end, rules)
