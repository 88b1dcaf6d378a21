-- `label::read::picture_end`: what is drawn is the picture of the grid that the text's characters show.
-- Assumes nothing.
use Rattle.std.proofs.Common.{rules, ◌∙◌}
use Rattle.terminal.specs.WordLaws.{starts_begins}
use Rattle.terminal.specs.BeginLaws.{square_few, said_part, picture_some, begins_drawn, begins_none, begins_end}
use Rattle.label.proofs.read.picture_end.Goals as goal

pub scan-requires : goal.scan-requires
scan-requires c = (search rules, search rules, search (square_few, rules))

pub returns : goal.returns
returns c =
    let t = c.args.text.now in
    let d = c.bytes-picture.result.now in
    let q = c.bytes-picture.ensures ∙ said_part c.draw.ensures.said.0 c.new-drawn.ensures.empty in
    let b =
    begins_end
    (begins_drawn t c.bytes.result.now d c.args.grid.now c.scan.new.grid c.args.side c.starts_with.result
    (c.starts_with.ensures.value ∙ starts_begins t d) q c.scan.ensures (search rules) c.if-not-starts_with.false (search rules) (search rules)) in
    (b.0, picture_some c.args.side c.scan.new.grid d q, b.1)

pub returns-then-not-starts_with : goal.returns-then-not-starts_with
returns-then-not-starts_with c =
    let t = c.args.text.now in
    let d = c.bytes-picture.result.now in
    begins_none t c.bytes.result.now d c.args.grid.now c.scan.new.grid c.args.side c.starts_with.result
    (c.starts_with.ensures.value ∙ starts_begins t d) (c.bytes-picture.ensures ∙ said_part c.draw.ensures.said.0 c.new-drawn.ensures.empty)
    c.scan.ensures (search rules) c.if-not-starts_with.true
    (c.bytes.ensures ∙ said_part c.halves.ensures.said.0 c.new-halves.ensures.empty) (search rules)
