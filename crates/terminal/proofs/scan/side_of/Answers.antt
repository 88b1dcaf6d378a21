-- `terminal::scan::side_of`: where there is no newline, the length counts.
-- Assumes nothing.
use Rattle.terminal.specs.ScanLaws.{side_short, side_long}
use Rattle.terminal.proofs.scan.side_of.Goals as goal

pub returns-then-first_line-le21 : goal.returns-then-first_line-le21
returns-then-first_line-le21 c = side_short c.args.text.now _ _ c.place.ensures.value c.unwrap_or-first_line.ensures c.if-first_line-le21.true

pub returns : goal.returns
returns c = side_long c.args.text.now _ _ c.place.ensures.value c.unwrap_or-first_line.ensures c.if-first_line-le21.false
