-- `terminal::picture::draw`: so many lines are put.
-- Assumes nothing.
use Rattle.std.proofs.Common.{◌+◌, ◌*◌, ◌≤◌}
use Rattle.terminal.specs.Picture.{lines}
use Rattle.terminal.specs.Adds.{Adds}
use Rattle.terminal.proofs.picture.draw.Given as goal

abbrev pub invariant-loop-j : goal.invariant-loop-j
invariant-loop-j l = Adds l.initial.out (lines l.side l.grid l.j) l.out × (l.out.len ≤ l.initial.out.len + 569 * l.j)
