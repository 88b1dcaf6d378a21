-- `terminal::picture::Picture::characters`: so many characters are put.
-- Assumes nothing.
use Rattle.std.proofs.Common.{◌+◌, ◌*◌, ◌≤◌}
use Rattle.terminal.specs.Picture.{characters}
use Rattle.terminal.specs.Adds.{Adds}
use Rattle.terminal.proofs.picture.Picture.characters.Given as goal

abbrev pub invariant-loop-x : goal.invariant-loop-x
invariant-loop-x l = Adds l.initial.out (characters l.self.side l.self.grid.now l.y l.x) l.out × (l.out.len ≤ l.initial.out.len + 3 * l.x)
