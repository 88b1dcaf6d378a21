-- `terminal::text::escape`: so many bytes are escaped.
-- Assumes nothing.
use Rattle.std.proofs.Common.{◌+◌, ◌*◌, ◌≤◌}
use Rattle.terminal.specs.Text.{escaped_to}
use Rattle.terminal.specs.Adds.{Adds}
use Rattle.terminal.proofs.text.escape.Given as goal

abbrev pub invariant-loop-c : goal.invariant-loop-c
invariant-loop-c l = Adds l.initial.out (escaped_to l.text l.c-index) l.out × (l.out.len ≤ l.initial.out.len + 4 * l.c-index)
