-- `parser::write::write_group` meets its contract: the first characters have been written.
-- Assumes nothing.
use Rattle.std.proofs.Common.{◌≡◌, ◌≤◌, length}
use Rattle.parser.specs.Filled.{filled}
use Rattle.types.specs.Numbers.{text_kind_of}
use Rattle.segments.specs.Kinds.{group_chars}
use Rattle.parser.proofs.write.write_group.Given as goal

abbrev pub invariant-loop-i : goal.invariant-loop-i
invariant-loop-i l = (l.out ≡ filled l.initial.out (group_chars (text_kind_of l.kind) l.m l.x) l.i) × (l.i ≤ l.m) × (length l.out ≡ length l.initial.out)
