-- `segments::make::group_number` meets its contract: the number of the characters passed so far, one digit of the base more each turn.
-- Assumes nothing.
use Rattle.std.proofs.Common.{◌≡◌, take}
use Rattle.types.specs.Numbers.{text_kind_of}
use Rattle.segments.specs.Kinds.{group_number}
use Rattle.segments.proofs.make.group_number.Given as goal

abbrev pub invariant-loop-c : goal.invariant-loop-c
invariant-loop-c l = l.x ≡ group_number (text_kind_of l.kind) 0 (take l.c-index l.group)
