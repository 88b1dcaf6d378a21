-- `segments::make::append_groups` meets its contract: a turn appends one group of the characters that are left.
-- Assumes nothing.
use Rattle.std.proofs.Common.{◌≡◌, T, length}
use Rattle.standard.specs.Numbers.{every}
use Rattle.standard.specs.Kinds.{allowed}
use Rattle.types.specs.Numbers.{text_kind_of}
use Rattle.bits.specs.Appended.{Progress}
use Rattle.segments.specs.Kinds.{size}
use Rattle.segments.specs.Runs.{run_bits}
use Rattle.segments.proofs.make.append_groups.Given as goal

abbrev pub invariant-loop-group : goal.invariant-loop-group
invariant-loop-group l =
    let k = text_kind_of l.kind in
    let rest = l.group-iterator.rest.now in
    Progress l.initial.bb l.bb l.at l.p (run_bits k (length l.text) (length l.text) l.text) (run_bits k (length rest) (length rest) rest) × (l.group-iterator.size ≡ size k) × T (every (allowed k) rest)
