-- `segments::make::append_groups` meets its contract: a turn appends one group of the characters that are left.
-- Assumes nothing.
use Rattle.std.proofs.Common.{rules}
use Rattle.types.specs.Numbers.{text_kind_of}
use Rattle.segments.specs.Groups.{width_32, groups_free, groups_end}
use Rattle.segments.proofs.make.append_groups.Goals as goal

pub append_bits-p-requires : goal.append_bits-p-requires
append_bits-p-requires c =
    let rest = c.loop-group.group-iterator.rest.now in
    let steps = c.in-Some.ensures.steps in (
      search (width_32, rules),
      groups_free (text_kind_of c.args.kind) c.loop-group.group-iterator.size rest c.in-Some.group.now c.next.new.self.rest.now steps.1.0 steps.1.1 c.loop-group.invariant.1 c.args.bb.now c.loop-group.bb c.args.at c.loop-group.p _ c.width_of-w.result c.group_number.result
          c.loop-group.invariant.0 c.width_of-w.ensures c.group_number.ensures steps.1.2 c.requires.1,
    )

pub returns : goal.returns
returns c = groups_end c.args.bb.now c.loop-group.bb c.args.at c.loop-group.p (text_kind_of c.args.kind) c.loop-group.group-iterator.rest.now _ c.loop-group.invariant.0 c.in-None.ensures.steps.1.0
