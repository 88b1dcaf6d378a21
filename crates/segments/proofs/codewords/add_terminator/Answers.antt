-- `segments::codewords::add_terminator` meets its contract: two fields of zero bits; the wrapped difference has the fill's remainder.
-- Assumes nothing.
use Rattle.segments.specs.Ends.{end_free, end_32, fill_free, end_done}
use Rattle.std.proofs.Common.{rules}
use Rattle.segments.proofs.codewords.add_terminator.Goals as goal

pub append_bits-at-requires : goal.append_bits-at-requires
append_bits-at-requires c = (search (end_32, rules), search (end_free, rules))

pub append_bits-requires : goal.append_bits-requires
append_bits-requires c = (search rules, search (fill_free, rules))

pub returns : goal.returns
returns c = search (end_done, rules)
