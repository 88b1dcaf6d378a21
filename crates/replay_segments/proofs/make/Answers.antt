-- `replay_segments::make` meets its contract: a zeroed buffer has room for a payload of at most 2,000 characters.
-- Assumes nothing.
use Rattle.replay_segments.specs.Facts.{all_of, digits_free, pairs_free, bytes_free, eci_free}
use Rattle.std.proofs.Common.{rules}
use Rattle.replay_segments.proofs.make.Goals as goal

pub make_numeric-requires : goal.make_numeric-requires
make_numeric-requires c = (search (all_of, rules), search (digits_free, rules))

pub make_alphanumeric-requires : goal.make_alphanumeric-requires
make_alphanumeric-requires c = (search (all_of, rules), search (pairs_free, rules))

pub make_bytes-requires : goal.make_bytes-requires
make_bytes-requires c = search (bytes_free, rules)

pub make_eci-requires : goal.make_eci-requires
make_eci-requires c = (search rules, search (eci_free, rules))
