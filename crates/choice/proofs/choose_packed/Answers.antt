-- `choice::choose_packed` meets its contract.
-- Assumes nothing.
use Rattle.packed.specs.Stored.{rows_held, columns_held}
use Rattle.std.proofs.Common.{rules}
use Rattle.choice.proofs.choose_packed.Goals as goal

pub choose_best-requires-clause-held_rows : goal.choose_best-requires-clause-held_rows
choose_best-requires-clause-held_rows c = (search (rows_held, rules), search (columns_held, rules))
