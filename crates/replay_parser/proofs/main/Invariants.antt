-- `replay_parser::main` meets its contract: no more are counted than there were turns.
-- Assumes nothing.
use Rattle.std.proofs.Common.{◌≤◌}
use Rattle.replay_parser.proofs.main.Given as goal

abbrev pub invariant-loop : goal.invariant-loop
invariant-loop l = (l.cases ≤ l.counter) × (l.others ≤ l.counter)
