-- `choice::score_mask` meets its contract.
-- Assumes nothing.
use Rattle.choice.specs.Lines.{rows_drawn, columns_drawn}
use Rattle.choice.specs.Candidates.{score_is}
use Rattle.std.proofs.Common.{rules}
use Rattle.choice.proofs.score_mask.Goals as goal

pub get_penalty_score-requires-clause-held_rows : goal.get_penalty_score-requires-clause-held_rows
get_penalty_score-requires-clause-held_rows c = (search (rows_drawn, rules), search (columns_drawn, rules))

pub returns : goal.returns
returns c = (search (score_is, rules), search rules)
