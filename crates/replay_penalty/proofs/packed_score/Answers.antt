-- `replay_penalty::packed_score` is safe: the packed lines are those of the grid.
-- Assumes nothing.
use mathlib.Core.Path.{refl}
use Rattle.packed.specs.Stored.{rows_held, columns_held}
use Rattle.replay_penalty.proofs.packed_score.Goals as goal

pub get_penalty_score-requires-clause-held_rows : goal.get_penalty_score-requires-clause-held_rows
get_penalty_score-requires-clause-held_rows c =
    let r = c.pack_rows.ensures in let k = c.pack_columns.ensures in (rows_held _ _ _ _ refl r.0 r.1, columns_held _ _ _ _ refl k.0 k.1)
