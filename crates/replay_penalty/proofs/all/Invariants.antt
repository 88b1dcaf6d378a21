-- `replay_penalty::all` is safe: no more scores differ than were compared.
-- Assumes nothing.
use Prim.Native.Nat.{◌≤◌}
use Rattle.replay_penalty.proofs.all.Given as goal

abbrev pub invariant-loop-compared : goal.invariant-loop-compared
invariant-loop-compared g l = (l.compared ≤ 999999) × (l.differ ≤ l.compared)
