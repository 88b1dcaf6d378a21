-- `copy_data` rewrites the data modules.
-- Assumes nothing.
use Rattle.std.proofs.Common.{◌≡◌, cond, ltb, get_or}
use Rattle.laws.specs.Each.{each_done}
use Rattle.modules.proofs.read.copy_data.Given as goal

abbrev pub invariant-loop-k : goal.invariant-loop-k
invariant-loop-k l = l.work ≡ each_done l.k (λ j c. cond (ltb c 2) (get_or l.grid j 0) c) l.initial.work
