-- `finish` leaves the colors.
-- Assumes nothing.
use Rattle.std.proofs.Common.{◌≡◌, ◌%◌}
use Rattle.laws.specs.Each.{each_done}
use Rattle.modules.proofs.finish.Given as goal

abbrev pub invariant-loop-m : goal.invariant-loop-m
invariant-loop-m l = l.grid ≡ each_done l.m-index (λ _ v. v % 2) l.initial.grid
