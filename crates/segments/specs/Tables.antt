-- How wide a group's field is at most.
-- Assumes nothing.
use Rattle.std.specs.Prelude.{ℕ, zero, suc, ◌≤◌}
use Rattle.std.proofs.Common.{lit≤}
use Rattle.segments.specs.Kinds.{width}

pub width_le : (k m : ℕ) → width k m ≤ 11
width_le zero zero = lit≤ tt
width_le zero (suc zero) = lit≤ tt
width_le zero (suc (suc zero)) = lit≤ tt
width_le zero (suc (suc (suc zero))) = lit≤ tt
width_le zero (suc (suc (suc (suc m)))) = lit≤ tt
width_le (suc zero) zero = lit≤ tt
width_le (suc zero) (suc zero) = lit≤ tt
width_le (suc zero) (suc (suc zero)) = lit≤ tt
width_le (suc zero) (suc (suc (suc m))) = lit≤ tt
width_le (suc (suc zero)) zero = lit≤ tt
width_le (suc (suc zero)) (suc zero) = lit≤ tt
width_le (suc (suc zero)) (suc (suc m)) = lit≤ tt
width_le (suc (suc (suc k))) zero = lit≤ tt
width_le (suc (suc (suc k))) (suc zero) = lit≤ tt
width_le (suc (suc (suc k))) (suc (suc m)) = lit≤ tt
