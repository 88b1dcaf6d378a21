-- `fill_random`: the bytes so far are those that follow the seed, and the number is the one after as many steps.
-- Assumes nothing.
use Rattle.std.proofs.Common.{ℕ, ◌≡◌, ◌<◌, get_or}
use Rattle.listing.specs.Cases.{random_after, random_byte}
use Rattle.listing.proofs.fill_random.Given as goal

abbrev pub invariant-loop-b : goal.invariant-loop-b
invariant-loop-b l = (l.x ≡ random_after l.seed l.b-index) × (l.x < 2147483648) × ((k : ℕ) → k < l.b-index → get_or l.bytes k 0 ≡ random_byte l.seed k)
