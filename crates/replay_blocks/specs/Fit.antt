-- The buffers are large enough.
-- Assumes nothing.
use Rattle.std.specs.Prelude.{ℕ, ◌/◌, ◌≤◌, min, ◌≡◌, length, take, replicate}
use Rattle.std.proofs.Common.{ap, ◌∙◌, arith, length-take}
use Rattle.std.proofs.lemmas.List.{length-replicate}
use Rattle.standard.specs.Sizes.{raw_modules, raw_codewords, data_codewords}
use Rattle.counts.specs.Ranges.{PairRange, pair_range}

pub raw_is : (v r : ℕ) → r ≡ raw_modules v → r / 8 ≡ raw_codewords v
unfolding raw_codewords
raw_is v r e = rw e

pub data_less : (v l : ℕ) → 1 ≤ v → v ≤ 40 → l ≤ 3 → data_codewords v l ≤ raw_codewords v
data_less v l low high level = let p : PairRange v l = pair_range v l low high level in omega arith

-- the part of a buffer that is lent
pub lent : (k n m : ℕ) → n ≡ m → n ≤ k → length (take n (replicate {A = ℕ} k 0)) ≡ m
lent k n m e h = length-take n (replicate {A = ℕ} k 0) ∙ ap (λ (z : ℕ). min n z) (length-replicate {A = ℕ} k 0) ∙ omega arith
