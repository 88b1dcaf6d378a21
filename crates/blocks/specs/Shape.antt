-- How data bytes are shared out: n blocks, s data bytes in a short one, b short ones.
-- Assumes nothing.
use Rattle.std.specs.Prelude.{ℕ, ◌+◌, ◌-◌, ◌*◌, ◌/◌, ◌%◌, ◌≤◌, ◌<◌, cond, ltb}
use Rattle.std.proofs.Common.{arith}
use Rattle.standard.specs.Sizes.{blocks, short_blocks, short_length}
use Rattle.counts.specs.Ranges.{PairRange}

-- the bounds under which nothing wraps
pub record Shape (n s b : ℕ) : Type 0 where
  pub some : 0 < n
  pub few : n ≤ 81
  pub short : 0 < s
  pub small : s ≤ 255
  pub within : b ≤ n

-- how many data bytes there are
abbrev pub data_in : ℕ → ℕ → ℕ → ℕ
data_in n s b = s * n + (n - b)

-- a version and a level have such numbers
pub shape : {v l : ℕ} → PairRange v l → Shape (blocks v l) (short_length v l) (short_blocks v l)
shape r = record { some = r.some; few = r.few; short = omega arith; small = omega arith; within = r.long }

-- where block i starts
abbrev pub start_in : ℕ → ℕ → ℕ → ℕ
start_in s b i = i * s + (i - b)

-- which data byte stands at place p of the interleaved data: whole columns first, then one of the long blocks
unfoldable pub source_in : ℕ → ℕ → ℕ → ℕ → ℕ
source_in n s b p = cond (ltb p (s * n)) (start_in s b (p % n) + p / n) (start_in s b (b + (p - s * n)) + s)
