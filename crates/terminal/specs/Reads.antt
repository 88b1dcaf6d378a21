-- The number of a word is the one that its digits stand for: each number below 256, in one, two or three digits.
-- Assumes nothing.
use Rattle.std.specs.Prelude.{ℕ, zero, suc, ◌<◌, ◌/◌, ◌%◌, Bool, ◌≡◌, eqb, List, [], ◌∷◌, ◌++◌}
use Rattle.std.proofs.Common.{eqb→eq}
use Rattle.laws.specs.Computed.{below}
use Rattle.terminal.specs.Text.{hex_digit}
use Rattle.terminal.specs.Words.{number_of}

-- the last k digits of n in base b, the highest first
abbrev pub last_digits : ℕ → ℕ → ℕ → List ℕ
last_digits b zero n = []
last_digits b (suc k) n = last_digits b k (n / b) ++ (hex_digit (n % b) ∷ [])

reads_in : ℕ → ℕ → Bool
reads_in k n = eqb (number_of (last_digits 10 k n)) n

pub reads_one : (n : ℕ) → n < 10 → number_of (last_digits 10 1 n) ≡ n
unfolding reads_in
reads_one n h = eqb→eq (number_of (last_digits 10 1 n)) n (below (reads_in 1) 10 tt n h)

pub reads_two : (n : ℕ) → n < 100 → number_of (last_digits 10 2 n) ≡ n
unfolding reads_in
reads_two n h = eqb→eq (number_of (last_digits 10 2 n)) n (below (reads_in 2) 100 tt n h)

pub reads_three : (n : ℕ) → n < 256 → number_of (last_digits 10 3 n) ≡ n
unfolding reads_in
reads_three n h = eqb→eq (number_of (last_digits 10 3 n)) n (below (reads_in 3) 256 tt n h)
