-- Where the format bits are drawn: bit i of the word in two copies, and the module that is always dark.
-- Assumes nothing.
use Rattle.std.specs.Prelude.{ℕ, ◌+◌, ◌-◌, ◌<◌, Bool, cond, ◌≡◌, ltb, eqb}
use Rattle.standard.specs.Numbers.{bit, one}
use Rattle.laws.specs.Grid.{Pattern, then}
use Rattle.laws.specs.Dots.{dot, dots}

unfoldable pub first_x : ℕ → ℕ
first_x i = cond (ltb i 8) 8 (cond (eqb i 8) 7 (14 - i))

unfoldable pub first_y : ℕ → ℕ
first_y i = cond (ltb i 6) i (cond (eqb i 6) 7 8)

unfoldable pub second_x : ℕ → ℕ → ℕ
second_x s i = cond (ltb i 8) (s - 1 - i) 8

unfoldable pub second_y : ℕ → ℕ → ℕ
second_y s i = cond (ltb i 8) 8 (s - 15 + i)

-- the places that are answered for bits 0 to 14
abbrev pub Places : (ℕ → ℕ × ℕ → Type 0) → (ℕ → ℕ) → (ℕ → ℕ) → Type 0
Places post px py = (i : ℕ) (p : ℕ × ℕ) → i < 15 → post i p → (p.0 ≡ px i) × (p.1 ≡ py i)

-- a function module that has bit i of the word
abbrev pub word_bit : ℕ → ℕ → ℕ
word_bit word i = 2 + bit word i

pub word_bit_lem : (b : Bool) (word i : ℕ) → one b ≡ bit word i → 2 + one b ≡ word_bit word i
word_bit_lem b word i e = rw e

abbrev pub format : ℕ → ℕ → Pattern
format s word = then (then (dots 15 first_x first_y (word_bit word)) (dots 15 (second_x s) (second_y s) (word_bit word))) (dot 8 (s - 8) 3)
