-- What characters of a line mean, and the pseudo-random numbers of a case.
-- Assumes nothing.
use Rattle.std.specs.Prelude.{ℕ, zero, suc, ◌+◌, ◌-◌, ◌*◌, ◌/◌, ◌%◌, ◌&&◌, Option, Some, None, cond, leb, eqb}

-- the value of a character 0 to 9
abbrev pub decimal_of : ℕ → Option ℕ
decimal_of c = cond (leb 48 c && leb c 57) (Some (c - 48)) None

-- 0 Low, 1 Medium, 2 Quartile, and else High
abbrev pub level_shown : ℕ → ℕ
level_shown c = cond (eqb c 48) 0 (cond (eqb c 49) 1 (cond (eqb c 50) 2 3))

abbrev pub next_random : ℕ → ℕ
next_random x = (x * 1103515245 + 12345) % 2147483648

-- the number after n steps
unfoldable pub random_after : ℕ → ℕ → ℕ
random_after seed zero = seed
random_after seed (suc n) = next_random (random_after seed n)

-- byte k of those that follow a seed
abbrev pub random_byte : ℕ → ℕ → ℕ
random_byte seed k = random_after seed (suc k) / 65536 % 256
