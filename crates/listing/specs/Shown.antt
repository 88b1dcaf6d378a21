-- What a line shows: modules as 0 and 1, bytes as two hexadecimal digits each, a digest as a number below 4,294,967,291.
-- Assumes nothing.
use Rattle.std.specs.Prelude.{ℕ, ◌+◌, ◌*◌, ◌/◌, ◌%◌, cond, List, [], ◌∷◌, ltb}

unfoldable pub modules_of : List ℕ → List ℕ
modules_of [] = []
modules_of (m ∷ ms) = (48 + m % 2) ∷ modules_of ms

unfoldable pub hex_digit : ℕ → ℕ
hex_digit n = cond (ltb n 10) (48 + n) (87 + n)

unfoldable pub hex_of : List ℕ → List ℕ
hex_of [] = []
hex_of (b ∷ bs) = hex_digit (b / 16) ∷ hex_digit (b % 16) ∷ hex_of bs

-- the digest of bytes that follow others, of which it is h
unfoldable pub digest_after : ℕ → List ℕ → ℕ
digest_after h [] = h
digest_after h (b ∷ bs) = digest_after ((h * 16777619 + b + 1) % 4294967291) bs

unfoldable pub digest_of : List ℕ → ℕ
digest_of bs = digest_after 0 bs

-- the four bytes of a number, the highest first
abbrev pub four_of : ℕ → List ℕ
four_of n = n / 16777216 ∷ n / 65536 % 256 ∷ n / 256 % 256 ∷ n % 256 ∷ []
