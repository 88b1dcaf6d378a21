-- Numbers as bits, the highest first, and bits as bytes.
-- Assumes nothing.
use Rattle.std.specs.Prelude.{ℕ, zero, suc, ◌+◌, ◌*◌, ◌/◌, List, [], ◌∷◌, ◌++◌, length, take, drop}
use Rattle.standard.specs.Numbers.{bit, tabulate}

-- the w low bits of n
unfoldable pub bits : ℕ → ℕ → List ℕ
bits zero n = []
bits (suc w) n = bit n w ∷ bits w n

-- the number whose bits follow those of n
unfoldable pub value_from : ℕ → List ℕ → ℕ
value_from n [] = n
value_from n (b ∷ bs) = value_from (n * 2 + b) bs

-- eight bits a byte
unfoldable pub byte_at : List ℕ → ℕ → ℕ
byte_at bs i = value_from 0 (take 8 (drop (8 * i) bs))

unfoldable pub pack : List ℕ → List ℕ
pack bs = tabulate (length bs / 8) (byte_at bs)

unfoldable pub unpack : List ℕ → List ℕ
unpack [] = []
unpack (x ∷ xs) = bits 8 x ++ unpack xs
