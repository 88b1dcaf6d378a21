-- The field of 256 elements, bytes modulo 11D, polynomials over it, and check bytes.
-- Bit i of a byte stands for x^i, and the sum is bit_xor. A polynomial is the list of its coefficients, the highest first.
-- Document 01, "Blocks and field". Assumes nothing.
use Rattle.std.specs.Prelude.{ℕ, zero, suc, ◌*◌, ◌/◌, ◌%◌, ◌<◌, ◌≡◌, List, [], ◌∷◌, ◌++◌, length, replicate, drop}
use Rattle.std.specs.Int.Bits.{bit_xor}

-- ---- the field

-- 2 a
unfoldable pub double : ℕ → ℕ
double a = bit_xor (a * 2) (a / 128 % 2 * 0x11D)

-- x times the n low bits of y: y is 2 (y / 2) + y % 2
unfoldable pub times_low : ℕ → ℕ → ℕ → ℕ
times_low zero x y = 0
times_low (suc n) x y = bit_xor (double (times_low n x (y / 2))) (y % 2 * x)

unfoldable pub times : ℕ → ℕ → ℕ
times x y = times_low 8 x y

-- 2 to the k
unfoldable pub power : ℕ → ℕ
power zero = 1
power (suc k) = times (power k) 2

-- ---- polynomials

-- each coefficient is a field element
abbrev pub Bytes : List ℕ → Type 0
Bytes [] = Unit {0}
Bytes (a ∷ p) = (a < 256) × Bytes p

abbrev pub zeros : ℕ → List ℕ
zeros n = replicate n 0

-- the sum of two with one number of coefficients: each use below keeps to that; of a longer one the rest would be lost
unfoldable pub plus : List ℕ → List ℕ → List ℕ
plus [] q = []
plus (a ∷ p) [] = []
plus (a ∷ p) (b ∷ q) = bit_xor a b ∷ plus p q

-- c times p
unfoldable pub scale : ℕ → List ℕ → List ℕ
scale c [] = []
scale c (a ∷ p) = times a c ∷ scale c p

-- (a x^n + p) q is (a q) x^n + p q, n the length of p; q has at least one coefficient, and both terms have n more than q
unfoldable pub product : List ℕ → List ℕ → List ℕ
product [] [] = []
product [] (b ∷ q) = zeros (length q)
product (a ∷ p) q = plus (scale a q ++ zeros (length p)) (0 ∷ product p q)

-- p is a multiple of g
abbrev pub Divisible : List ℕ → List ℕ → Type 0
Divisible g p = (q : List ℕ) × Bytes q × (p ≡ product q g)

-- the product of x - 2^i, i below d (a difference is a sum)
unfoldable pub generator : ℕ → List ℕ
generator zero = 1 ∷ []
generator (suc d) = product (1 ∷ power d ∷ []) (generator d)

-- ---- long division by x^d + g, where g has the d lower coefficients

-- r has as many coefficients as g, so degree below d: r x + b x^d, less the multiple of x^d + g that takes x^d away
unfoldable pub step : List ℕ → List ℕ → ℕ → List ℕ
step g [] b = []
step g (h ∷ t) b = plus (t ++ (0 ∷ [])) (scale (bit_xor b h) g)

-- each coefficient of p in turn
unfoldable pub divide : List ℕ → List ℕ → List ℕ → List ℕ
divide g r [] = r
divide g r (b ∷ p) = divide g (step g r b) p

-- what is left of p x^d
unfoldable pub remainder : List ℕ → List ℕ → List ℕ
remainder g p = divide g (zeros (length g)) p

-- ---- check bytes

-- the generator of degree d without its leading 1
unfoldable pub divisor : ℕ → List ℕ
divisor d = drop 1 (generator d)

-- the d check bytes of a block
unfoldable pub check : ℕ → List ℕ → List ℕ
check d block = remainder (divisor d) block
