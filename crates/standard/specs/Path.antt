-- The zigzag in which codewords are drawn. s is the side.
-- Its first cells, the way past the timing and the remainder modules are listed by computation in proofs/Cells.antt.
-- Document 01, "Modules". Assumes nothing.
use Rattle.std.specs.Prelude.{ℕ, ◌+◌, ◌-◌, ◌*◌, ◌/◌, ◌%◌, Bool, cond, not, List, leb, eqb}
use Rattle.standard.specs.Numbers.{tabulate, keep}
use Rattle.standard.specs.Sizes.{side}
use Rattle.standard.specs.Functions.{is_function}

-- the right column of pair p, pairs counted from the right; column 6 is in none.
-- A side is odd, so r is even: 8 is the right column of 8 and 7, and 6 becomes 5, of 5 and 4. p is below (s - 1) / 2
unfoldable pub right : ℕ → ℕ → ℕ
right s p = let r = s - 1 - 2 * p in cond (leb r 6) (r - 1) r

-- pairs are gone through upwards and downwards in turn
unfoldable pub height : ℕ → ℕ → ℕ → ℕ
height s p vert = cond (eqb (p % 2) 0) (s - 1 - vert) vert

-- cell k of the zigzag, as a place in the grid: k counts pairs, then rows of a pair, then the two cells of a row
unfoldable pub cell : ℕ → ℕ → ℕ
cell s k =
    let p = k / (2 * s) in
    height s p (k / 2 % s) * s + (right s p - k % 2)

-- the place holds no function module
unfoldable pub free : ℕ → ℕ → Bool
free v i =
    let x = i % side v in
    let y = i / side v in
    not (is_function v x y)

-- the places of the codewords' bits, in order; where bits end before it does, the rest are the remainder modules
unfoldable pub path : ℕ → List ℕ
path v = keep (free v) (tabulate (side v * (side v - 1)) (cell (side v)))
