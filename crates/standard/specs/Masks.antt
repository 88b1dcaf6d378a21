-- The eight masks: whether a module is inverted, x its column and y its row.
-- Document 01, "Modules". Assumes nothing.
use Rattle.std.specs.Prelude.{ℕ, zero, suc, ◌+◌, ◌*◌, ◌/◌, ◌%◌, Bool, eqb}

-- a number that is 0 where mask m inverts
unfoldable pub mask_number : ℕ → ℕ → ℕ → ℕ
mask_number zero x y = (x + y) % 2
mask_number (suc zero) x y = y % 2
mask_number (suc (suc zero)) x y = x % 3
mask_number (suc (suc (suc zero))) x y = (x + y) % 3
mask_number (suc (suc (suc (suc zero)))) x y = (x / 3 + y / 2) % 2
mask_number (suc (suc (suc (suc (suc zero))))) x y = x * y % 2 + x * y % 3
mask_number (suc (suc (suc (suc (suc (suc zero)))))) x y = (x * y % 2 + x * y % 3) % 2
mask_number (suc (suc (suc (suc (suc (suc (suc m))))))) x y = ((x + y) % 2 + x * y % 3) % 2

unfoldable pub inverts : ℕ → ℕ → ℕ → Bool
inverts m x y = eqb (mask_number m x y) 0
