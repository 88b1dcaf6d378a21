-- One module of a grid, asked for by signed coordinates.
-- Document 01, "Refusal table", its last paragraph. Assumes nothing.
use Rattle.std.specs.Prelude.{ℕ, ◌+◌, ◌-◌, ◌*◌, ◌/◌, Bool, false, ◌&&◌, List, leb, ltb, eqb, ℤ, pos, negsuc, length, get_or}
use Rattle.standard.specs.Sizes.{side}

-- the version of a side
abbrev pub version_of : ℕ → ℕ
version_of s = (s - 17) / 4

-- a side is that of a version in 1..40
unfoldable pub valid_side : ℕ → Bool
valid_side s = eqb s (side (version_of s)) && (leb 1 (version_of s) && leb (version_of s) 40)

-- a valid side, a grid of at least side² bytes, both coordinates in 0..side - 1, and the byte there is 1
unfoldable pub dark : ℕ → List ℕ → ℤ → ℤ → Bool
dark s g (pos x) (pos y) =
    valid_side s && (leb (s * s) (length g) && (ltb x s && (ltb y s && eqb (get_or g (y * s + x) 0) 1)))
dark s g (pos x) (negsuc y) = false
dark s g (negsuc x) y = false
