-- Tables of computed lists beside the lists that they should be, and answers as numbers for such tables.
-- Assumes nothing.
use Prim.Native.Nat.{ℕ}
use mathlib.Core.Bool.{Bool, true, ◌&&◌}
use mathlib.Core.List.{List, [], ◌∷◌}
use Rattle.standard.specs.Numbers.{same}
use Rattle.standard.specs.Plan.{Plan, unplanned, planned}

-- in each row the two lists have the same numbers
unfoldable pub agree : List (List ℕ × List ℕ) → Bool
agree [] = true
agree (r ∷ rs) = same r.0 r.1 && agree rs

-- a refusal's number and details, or 0 with version, level and total bits
unfoldable pub numbers : Plan → List ℕ
numbers (unplanned e) = e.number ∷ e.first ∷ e.second ∷ []
numbers (planned v l n) = 0 ∷ v ∷ l ∷ n ∷ []
