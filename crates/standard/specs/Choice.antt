-- The mask: the one asked for, or the lowest of least penalty.
-- Document 01, "Modules". Assumes nothing.
use Rattle.std.specs.Prelude.{ℕ, min, cond, List, [], ◌∷◌, ltb}
use Rattle.standard.specs.Numbers.{place, tabulate}
use Rattle.standard.specs.Sizes.{side}
use Rattle.standard.specs.Grid.{grid}
use Rattle.standard.specs.Penalty.{penalty}

-- the least of n and the numbers of a list
unfoldable pub lowest : ℕ → List ℕ → ℕ
lowest n [] = n
lowest n (x ∷ xs) = lowest (min n x) xs

-- the place of the least number, the first if there are several
unfoldable pub place_of_least : List ℕ → ℕ
place_of_least [] = 0
place_of_least (x ∷ xs) = place (lowest x xs) (x ∷ xs)

unfoldable pub scores : ℕ → ℕ → List ℕ → List ℕ
scores v l g = tabulate 8 (λ m. penalty (side v) (grid v l m g))

unfoldable pub chosen : ℕ → ℕ → ℕ → List ℕ → ℕ
chosen v l m g = cond (ltb m 8) m (place_of_least (scores v l g))
