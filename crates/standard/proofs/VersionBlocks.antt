-- The two version blocks of version 7, as the Rust original draws them, row by row.
-- Assumes nothing.
use Prim.Native.Nat.{ℕ}
use mathlib.Core.List.{List, [], ◌∷◌}
use mathlib.Core.Path.{◌≡◌, refl}
use Rattle.standard.specs.Numbers.{from, join}
use Rattle.standard.specs.Functions.{function_colour}
use Rattle.standard.proofs.Open.{opened}

-- w columns from x on, h rows from y on; the format word does not matter here
pub part : ℕ → ℕ → ℕ → ℕ → List ℕ
part x w y h = join (from y h (λ j. from x w (λ i. function_colour 7 0 i j)))

pub lower_left : part 0 6 34 3 ≡ 0 ∷ 0 ∷ 0 ∷ 0 ∷ 1 ∷ 0 ∷ 0 ∷ 1 ∷ 1 ∷ 1 ∷ 1 ∷ 0 ∷ 1 ∷ 0 ∷ 0 ∷ 1 ∷ 1 ∷ 0 ∷ []
unfolding opened part
lower_left = refl

pub upper_right : part 34 3 0 6 ≡ 0 ∷ 0 ∷ 1 ∷ 0 ∷ 1 ∷ 0 ∷ 0 ∷ 1 ∷ 0 ∷ 0 ∷ 1 ∷ 1 ∷ 1 ∷ 1 ∷ 1 ∷ 0 ∷ 0 ∷ 0 ∷ []
unfolding opened part
upper_right = refl
