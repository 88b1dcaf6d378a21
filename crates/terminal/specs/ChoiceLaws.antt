-- A law for the return that chooses no options.
-- Assumes nothing.
use Rattle.std.specs.Prelude.{Bool, false, None, List, ℕ, ◌≡◌, ◌&&◌, eqb, refl, [], ◌∷◌}
use Rattle.std.specs.Cmp.Lexicographic.{pointwise}
use Rattle.std.proofs.Common.{sym, ap, ◌∙◌}
use Rattle.standard.specs.Numbers.{same}
use Rattle.terminal.specs.Choices.{level_name, versions_name, mask_name, boost_name, chosen}
use Rattle.terminal.specs.declared.options.Options.{Options}

-- `==` of two words
pointwise_same : (a b : List ℕ) → pointwise eqb a b ≡ same a b
pointwise_same [] [] = refl
pointwise_same [] (y ∷ ys) = refl
pointwise_same (x ∷ xs) [] = refl
pointwise_same (x ∷ xs) (y ∷ ys) = ap (λ (t : Bool). eqb x y && t) (pointwise_same xs ys)

pub chosen_none : (o : Options) (name value : List ℕ)
    → false ≡ pointwise eqb name level_name → false ≡ pointwise eqb name versions_name → false ≡ pointwise eqb name mask_name → false ≡ pointwise eqb name boost_name
    → None ≡ chosen o name value
chosen_none o name value a b c d =
    rw (
      sym (a ∙ pointwise_same name level_name),
      sym (b ∙ pointwise_same name versions_name),
      sym (c ∙ pointwise_same name mask_name),
      sym (d ∙ pointwise_same name boost_name),
    )
