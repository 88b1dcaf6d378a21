-- Laws that the proofs of the tests on texts cite.
-- Assumes nothing.
use Rattle.std.specs.Prelude.{◌≡◌, ℕ, Bool, ◌&&◌, List, refl}
use Rattle.std.specs.List.{list_all}
use Rattle.std.proofs.lemmas.List.Recursion.{same_from_clauses}
use Rattle.standard.specs.Numbers.{every}

-- what the library's `all` answers of a text is the definition's `every`
pub all_is_every : (p : ℕ → Bool) (t : List ℕ) → list_all p t ≡ every p t
all_is_every p t = same_from_clauses (list_all p) (every p) (λ x b. p x && b) refl (λ _ _. refl) (λ _ _. refl) t
