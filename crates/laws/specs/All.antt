-- A test that is made at one number after the other.
-- Assumes nothing.
use Prim.Native.Nat.{ℕ, zero, suc, ◌+◌, ◌≤◌, ◌<◌}
use Rattle.std.specs.Prelude.{Bool, true, ◌&&◌, ◌≡◌}
use Rattle.std.proofs.Math.Logic.{⊎_elim}
use Rattle.std.proofs.Math.Path.{refl, ap}
use Rattle.std.proofs.Common.{◌∙◌, not-suc-le-zero, le_of_suc-le-suc, eq-or-lt_of_le, le_antisymm, add-one, arith}
use Rattle.laws.specs.Tests.{and_both, and_first, and_second}

-- the test passes at each number below n
unfoldable pub all_to : ℕ → (ℕ → Bool) → Bool
all_to zero p = true
all_to (suc n) p = all_to n p && p n

module _ (p : ℕ → Bool) where
  pub all_none : true ≡ all_to 0 p
  unfolding all_to
  all_none = refl

  pub all_next : (n : ℕ) (b c : Bool) → b ≡ all_to n p → c ≡ p n → b && c ≡ all_to (n + 1) p
  unfolding all_to
  all_next n b c e f = rw (add-one n, e, f)

  pub all_end : (n m : ℕ) (b : Bool) → b ≡ all_to n p → n ≤ m → m ≤ n → b ≡ all_to m p
  all_end n m b e l h = e ∙ ap (λ (k : ℕ). all_to k p) (le_antisymm l h)

  pub all_at : (n i : ℕ) → all_to n p ≡ true → i < n → p i ≡ true
  unfolding all_to
  all_at zero i t h = absurd (not-suc-le-zero h)
  all_at (suc n) i t h =
      ⊎_elim (λ e. ap p e ∙ and_second (all_to n p) (p n) t) (all_at n i (and_first (all_to n p) (p n) t)) (eq-or-lt_of_le (le_of_suc-le-suc h))

  pub all_of : (n : ℕ) → ((i : ℕ) → i < n → p i ≡ true) → all_to n p ≡ true
  unfolding all_to
  all_of zero h = refl
  all_of (suc n) h = and_both (all_to n p) (p n) (all_of n (λ i l. h i (omega arith))) (h n (omega arith))
