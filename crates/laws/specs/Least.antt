-- The lowest of n numbers from k on at which a test passes: laws of `least`, which is k + n where there is none.
-- Assumes nothing.
use Rattle.std.specs.Prelude.{ℕ, zero, suc, ◌+◌, ◌≤◌, ◌<◌, Bool, true, false, ◌≡◌, refl}
use Rattle.std.proofs.Common.{true≢false, ⊎_elim, sym, ap, ◌∙◌, eq-or-lt_of_le, arith}
use Rattle.standard.specs.Numbers.{least}

module _ (p : ℕ → Bool) where
  -- ---- one step

  pub least_here : (k n : ℕ) → p k ≡ true → least k (suc n) p ≡ k
  least_here k n e = ap (λ (b : Bool). elim b as (λ _. ℕ) [ true ↦ k | false ↦ least (suc k) n p ]) e

  pub least_later : (k n : ℕ) → p k ≡ false → least k (suc n) p ≡ least (suc k) n p
  least_later k n e = ap (λ (b : Bool). elim b as (λ _. ℕ) [ true ↦ k | false ↦ least (suc k) n p ]) e

  -- ---- where it lies

  pub least_within : (k n : ℕ) → least k n p ≤ k + n
  least_within k zero = omega arith
  least_within k (suc n) = go (p k) (least_within (suc k) n)
    where
      go : (b : Bool) → least (suc k) n p ≤ suc k + n → elim b as (λ _. ℕ) [ true ↦ k | false ↦ least (suc k) n p ] ≤ k + suc n
      go true h = omega arith
      go false h = omega arith

  -- no higher than any at which the test passes
  pub least_le : (k n v : ℕ) → k ≤ v → v < k + n → p v ≡ true → least k n p ≤ v
  least_le k zero v low high e = absurd (omega arith)
  least_le k (suc n) v low high e = go (p k) refl (λ l. least_le (suc k) n v l (omega arith) e)
    where
      go : (b : Bool) → p k ≡ b → (suc k ≤ v → least (suc k) n p ≤ v) → elim b as (λ _. ℕ) [ true ↦ k | false ↦ least (suc k) n p ] ≤ v
      go true f rest = low
      go false f rest = rest (⊎_elim (λ same. absurd (true≢false (sym e ∙ ap p (sym same) ∙ f))) (λ more. more) (eq-or-lt_of_le low))

  -- ---- what the test says there, before it, and where there is none

  pub least_bounds : (k n : ℕ) → least k n p < k + n → (p (least k n p) ≡ true) × (k ≤ least k n p)
  least_bounds k zero h = absurd (omega arith)
  least_bounds k (suc n) h = go (p k) refl h (λ l. least_bounds (suc k) n l)
    where
      go : (b : Bool) → p k ≡ b → elim b as (λ _. ℕ) [ true ↦ k | false ↦ least (suc k) n p ] < k + suc n
          → (least (suc k) n p < suc k + n → (p (least (suc k) n p) ≡ true) × (suc k ≤ least (suc k) n p))
          → (p (elim b as (λ _. ℕ) [ true ↦ k | false ↦ least (suc k) n p ]) ≡ true) × (k ≤ elim b as (λ _. ℕ) [ true ↦ k | false ↦ least (suc k) n p ])
      go true e l rest = (e, omega arith)
      go false e l rest = let r = rest (omega arith) in (r.0, omega (arith, r.1))

  pub least_before : (k n i : ℕ) → k ≤ i → i < least k n p → p i ≡ false
  least_before k zero i a b = absurd (omega arith)
  least_before k (suc n) i a b = go (p k) refl b (λ more l. least_before (suc k) n i more l)
    where
      go : (t : Bool) → p k ≡ t → i < elim t as (λ _. ℕ) [ true ↦ k | false ↦ least (suc k) n p ]
          → (suc k ≤ i → i < least (suc k) n p → p i ≡ false) → p i ≡ false
      go true e l rest = absurd (omega arith)
      go false e l rest = ⊎_elim (λ same. ap p (sym same) ∙ e) (λ more. rest more l) (eq-or-lt_of_le a)

  pub least_none : (k n : ℕ) → ((i : ℕ) → k ≤ i → i < k + n → p i ≡ false) → least k n p ≡ k + n
  least_none k zero h = omega arith
  least_none k (suc n) h =
      let e : least (suc k) n p ≡ suc k + n = least_none (suc k) n (λ i a b. h i (omega arith) (omega arith)) in
      least_later k n (h k (omega arith) (omega arith)) ∙ e ∙ omega arith
