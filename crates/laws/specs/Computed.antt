-- Tests that are computed over a range: where the test passes at each number, what it says holds at each.
-- Assumes nothing.
use Rattle.std.specs.Prelude.{ℕ, zero, suc, ◌+◌, ◌≤◌, ◌<◌, Bool, true, false, ◌≡◌, refl, T, ltb}
use Rattle.std.proofs.Common.{subst, arith, ltb-true, ltb-false}
use Rattle.standard.specs.Numbers.{every, from}
use Rattle.laws.specs.Tests.{and_left, and_right}

-- the test passes at k, k + 1, .. , n of them
abbrev pub among : ℕ → ℕ → (ℕ → Bool) → Bool
among k n p = every p (from k n (λ i. i))

pub each_of : (p : ℕ → Bool) (k n : ℕ) → T (among k n p) → (i : ℕ) → k ≤ i → i < k + n → T (p i)
each_of p k zero t i low high = absurd (omega arith)
each_of p k (suc n) t i low high =
    go (ltb k i) refl (λ (h : k < i). each_of p (suc k) n (and_right (p k) (among (suc k) n p) t) i h (omega arith))
  where
    go : (b : Bool) → ltb k i ≡ b → (k < i → T (p i)) → T (p i)
    go true e later = later (ltb-true k i e)
    go false e later =
        let here : k ≡ i = omega (arith, ltb-false k i e) in
        subst (λ (m : ℕ). T (p m)) here (and_left (p k) (among (suc k) n p) t)

-- below n
pub below : (p : ℕ → Bool) (n : ℕ) → T (among 0 n p) → (i : ℕ) → i < n → T (p i)
below p n t i h = each_of p 0 n t i (omega arith) (omega arith)

-- at each version
pub at_version : (p : ℕ → Bool) → T (among 1 40 p) → (v : ℕ) → 1 ≤ v → v ≤ 40 → T (p v)
at_version p t v low high = each_of p 1 40 t v low (omega arith)

-- at each version and level
pub at_level : (p : ℕ → ℕ → Bool) → T (among 1 40 (λ v. among 0 4 (p v))) → (v l : ℕ) → 1 ≤ v → v ≤ 40 → l ≤ 3 → T (p v l)
at_level p t v l low high h = below (p v) 4 (at_version (λ v. among 0 4 (p v)) t v low high) l (omega arith)
