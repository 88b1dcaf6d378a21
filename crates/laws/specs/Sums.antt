-- Sums over a range of numbers, cut into parts, and as a loop adds them up.
-- Assumes nothing.
use Rattle.std.specs.Prelude.{ℕ, zero, suc, ◌+◌, ◌*◌, ◌≤◌, ◌<◌, List, [], ◌∷◌, ◌++◌, ◌≡◌, refl}
use Rattle.std.proofs.Common.{sym, ap, ap₂, ◌∙◌, arith, zero-add, add_assoc, add-zero, add-suc, zero-mul, le_antisymm}
use Rattle.standard.specs.Numbers.{from, tabulate, sum}
use Rattle.laws.specs.Lists.{from_cong, from_append}

pub sum_append : (xs ys : List ℕ) → sum (xs ++ ys) ≡ sum xs + sum ys
sum_append [] ys = sym (zero-add (sum ys))
sum_append (x ∷ xs) ys = ap (λ (n : ℕ). x + n) (sum_append xs ys) ∙ sym (add_assoc x (sum xs) (sum ys))

pub sum_cong : (f g : ℕ → ℕ) (i n : ℕ) → ((k : ℕ) → i ≤ k → k < i + n → f k ≡ g k) → sum (from i n f) ≡ sum (from i n g)
sum_cong f g i n e = ap sum (from_cong i n f g e)

pub sum_parts : (g : ℕ → ℕ) (i a b : ℕ) → sum (from i (a + b) g) ≡ sum (from i a g) + sum (from (i + a) b g)
sum_parts g i a b = ap sum (from_append i a b g) ∙ sum_append (from i a g) (from (i + a) b g)

pub sum_shift : (g : ℕ → ℕ) (a i n : ℕ) → sum (from (a + i) n g) ≡ sum (from i n (λ k. g (a + k)))
sum_shift g a i zero = refl
sum_shift g a i (suc n) =
    ap (λ (m : ℕ). g (a + i) + sum (from m n g)) (sym (add-suc a i)) ∙ ap (λ (m : ℕ). g (a + i) + m) (sum_shift g a (suc i) n)

-- n blocks of m terms
pub sum_blocks : (g : ℕ → ℕ) (m i n : ℕ) → sum (from (i * m) (n * m) g) ≡ sum (from i n (λ q. sum (from (q * m) m g)))
sum_blocks g m i zero = ap (λ (k : ℕ). sum (from (i * m) k g)) (zero-mul m)
sum_blocks g m i (suc n) =
    let more : suc n * m ≡ m + n * m = omega arith in
    let next : i * m + m ≡ suc i * m = omega arith in
    ap (λ (k : ℕ). sum (from (i * m) k g)) more
    ∙ sum_parts g (i * m) m (n * m)
    ∙ ap (λ (k : ℕ). sum (from (i * m) m g) + sum (from k (n * m) g)) next
    ∙ ap (λ (k : ℕ). sum (from (i * m) m g) + k) (sum_blocks g m (suc i) n)

-- a sum is at most as many times the greatest term
pub sum_le : (f : ℕ → ℕ) (c k n : ℕ) → ((i : ℕ) → f i ≤ c) → sum (from k n f) ≤ n * c
sum_le f c k zero h = omega arith
sum_le f c k (suc n) h = omega (arith, h k, sum_le f c (suc k) n h)

-- ---- a loop that adds up

pub sum_next : (f : ℕ → ℕ) (n a b : ℕ) → a ≡ sum (tabulate n f) → b ≡ f n → a + b ≡ sum (tabulate (n + 1) f)
sum_next f n a b e q =
    ap₂ ◌+◌ e (q ∙ sym (add-zero (f n)) ∙ ap (λ (m : ℕ). f m + 0) (sym (zero-add n)))
    ∙ sym (sum_parts f 0 n 1)

pub sum_end : (f : ℕ → ℕ) (n m a : ℕ) → a ≡ sum (tabulate n f) → n ≤ m → m ≤ n → a ≡ sum (tabulate m f)
sum_end f n m a e l h = rw (le_antisymm l h) at e
