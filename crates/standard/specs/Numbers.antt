-- Words on numbers and lists that the definition of a label is written in.
-- Assumes nothing.
use Rattle.std.specs.Prelude.{ℕ, zero, suc, ◌+◌, ◌-◌, ◌/◌, ◌%◌, ◌^◌, Bool, true, false, ◌&&◌, List, [], ◌∷◌, ◌++◌, eqb}

-- ---- numbers

-- how far two numbers are apart
abbrev pub apart : ℕ → ℕ → ℕ
apart a b = (a - b) + (b - a)

-- digit k of n in base two
abbrev pub bit : ℕ → ℕ → ℕ
bit n k = n / 2 ^ k % 2

-- 1 where the test passes, 0 where it fails
abbrev pub one : Bool → ℕ
one true = 1
one false = 0

-- the lowest of k, k + 1, .. , n of them, at which the test passes; k + n where it passes at none
abbrev pub least : ℕ → ℕ → (ℕ → Bool) → ℕ
least k zero p = k
least k (suc n) p = elim (p k) [ true ↦ k | false ↦ least (suc k) n p ]

-- the highest of k + 1, .. , k + n at which the test passes; k where it passes at none
abbrev pub highest : ℕ → ℕ → (ℕ → Bool) → ℕ
highest k zero p = k
highest k (suc n) p = elim (p (k + suc n)) [ true ↦ k + suc n | false ↦ highest k n p ]

-- ---- lists

-- f k, f (k + 1), .. , n of them
abbrev pub from : {A : Type 0} → ℕ → ℕ → (ℕ → A) → List A
from k zero f = []
from k (suc n) f = f k ∷ from (suc k) n f

-- f 0, f 1, .. , n of them
abbrev pub tabulate : {A : Type 0} → ℕ → (ℕ → A) → List A
tabulate n f = from 0 n f

-- the test passes at each
abbrev pub every : {A : Type 0} → (A → Bool) → List A → Bool
every p [] = true
every p (x ∷ xs) = p x && every p xs

abbrev pub cons_if : Bool → ℕ → List ℕ → List ℕ
cons_if true x xs = x ∷ xs
cons_if false x xs = xs

-- the elements at which the test passes
abbrev pub keep : (ℕ → Bool) → List ℕ → List ℕ
keep p [] = []
keep p (x ∷ xs) = cons_if (p x) x (keep p xs)

-- the place at which x first stands; the length where it stands at none
abbrev pub place : ℕ → List ℕ → ℕ
place x [] = 0
place x (y ∷ ys) = elim (eqb x y) [ true ↦ 0 | false ↦ suc (place x ys) ]

abbrev pub sum : List ℕ → ℕ
sum [] = 0
sum (x ∷ xs) = x + sum xs

abbrev pub join : List (List ℕ) → List ℕ
join [] = []
join (x ∷ xs) = x ++ join xs

-- two lists have the same numbers
abbrev pub same : List ℕ → List ℕ → Bool
same [] [] = true
same [] (y ∷ ys) = false
same (x ∷ xs) [] = false
same (x ∷ xs) (y ∷ ys) = eqb x y && same xs ys
