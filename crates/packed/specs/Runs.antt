-- What the runs of a line cost, as a sum over its places: 1 where five equal modules begin, 2 more where that is the last such place of a run.
-- Assumes nothing.
use Rattle.std.specs.Prelude.{◌≡◌, refl, List, [], ◌∷◌, ◌++◌, map, Bool, true, false, ◌&&◌, not, ℕ, zero, suc, ◌+◌, ◌*◌, leb, eqb, replicate}
use Rattle.std.proofs.Common.{sym, ap, ◌∙◌, arith, eqb-true, eq-eqb, le-leb}
use Rattle.std.proofs.Math.Dec.{leb-zero, leb-suc-zero, leb-suc-suc}
use Rattle.standard.specs.Numbers.{one, sum}
use Rattle.standard.specs.Penalty.{runs_from, runs, run_cost}

-- the first k modules are there, and of colour c
unfoldable pub lead : ℕ → ℕ → List ℕ → Bool
lead zero c xs = true
lead (suc k) c [] = false
lead (suc k) c (x ∷ xs) = eqb x c && lead k c xs

-- five equal modules begin here
unfoldable pub five : List ℕ → Bool
five [] = false
five (x ∷ xs) = lead 4 x xs

unfoldable pub place_cost : List ℕ → ℕ
place_cost [] = 0
place_cost (x ∷ xs) = one (five (x ∷ xs)) + 2 * one (five (x ∷ xs) && not (five xs)) + place_cost xs

-- no module of colour c stands first
lead_stop : (k c : ℕ) (ys : List ℕ) → lead 1 c ys ≡ false → lead (suc k) c ys ≡ false
unfolding lead
lead_stop k c [] h = refl
lead_stop k c (y ∷ ys) h = go (eqb y c) h
  where
    go : (b : Bool) → (b && true) ≡ false → (b && lead k c ys) ≡ false
    go false e = refl
    go true e = let z : ◌≡◌ {A = Bool} true false = e in cc

lead_block : (k c m : ℕ) (ys : List ℕ) → lead 1 c ys ≡ false → lead k c (replicate m c ++ ys) ≡ leb k m
unfolding lead
lead_block zero c m ys h = sym (leb-zero m)
lead_block (suc k) c zero ys h = lead_stop k c ys h ∙ sym (leb-suc-zero k)
lead_block (suc k) c (suc m) ys h = rw (eq-eqb c c refl) (lead_block k c m ys h ∙ sym (leb-suc-suc k m))

one_block : (c m : ℕ) (ys : List ℕ) → lead 1 c ys ≡ false
    → one (leb 4 m) + 2 * one (leb 4 m && not (five (replicate m c ++ ys))) + run_cost m ≡ run_cost (suc m)
unfolding five run_cost
one_block c zero ys h = omega arith
one_block c (suc zero) ys h = refl
one_block c (suc (suc zero)) ys h = refl
one_block c (suc (suc (suc zero))) ys h = refl
one_block c (suc (suc (suc (suc zero)))) ys h = rw (lead_block 4 c 3 ys h)
one_block c (suc (suc (suc (suc (suc m))))) ys h =
    rw (
      lead_block 4 c (suc (suc (suc (suc m)))) ys h,
      le-leb 4 (suc (suc (suc (suc m)))) (omega arith),
      le-leb 4 (suc (suc (suc (suc (suc m))))) (omega arith),
      le-leb 5 (suc (suc (suc (suc (suc m))))) (omega arith),
      le-leb 5 (suc (suc (suc (suc (suc (suc m)))))) (omega arith),
    ) (omega arith)

-- a whole run, and what follows it
block : (c n : ℕ) (ys : List ℕ) → lead 1 c ys ≡ false → place_cost (replicate n c ++ ys) ≡ run_cost n + place_cost ys
unfolding place_cost five run_cost
block c zero ys h = omega arith
block c (suc m) ys h = rw (lead_block 4 c m ys h, block c m ys h) (omega (arith, one_block c m ys h))

-- a run grows by the module that follows it
pub grown : (n c : ℕ) (xs : List ℕ) → replicate n c ++ (c ∷ xs) ≡ replicate (suc n) c ++ xs
grown zero c xs = refl
grown (suc n) c xs = ap (λ (l : List ℕ). c ∷ l) (grown n c xs)

from_runs : (xs : List ℕ) (c n : ℕ) → place_cost (replicate n c ++ xs) ≡ sum (map run_cost (runs_from c n xs))
unfolding runs_from lead place_cost
from_runs [] c n = block c n [] refl
from_runs (x ∷ xs) c n = go (eqb x c) refl (from_runs xs c (suc n)) (from_runs xs x 1)
  where
    go : (b : Bool) → eqb x c ≡ b
        → place_cost (replicate (suc n) c ++ xs) ≡ sum (map run_cost (runs_from c (suc n) xs))
        → place_cost (x ∷ xs) ≡ sum (map run_cost (runs_from x 1 xs))
        → place_cost (replicate n c ++ (x ∷ xs)) ≡ sum (map run_cost (elim b [ true ↦ runs_from c (suc n) xs | false ↦ n ∷ runs_from x 1 xs ]))
    go true e more new = rw (eqb-true x c e, grown n c xs) more
    go false e more new = block c n (x ∷ xs) (rw e) ∙ ap (λ (m : ℕ). run_cost n + m) new

-- what the runs of a line cost
pub runs_cost : (xs : List ℕ) → place_cost xs ≡ sum (map run_cost (runs xs))
unfolding runs
runs_cost xs = from_runs xs 0 0
