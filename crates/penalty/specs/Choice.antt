-- The automatic choice takes a candidate of least penalty, the lowest of those; a running minimum with a strict < finds it.
-- Document 01, "Modules". Assumes nothing.
use Rattle.std.specs.Prelude.{◌≡◌, refl, List, [], ◌∷◌, Bool, true, false, ◌⊎◌, ℕ, zero, suc, ◌+◌, ◌≤◌, ◌<◌, min, eqb, length, get_or}
use Rattle.std.proofs.Common.{sym, ap, ◌∙◌, inl, inr, not-suc-le-zero, le_of_suc-le-suc, arith, eqb-true, lt-ltb, le-ltb}
use Rattle.std.proofs.lemmas.Bool.{eqb-false}
use Rattle.standard.specs.Numbers.{place, tabulate}
use Rattle.standard.specs.Sizes.{side}
use Rattle.standard.specs.Grid.{grid}
use Rattle.standard.specs.Penalty.{penalty}
use Rattle.standard.specs.Choice.{lowest, place_of_least, scores, chosen}
use Rattle.laws.specs.Tests.{compared}
use Rattle.laws.specs.Lists.{length_tabulate, get_d_tabulate}

-- ---- the least number of a list

lowest_le : (n : ℕ) (xs : List ℕ) (i : ℕ) → i < length (n ∷ xs) → lowest n xs ≤ get_or (n ∷ xs) i 0
unfolding lowest
lowest_le n [] zero h = omega arith
lowest_le n [] (suc i) h = absurd (not-suc-le-zero (le_of_suc-le-suc h))
lowest_le n (x ∷ xs) zero h = omega (arith, lowest_le (min n x) xs 0 (omega arith))
lowest_le n (x ∷ xs) (suc zero) h = omega (arith, lowest_le (min n x) xs 0 (omega arith))
lowest_le n (x ∷ xs) (suc (suc i)) h = lowest_le (min n x) xs (suc i) (le_of_suc-le-suc h)

-- it stands in the list
abbrev Stands : ℕ → List ℕ → Type 0
Stands x ys = (i : ℕ) × (i < length ys) × (get_or ys i 0 ≡ x)

lowest_stands : (n : ℕ) (xs : List ℕ) → Stands (lowest n xs) (n ∷ xs)
unfolding lowest
lowest_stands n [] = (0, omega arith, refl)
lowest_stands n (x ∷ xs) = go (lowest_stands (min n x) xs) (compared n x)
  where
    go : Stands (lowest (min n x) xs) (min n x ∷ xs) → (n < x) ⊎ ((n ≡ x) ⊎ (x < n)) → Stands (lowest (min n x) xs) (n ∷ x ∷ xs)
    go (zero, h, e) (inl l) = (0, omega arith, omega arith)
    go (zero, h, e) (inr (inl l)) = (0, omega arith, omega arith)
    go (zero, h, e) (inr (inr l)) = (1, omega arith, omega arith)
    go (suc i, h, e) l = (suc (suc i), omega arith, e)

-- where it first stands
place_here : (x i : ℕ) (ys : List ℕ) → i < length ys → get_or ys i 0 ≡ x → (place x ys < length ys) × (get_or ys (place x ys) 0 ≡ x)
place_here x i [] h e = absurd (not-suc-le-zero h)
place_here x zero (y ∷ ys) h e = go (eqb x y) refl
  where
    go : (b : Bool) → eqb x y ≡ b
        → (elim b [ true ↦ 0 | false ↦ suc (place x ys) ] < length (y ∷ ys)) × (get_or (y ∷ ys) (elim b [ true ↦ 0 | false ↦ suc (place x ys) ]) 0 ≡ x)
    go true q = (omega arith, e)
    go false q = absurd (eqb-false x y q (sym e))
place_here x (suc i) (y ∷ ys) h e = go (eqb x y) refl (place_here x i ys (le_of_suc-le-suc h) e)
  where
    go : (b : Bool) → eqb x y ≡ b → (place x ys < length ys) × (get_or ys (place x ys) 0 ≡ x)
        → (elim b [ true ↦ 0 | false ↦ suc (place x ys) ] < length (y ∷ ys)) × (get_or (y ∷ ys) (elim b [ true ↦ 0 | false ↦ suc (place x ys) ]) 0 ≡ x)
    go true q r = (omega arith, sym (eqb-true x y q))
    go false q r = (omega (arith, r.0), r.1)

place_first : (x i : ℕ) (ys : List ℕ) → i < place x ys → get_or ys i 0 ≡ x → ⊥
place_first x i [] h e = not-suc-le-zero h
place_first x i (y ∷ ys) h e = go i (eqb x y) refl (λ j. place_first x j ys) h e
  where
    go : (i : ℕ) (b : Bool) → eqb x y ≡ b → ((j : ℕ) → j < place x ys → get_or ys j 0 ≡ x → ⊥)
        → i < elim b [ true ↦ 0 | false ↦ suc (place x ys) ] → get_or (y ∷ ys) i 0 ≡ x → ⊥
    go i true q later h e = not-suc-le-zero h
    go zero false q later h e = eqb-false x y q (sym e)
    go (suc i) false q later h e = later i (le_of_suc-le-suc h) e

-- ---- the choice

pub chosen_in : (xs : List ℕ) → 0 < length xs → place_of_least xs < length xs
unfolding place_of_least
chosen_in [] h = absurd (not-suc-le-zero h)
chosen_in (x ∷ xs) h = let s = lowest_stands x xs in (place_here (lowest x xs) s.0 (x ∷ xs) s.1 s.2).0

chosen_is : (x : ℕ) (xs : List ℕ) → get_or (x ∷ xs) (place_of_least (x ∷ xs)) 0 ≡ lowest x xs
unfolding place_of_least
chosen_is x xs = let s = lowest_stands x xs in (place_here (lowest x xs) s.0 (x ∷ xs) s.1 s.2).1

-- no other is less
pub chosen_least : (xs : List ℕ) (i : ℕ) → i < length xs → get_or xs (place_of_least xs) 0 ≤ get_or xs i 0
chosen_least [] i h = absurd (not-suc-le-zero h)
chosen_least (x ∷ xs) i h = omega (arith, chosen_is x xs, lowest_le x xs i h)

-- each before it is greater
pub chosen_first : (xs : List ℕ) (i : ℕ) → i < place_of_least xs → get_or xs (place_of_least xs) 0 < get_or xs i 0
unfolding place_of_least
chosen_first [] i h = absurd (not-suc-le-zero h)
chosen_first (x ∷ xs) i h =
    let l = chosen_least (x ∷ xs) i (omega (arith, chosen_in (x ∷ xs) (omega arith))) in
    let ne : get_or (x ∷ xs) i 0 ≡ lowest x xs → ⊥ = place_first (lowest x xs) i (x ∷ xs) h in
    omega (arith, chosen_is x xs, l)

-- no other place is so
pub chosen_only : (xs : List ℕ) (p : ℕ) → p < length xs → ((i : ℕ) → i < length xs → get_or xs p 0 ≤ get_or xs i 0)
    → ((i : ℕ) → i < p → get_or xs p 0 < get_or xs i 0) → p ≡ place_of_least xs
chosen_only xs p h least first = go (compared p (place_of_least xs))
  where
    q : place_of_least xs < length xs
    q = chosen_in xs (omega arith)

    go : (p < place_of_least xs) ⊎ ((p ≡ place_of_least xs) ⊎ (place_of_least xs < p)) → p ≡ place_of_least xs
    go (inl l) = absurd (omega (arith, chosen_first xs p l, least (place_of_least xs) q))
    go (inr (inl e)) = e
    go (inr (inr l)) = absurd (omega (arith, first (place_of_least xs) l, chosen_least xs p h))

-- ---- the mask of a label

-- a named mask is taken as it is
pub mask_named_lem : (v l m : ℕ) (g : List ℕ) → m < 8 → chosen v l m g ≡ m
unfolding chosen
mask_named_lem v l m g h = rw (lt-ltb m 8 h)

module _ (v l m : ℕ) (g : List ℕ) (h : 8 ≤ m) where
  score : ℕ → ℕ
  score k = penalty (side v) (grid v l k g)

  automatic : chosen v l m g ≡ place_of_least (scores v l g)
  unfolding chosen
  automatic = rw (le-ltb m 8 h)

  eight : length (scores v l g) ≡ 8
  unfolding scores
  eight = length_tabulate 8 score

  score_at : (k : ℕ) → k < 8 → get_or (scores v l g) k 0 ≡ score k
  unfolding scores score
  score_at k b = get_d_tabulate 8 score k 0 b

  pub mask_in : chosen v l m g < 8
  mask_in = omega (arith, automatic, eight, chosen_in (scores v l g) (omega (arith, eight)))

  best : get_or (scores v l g) (place_of_least (scores v l g)) 0 ≡ score (chosen v l m g)
  best = ap (λ (k : ℕ). get_or (scores v l g) k 0) (sym automatic) ∙ score_at (chosen v l m g) mask_in

  -- no mask has a lesser penalty
  pub mask_least : (k : ℕ) → k < 8 → penalty (side v) (grid v l (chosen v l m g) g) ≤ penalty (side v) (grid v l k g)
  unfolding score
  mask_least k b = omega (arith, best, score_at k b, chosen_least (scores v l g) k (omega (arith, eight)))

  -- each lower mask has a greater one
  pub mask_first : (k : ℕ) → k < chosen v l m g → penalty (side v) (grid v l (chosen v l m g) g) < penalty (side v) (grid v l k g)
  unfolding score
  mask_first k b = omega (arith, best, score_at k (omega (arith, mask_in)), chosen_first (scores v l g) k (omega (arith, automatic)))

-- ---- a running minimum

-- after n candidates with the scores f the best is k with the score m, which begins at top
pub record Best (top : ℕ) (f : ℕ → ℕ) (n k m : ℕ) : Type 0 where
  pub begun : n ≡ 0 → m ≡ top
  pub kept : 0 < n → (k < n) × (m ≡ f k)
  pub least : (i : ℕ) → i < n → m ≤ f i
  pub first : (i : ℕ) → i < k → i < n → m < f i

module _ (top : ℕ) (f : ℕ → ℕ) where
  pub best_start : (k m : ℕ) → m ≡ top → Best top f 0 k m
  best_start k m e =
      record {
        begun = λ z. e;
        kept = λ z. absurd (omega arith);
        least = λ i l. absurd (omega arith);
        first = λ i l h. absurd (omega arith);
      }

  -- candidate n is better
  pub best_next : (n k m p : ℕ) → Best top f n k m → p ≡ f n → p < m → Best top f (n + 1) n p
  best_next n k m p b e l =
      record {
        begun = λ z. absurd (omega arith);
        kept = λ z. (omega arith, e);
        least = λ i h. below i h (compared i n);
        first = λ i h z. omega (arith, b.least i h);
      }
    where
      below : (i : ℕ) → i < n + 1 → (i < n) ⊎ ((i ≡ n) ⊎ (n < i)) → p ≤ f i
      below i h (inl z) = omega (arith, b.least i z)
      below i h (inr (inl z)) = omega (arith, ap f z)
      below i h (inr (inr z)) = absurd (omega arith)

  -- it is not
  pub best_same : (n k m p : ℕ) → Best top f n k m → p ≡ f n → m ≤ p → p < top → Best top f (n + 1) k m
  best_same n k m p b e l t =
      record {
        begun = λ z. absurd (omega arith);
        kept = λ z. (omega (arith, more.0), more.1);
        least = λ i h. below i h (compared i n);
        first = λ i h z. b.first i h (omega (arith, more.0));
      }
    where
      past : (n < 1) ⊎ ((n ≡ 1) ⊎ (1 < n)) → 0 < n
      past (inl z) = let none : n ≡ 0 = omega arith in absurd (omega (arith, b.begun none))
      past (inr (inl z)) = omega arith
      past (inr (inr z)) = omega arith

      more : (k < n) × (m ≡ f k)
      more = b.kept (past (compared n 1))

      below : (i : ℕ) → i < n + 1 → (i < n) ⊎ ((i ≡ n) ⊎ (n < i)) → m ≤ f i
      below i h (inl z) = b.least i z
      below i h (inr (inl z)) = omega (arith, ap f z)
      below i h (inr (inr z)) = absurd (omega arith)

  -- after the last it is the choice
  pub best_end : (n j k m : ℕ) → Best top f n k m → n ≤ j → j ≤ n → 0 < j → k ≡ place_of_least (tabulate j f)
  best_end n j k m b u v l =
      chosen_only (tabulate j f) k (omega (arith, size, below))
      (λ i h. let g : i < j = omega (arith, size) in omega (arith, here k below, here i g, kept.1, b.least i (omega arith)))
      (λ i h. let g : i < j = omega (arith, below) in omega (arith, here k below, here i g, kept.1, b.first i h (omega arith)))
    where
      size : length (tabulate j f) ≡ j
      size = length_tabulate j f

      kept : (k < n) × (m ≡ f k)
      kept = b.kept (omega arith)

      below : k < j
      below = omega (arith, kept.0)

      here : (i : ℕ) → i < j → get_or (tabulate j f) i 0 ≡ f i
      here i h = get_d_tabulate j f i 0 h
