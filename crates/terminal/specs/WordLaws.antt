-- Laws for the loops and the returns that read words.
-- Assumes nothing.
use Rattle.std.specs.Prelude.{ℕ, suc, ◌+◌, ◌-◌, ◌*◌, ◌≤◌, ◌<◌, Bool, true, false, cond, ◌&&◌, Option, Some, None, List, [], ◌∷◌, ◌≡◌, ◌≢◌, refl, ltb, eqb, length, get_or, take, drop}
use Rattle.std.specs.List.{AllWithin, HoldsAt, starts_with}
use Rattle.std.specs.Option.{MatchOption, unwrap_or}
use Rattle.std.proofs.lemmas.Iterator.{index_from_first}
use Rattle.std.specs.Cmp.Lexicographic.{pointwise}
use Rattle.std.proofs.Common.{sym, ap, ap₂, ◌∙◌, add-one, arith, drop_of_length-le, drop-cons, lt-ltb, le-ltb, eq-eqb, ne_eqb, eqb-true}
use Rattle.std.proofs.lemmas.Bool.{eqb-false}
use Rattle.standard.specs.Numbers.{place, same}
use Rattle.laws.specs.Tests.{split, true_T}
use Rattle.laws.specs.Lists.{place_cons, place_head, same_eq, unequal}
use Rattle.terminal.specs.Words.{begins_with, place_in, small, next_number, number_from, number_of, level_named, switch_named}

-- ---- two words

eqb_turned : (a b : ℕ) → eqb a b ≡ eqb b a
eqb_turned a b = go (eqb a b) refl
  where
    go : (t : Bool) → eqb a b ≡ t → eqb a b ≡ eqb b a
    go true e = e ∙ sym (eq-eqb b a (sym (eqb-true a b e)))
    go false e = e ∙ sym (ne_eqb b a (λ q. eqb-false a b e (sym q)))

same_turned : (a b : List ℕ) → pointwise eqb a b ≡ same b a
same_turned [] [] = refl
same_turned [] (y ∷ ys) = refl
same_turned (x ∷ xs) [] = refl
same_turned (x ∷ xs) (y ∷ ys) = ap₂ (λ (s t : Bool). s && t) (eqb_turned x y) (same_turned xs ys)

differ : (a b : List ℕ) (i : ℕ) → get_or a i 0 ≢ get_or b i 0 → same a b ≡ false
differ a b i n = go (same a b) refl
  where
    go : (t : Bool) → same a b ≡ t → same a b ≡ false
    go true e = absurd (n (ap (λ (l : List ℕ). get_or l i 0) (same_eq a b (true_T (same a b) e))))
    go false e = e

pub starts_begins : (t w : List ℕ) → starts_with eqb t w ≡ begins_with t w
starts_begins t w = same_turned w (take (length w) t)

-- ---- where a byte stands

-- what a search for a byte says of `place`
pub place_found : (c : ℕ) (w : List ℕ) (r : Option ℕ)
    → MatchOption r (AllWithin (λ x. x ≢ c) w 0 (length w)) (λ i. (i < length w) × HoldsAt (λ x. x ≡ c) w i × AllWithin (λ x. x ≢ c) w 0 i) → r ≡ place_in c w
place_found c w r m = go r m (index_from_first (place c) (λ x. x ≡ c) (λ x. x ≢ c) refl (λ x xs h. place_head c x xs (sym h)) miss w r m)
  where
    miss : (x : ℕ) (xs : List ℕ) → x ≢ c → place c (x ∷ xs) ≡ place c xs + 1
    miss x xs h = place_cons c x xs (λ e. h (sym e)) ∙ sym (add-one (place c xs))

    go : (r : Option ℕ) → MatchOption r (AllWithin (λ x. x ≢ c) w 0 (length w)) (λ i. (i < length w) × HoldsAt (λ x. x ≡ c) w i × AllWithin (λ x. x ≢ c) w 0 i)
        → place c w ≡ unwrap_or r (length w) → r ≡ place_in c w
    go None m e = let f : ltb (place c w) (length w) ≡ false = le-ltb _ _ (omega (arith, e)) in rw f
    go (Some i) m e = let f : ltb (place c w) (length w) ≡ true = lt-ltb _ _ (omega (arith, e, m.0)) in rw f (ap Some (sym e))

pub place_within : (c : ℕ) (w : List ℕ) → place c w ≤ length w
place_within c [] = omega arith
place_within c (x ∷ xs) = turn (eqb c x) (place_within c xs)
  where
    turn : (t : Bool) {m n : ℕ} → m ≤ n → elim t as (λ _. ℕ) [ true ↦ 0 | false ↦ suc m ] ≤ suc n
    turn true h = omega arith
    turn false h = omega (arith, h)

-- ---- numbers

pub small_none : (n : ℕ) → None ≡ small n → 256 ≤ n
small_none n e = split n 256 (λ l. absurd (let f : small n ≡ Some n = rw (lt-ltb n 256 l) in cc)) (λ h. h)

pub none_small : (n : ℕ) → 256 ≤ n → None ≡ small n
none_small n h = rw (le-ltb n 256 h)

pub small_is : (m n : ℕ) → Some m ≡ small n → m ≡ n
small_is m n e =
    split n 256
    (λ l. let f : small n ≡ Some n = rw (lt-ltb n 256 l) in cc)
    (λ h. absurd (let f : small n ≡ None = rw (le-ltb n 256 h) in cc))

-- 256 stays
next_over : (n c : ℕ) → 256 ≤ n → 256 ≤ next_number n c
next_over n c h =
    let e : ltb (n * 10 + (c - 48)) 256 ≡ false = le-ltb _ 256 (omega arith) in
    rw e (go (ltb c 48) (ltb 57 c))
  where
    go : (a b : Bool) → 256 ≤ cond a 256 (cond b 256 256)
    go true b = omega arith
    go false true = omega arith
    go false false = omega arith

from_over : (n : ℕ) (w : List ℕ) → 256 ≤ n → 256 ≤ number_from n w
from_over n [] h = h
from_over n (c ∷ cs) h = from_over (next_number n c) cs (next_over n c h)

pub number_start : (w : List ℕ) → (length w ≡ 0 → ⊥) → number_of w ≡ number_from 0 w
number_start [] h = absurd (h refl)
number_start (c ∷ cs) h = refl

number_step : (w : List ℕ) (n i : ℕ) → number_of w ≡ number_from n (drop i w) → i < length w → number_of w ≡ number_from (next_number n (get_or w i 0)) (drop (i + 1) w)
number_step w n i inv h =
    inv ∙ ap (number_from n) (drop-cons w i 0 h) ∙ ap (λ (j : ℕ). number_from (next_number n (get_or w i 0)) (drop j w)) (sym (add-one i))

pub number_next : (w : List ℕ) (n i m : ℕ) → number_of w ≡ number_from n (drop i w) → i < length w → Some m ≡ small (next_number n (get_or w i 0))
    → number_of w ≡ number_from m (drop (i + 1) w)
number_next w n i m inv h e =
    number_step w n i inv h ∙ ap (λ (k : ℕ). number_from k (drop (i + 1) w)) (sym (small_is m (next_number n (get_or w i 0)) e))

pub number_fails : (w : List ℕ) (n i : ℕ) → number_of w ≡ number_from n (drop i w) → i < length w → None ≡ small (next_number n (get_or w i 0)) → None ≡ small (number_of w)
number_fails w n i inv h e =
    let l : 256 ≤ number_from (next_number n (get_or w i 0)) (drop (i + 1) w) = from_over _ (drop (i + 1) w) (small_none _ e) in
    none_small (number_of w) (omega (arith, l, number_step w n i inv h))

pub number_end : (w : List ℕ) (n i : ℕ) → number_of w ≡ number_from n (drop i w) → length w ≤ i → n < 256 → Some n ≡ small (number_of w)
number_end w n i inv h l =
    let e : number_of w ≡ n = inv ∙ ap (number_from n) (drop_of_length-le w {i = i} h) in
    let f : small n ≡ Some n = rw (lt-ltb n 256 l) in sym (ap small e ∙ f)

-- ---- values of options

pub level_none : (w : List ℕ) → (length w ≡ 1 → ⊥) → None ≡ level_named w
level_none w n =
    rw (sym (unequal w (76 ∷ []) n), sym (unequal w (77 ∷ []) n), sym (unequal w (81 ∷ []) n), sym (unequal w (72 ∷ []) n))

pub switch_none : (w : List ℕ) → (length w ≡ 3 → ⊥) → (length w ≡ 2 → ⊥) → None ≡ switch_named w
switch_none w m n = rw (sym (unequal w (111 ∷ 102 ∷ 102 ∷ []) m), sym (unequal w (111 ∷ 110 ∷ []) n))

pub switch_second : (w : List ℕ) → length w ≡ 3 → get_or w 1 0 ≢ 102 → None ≡ switch_named w
switch_second w l n =
    rw (differ w (111 ∷ 102 ∷ 102 ∷ []) 1 n, sym (unequal w (111 ∷ 110 ∷ []) (λ e. omega (arith, l, e))))
