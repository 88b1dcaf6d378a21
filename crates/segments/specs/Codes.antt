-- Laws that the proofs of the functions on codes of characters and numbers of groups cite.
-- Assumes nothing.
use Rattle.std.specs.Prelude.{Option, Some, None, MatchOption, Bool, true, false, cond, nat_lt, ◌==◌, ◌≡◌, ℕ, zero, suc, ◌+◌, ◌*◌, ◌^◌, ◌<◌, ◌≤◌, T, List, [], ◌∷◌, ◌++◌, length, take, slice_index, refl}
use Rattle.std.specs.List.{position_or_len, position}
use Rattle.std.proofs.lemmas.List.Recursion.{is_position_or_len}
use Rattle.std.proofs.lemmas.List.{take_more}
use Rattle.std.proofs.Common.{ltb-true, ltb-false, take_all, length-take-le, sym, ap, ap₂, ◌∙◌, subst, arith, pow_mono}
use Rattle.standard.specs.Numbers.{place, every}
use Rattle.standard.specs.Kinds.{alphabet, code, allowed}
use Rattle.laws.specs.Lists.{every_at}
use Rattle.segments.specs.Kinds.{length_alphabet, size, base, width, code_of, limit, group_number, number_small, every_take}
use Rattle.segments.specs.Tables.{width_le}

-- ---- the place of a character

-- what the library's `position` answers of the alphabet
pub place_is : (c : ℕ) (r : Option ℕ) → r ≡ position (λ x. x == c) alphabet → MatchOption r (45 ≤ code c) (λ i. (i ≡ code c) × (i < 45))
unfolding code
place_is c r e = subst (λ (o : Option ℕ). Says o) (sym (e ∙ is)) (go (nat_lt (code c) 45) refl)
  where
    Says : Option ℕ → Type 0
    Says o = MatchOption o (45 ≤ code c) (λ i. (i ≡ code c) × (i < 45))

    step : (b : Bool) (n : ℕ) → elim b as (λ _. ℕ) [ true ↦ 0 | false ↦ suc n ] ≡ cond b 0 (1 + n)
    step true n = refl
    step false n = omega arith

    turned : (a b : ℕ) → (a == b) ≡ (b == a)
    turned a b = grind arith

    first : (l : List ℕ) → position_or_len (λ x. x == c) l ≡ place c l
    first l = sym (is_position_or_len (place c) (λ x. x == c) refl (λ y ys. ap (λ (b : Bool). elim b as (λ _. ℕ) [ true ↦ 0 | false ↦ suc (place c ys) ]) (turned c y) ∙ step (y == c) (place c ys)) l)

    is : position (λ x. x == c) alphabet ≡ cond (nat_lt (code c) 45) (Some (code c)) None
    is = ap₂ (λ (i n : ℕ). cond (nat_lt i n) (Some i) None) (first alphabet) (sym length_alphabet)

    go : (b : Bool) → nat_lt (code c) 45 ≡ b → Says (cond b (Some (code c)) None)
    go true q = (refl, ltb-true (code c) 45 q)
    go false q = ltb-false (code c) 45 q

-- ---- the number of a group
number_snoc : (k a : ℕ) (l : List ℕ) (c : ℕ) → group_number k a (l ++ (c ∷ [])) ≡ group_number k a l * base k + code_of k c
unfolding group_number
number_snoc k a [] c = refl
number_snoc k a (x ∷ l) c = number_snoc k (a * base k + code_of k x) l c

base_power : (k b : ℕ) → b ≡ base k ^ 1 → b ≡ base k
base_power zero b e = e
base_power (suc zero) b e = e
base_power (suc (suc zero)) b e = e
base_power (suc (suc (suc k))) b e = e

power_fits : (k i : ℕ) → i ≤ size k → base k ^ i ≤ 2 ^ 11
power_fits k i h =
    let a : base k ^ i ≤ 2 ^ width k i = limit k i h in
    let b : 2 ^ width k i ≤ 2 ^ 11 = pow_mono (width_le k i) in
    omega arith

module _ (k : ℕ) (t : List ℕ) where
  pub number_start : 0 ≡ group_number k 0 []
  unfolding group_number
  number_start = refl

  pub number_end : (x : ℕ) → x ≡ group_number k 0 (take (length t) t) → x ≡ group_number k 0 t
  number_end x e = e ∙ ap (group_number k 0) (take_all (length t) t (omega arith))

  module _ (j x b d : ℕ) (inv : x ≡ group_number k 0 (take j t)) (eb : b ≡ base k ^ 1) (ed : d ≡ code_of k (slice_index t j)) (h : j < length t) where
    pub number_next : x * b + d ≡ group_number k 0 (take (j + 1) t)
    number_next =
        ap₂ (λ (y z : ℕ). y * z + d) inv (base_power k b eb) ∙ ap (λ (y : ℕ). group_number k 0 (take j t) * base k + y) ed
        ∙ sym (number_snoc k 0 (take j t) (slice_index t j)) ∙ ap (group_number k 0) (sym (take_more t j 0 h))

    module _ (good : T (every (allowed k) t)) (short : length t ≤ size k) where
      pub number_fits : x * b + d < 2 ^ 32
      number_fits =
          let s : group_number k 0 (take (j + 1) t) < base k ^ length (take (j + 1) t) = number_small k (take (j + 1) t) (every_take (allowed k) (j + 1) t good) in
          let l : length (take (j + 1) t) ≡ j + 1 = length-take-le (j + 1) t (omega arith) in
          let p : base k ^ (j + 1) ≤ 2 ^ 11 = power_fits k (j + 1) (omega arith) in
          let q : base k ^ length (take (j + 1) t) ≡ base k ^ (j + 1) = ap (λ (i : ℕ). base k ^ i) l in
          omega (arith, number_next)

      pub product_fits : x * b < 2 ^ 32
      product_fits = omega (arith, number_fits)

-- each character of a text is one of the kind
pub char_at : (k : ℕ) (t : List ℕ) (i : ℕ) → T (every (allowed k) t) → i < length t → T (allowed k (slice_index t i))
char_at k t i h l = every_at (allowed k) t i 0 h l
