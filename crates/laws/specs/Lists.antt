-- Laws on the definition's words for lists: from, tabulate, every, same, place, Bytes, bits.
-- Assumes nothing.
use Rattle.std.specs.Prelude.{ℕ, zero, suc, ◌+◌, ◌*◌, ◌≤◌, ◌<◌, Bool, true, false, ◌&&◌, List, [], ◌∷◌, ◌++◌, map, ◌≡◌, refl, T, eqb, length, get_or, take, replicate}
use Rattle.std.proofs.Common.{sym, ap, ap₂, ◌∙◌, not-suc-le-zero, le_of_suc-le-suc, add-zero, add-suc, suc-add, zero-add, arith, eqb→eq, length-append, ext_get_or, eq-eqb, ne_eqb}
use Rattle.standard.specs.Numbers.{from, tabulate, every, same, place}
use Rattle.standard.specs.Bits.{bits, unpack}
use Rattle.standard.specs.Field.{Bytes}
use Rattle.laws.specs.Tests.{and_left, and_right, and_pair, and_both}

-- ---- from and tabulate

module _ {A : Type 0} where
  pub length_from : (k n : ℕ) (f : ℕ → A) → length (from k n f) ≡ n
  length_from k zero f = refl
  length_from k (suc n) f = ap suc (length_from (suc k) n f)

  pub get_d_from : (k n : ℕ) (f : ℕ → A) (i : ℕ) (d : A) → i < n → get_or (from k n f) i d ≡ f (k + i)
  get_d_from k zero f i d h = absurd (not-suc-le-zero h)
  get_d_from k (suc n) f zero d h = ap f (sym (add-zero k))
  get_d_from k (suc n) f (suc i) d h = get_d_from (suc k) n f i d (le_of_suc-le-suc h) ∙ ap f (suc-add k i ∙ sym (add-suc k i))

  pub length_tabulate : (n : ℕ) (f : ℕ → A) → length (tabulate n f) ≡ n
  length_tabulate n f = length_from 0 n f

  pub get_d_tabulate : (n : ℕ) (f : ℕ → A) (i : ℕ) (d : A) → i < n → get_or (tabulate n f) i d ≡ f i
  get_d_tabulate n f i d h = get_d_from 0 n f i d h ∙ ap f (zero-add i)

  -- a list that has f's value at each place is the table of f
  pub is_tabulate : (d : A) (l : List A) (n : ℕ) (f : ℕ → A) → length l ≡ n → ((i : ℕ) → i < n → get_or l i d ≡ f i) → l ≡ tabulate n f
  is_tabulate d l n f e h =
      ext_get_or d l (tabulate n f) (e ∙ sym (length_tabulate n f))
      (λ i b. let b' : i < n = omega (arith, e) in h i b' ∙ sym (get_d_tabulate n f i d b'))

  pub from_cong : (k n : ℕ) (f g : ℕ → A) → ((i : ℕ) → k ≤ i → i < k + n → f i ≡ g i) → from k n f ≡ from k n g
  from_cong k zero f g h = refl
  from_cong k (suc n) f g h =
      ap₂ (λ (x : A) (l : List A). x ∷ l) (h k (omega arith) (omega arith))
      (from_cong (suc k) n f g (λ i l b. h i (omega arith) (omega arith)))

  pub from_append : (k a b : ℕ) (f : ℕ → A) → from k (a + b) f ≡ from k a f ++ from (k + a) b f
  from_append k zero b f = ap₂ (λ (m n : ℕ). from m n f) (sym (add-zero k)) (zero-add b)
  from_append k (suc a) b f =
      ap (λ (n : ℕ). from k n f) (suc-add a b)
      ∙ ap (λ (l : List A). f k ∷ l) (from_append (suc k) a b f ∙ ap (λ (m : ℕ). from (suc k) a f ++ from m b f) (suc-add k a ∙ sym (add-suc k a)))

pub map_from : {A B : Type 0} (f : A → B) (k n : ℕ) (g : ℕ → A) → map f (from k n g) ≡ from k n (λ i. f (g i))
map_from {A} {B} f k zero g = refl
map_from {A} {B} f k (suc n) g = ap (λ (l : List B). f (g k) ∷ l) (map_from f (suc k) n g)

-- ---- every

module _ {A : Type 0} (p : A → Bool) where
  pub every_append : (xs ys : List A) → T (every p xs) → T (every p ys) → T (every p (xs ++ ys))
  every_append [] ys t u = u
  every_append (x ∷ xs) ys t u =
      and_pair (p x) (every p (xs ++ ys)) (and_left (p x) (every p xs) t) (every_append xs ys (and_right (p x) (every p xs) t) u)

  -- what passes at each element, and at each place
  pub every_at : (xs : List A) (i : ℕ) (d : A) → T (every p xs) → i < length xs → T (p (get_or xs i d))
  every_at [] i d t h = absurd (not-suc-le-zero h)
  every_at (x ∷ xs) zero d t h = and_left (p x) (every p xs) t
  every_at (x ∷ xs) (suc i) d t h = every_at xs i d (and_right (p x) (every p xs) t) (le_of_suc-le-suc h)

  pub every_of : (xs : List A) (d : A) → ((i : ℕ) → i < length xs → T (p (get_or xs i d))) → T (every p xs)
  every_of [] d h = tt
  every_of (x ∷ xs) d h = and_pair (p x) (every p xs) (h 0 (omega arith)) (every_of xs d (λ i b. h (suc i) (omega arith)))

-- ---- same

pub same_eq : (xs ys : List ℕ) → T (same xs ys) → xs ≡ ys
same_eq [] [] t = refl
same_eq [] (y ∷ ys) t = absurd t
same_eq (x ∷ xs) [] t = absurd t
same_eq (x ∷ xs) (y ∷ ys) t =
    ap₂ (λ (a : ℕ) (l : List ℕ). a ∷ l) (eqb→eq x y (and_left (eqb x y) (same xs ys) t)) (same_eq xs ys (and_right (eqb x y) (same xs ys) t))

pub same_refl : (xs : List ℕ) → same xs xs ≡ true
same_refl [] = refl
same_refl (x ∷ xs) = and_both (eqb x x) (same xs xs) (eq-eqb x x refl) (same_refl xs)

pub unequal : (xs ys : List ℕ) → (length xs ≡ length ys → ⊥) → false ≡ same xs ys
unequal [] [] n = absurd (n refl)
unequal [] (y ∷ ys) n = refl
unequal (x ∷ xs) [] n = refl
unequal (x ∷ xs) (y ∷ ys) n = go (eqb x y) (unequal xs ys (λ e. n (ap suc e)))
  where
    go : (b : Bool) → false ≡ same xs ys → false ≡ b && same xs ys
    go true e = e
    go false e = refl

-- ---- place

module _ (c y : ℕ) (l : List ℕ) where
  pub place_cons : (c ≡ y → ⊥) → place c (y ∷ l) ≡ suc (place c l)
  place_cons h = ap (λ (t : Bool). elim t as (λ _. ℕ) [ true ↦ 0 | false ↦ suc (place c l) ]) (ne_eqb c y h)

  pub place_head : c ≡ y → place c (y ∷ l) ≡ 0
  place_head h = ap (λ (t : Bool). elim t as (λ _. ℕ) [ true ↦ 0 | false ↦ suc (place c l) ]) (eq-eqb c y h)

-- ---- bytes

pub bytes_append : (p q : List ℕ) → Bytes p → Bytes q → Bytes (p ++ q)
bytes_append [] q h k = k
bytes_append (a ∷ p) q h k = (h.0, bytes_append p q h.1 k)

pub bytes_take : (n : ℕ) (p : List ℕ) → Bytes p → Bytes (take n p)
bytes_take zero p h = tt
bytes_take (suc n) [] h = tt
bytes_take (suc n) (a ∷ p) h = (h.0, bytes_take n p h.1)

-- ---- past the end, and zeros

pub past : (xs : List ℕ) (i : ℕ) → length xs ≤ i → get_or xs i 0 ≡ 0
past [] i h = refl
past (x ∷ xs) zero h = absurd (not-suc-le-zero h)
past (x ∷ xs) (suc i) h = past xs i (le_of_suc-le-suc h)

pub zeros_at : (n i : ℕ) → get_or (replicate {A = ℕ} n 0) i 0 ≡ 0
zeros_at zero i = refl
zeros_at (suc n) zero = refl
zeros_at (suc n) (suc i) = zeros_at n i

-- ---- bits

pub length_bits : (w n : ℕ) → length (bits w n) ≡ w
unfolding bits
length_bits zero n = refl
length_bits (suc w) n = ap suc (length_bits w n)

pub length_unpack : (bs : List ℕ) → length (unpack bs) ≡ 8 * length bs
unfolding unpack
length_unpack [] = refl
length_unpack (b ∷ bs) = length-append (bits 8 b) (unpack bs) ∙ omega (arith, length_bits 8 b, length_unpack bs)
