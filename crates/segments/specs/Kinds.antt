-- What depends on the kind: characters as digits of a base, and groups of characters as numbers. Kinds above 2 count as 2.
-- Assumes nothing.
use Rattle.std.specs.Prelude.{◌≡◌, ℕ, zero, suc, ◌+◌, ◌*◌, ◌/◌, ◌%◌, ◌^◌, ◌<◌, ◌≤◌, Bool, true, false, T, List, [], ◌∷◌, length, take, drop, ◌==◌, nat_le, slice_index, refl}
use Rattle.std.proofs.Common.{sym, ap, ap₂, ◌∙◌, subst, arith, mod-lt, div-one, pow-suc, zero-lt-suc, not-suc-le-zero, le_of_suc-le-suc, leb→le, le→leb, ltb→lt, lt→ltb, eqb→eq, lit<, lit≤}
use Rattle.std.proofs.Math.Nat.{mod-one, div-div-eq-div-mul, pow-zero, pow-succ'}
use Rattle.std.proofs.Math.Arith.{digits_div, digits_mod, mod-mul}
use Rattle.standard.specs.Numbers.{every, place}
use Rattle.standard.specs.Kinds.{by_kind, alphabet, code, digit, is_digit, is_alphanumeric, allowed}
use Rattle.laws.specs.Tests.{and_left, and_right, and_pair}
use Rattle.laws.specs.Computed.{below}

-- characters of a full group
abbrev pub size : ℕ → ℕ
size k = by_kind k 3 2 1 1

-- a group of characters is a number in this base
abbrev pub base : ℕ → ℕ
base k = by_kind k 10 45 256 256

-- bits of a group of m characters
abbrev pub width : ℕ → ℕ → ℕ
width k m = slice_index (by_kind k (0 ∷ 4 ∷ 7 ∷ 10 ∷ []) (0 ∷ 6 ∷ 11 ∷ []) (0 ∷ 8 ∷ []) (0 ∷ 8 ∷ [])) m

-- a character as a digit of the base, and back
unfoldable pub code_of : ℕ → ℕ → ℕ
code_of k c = by_kind k (digit c) (code c) c c

unfoldable pub char_of : ℕ → ℕ → ℕ
char_of k d = by_kind k (48 + d) (slice_index alphabet d) d d

-- ---- tests of parts of a list

pub every_take : (p : ℕ → Bool) (n : ℕ) (a : List ℕ) → T (every p a) → T (every p (take n a))
every_take p zero a t = tt
every_take p (suc n) [] t = tt
every_take p (suc n) (x ∷ a) t = and_pair (p x) (every p (take n a)) (and_left (p x) (every p a) t) (every_take p n a (and_right (p x) (every p a) t))

pub every_drop : (p : ℕ → Bool) (n : ℕ) (a : List ℕ) → T (every p a) → T (every p (drop n a))
every_drop p zero a t = t
every_drop p (suc n) [] t = tt
every_drop p (suc n) (x ∷ a) t = every_drop p n a (and_right (p x) (every p a) t)

-- ---- a place in a list
place_step : (x y : ℕ) (l : List ℕ) (b : Bool) → (x == y) ≡ b → (place x l < length l → slice_index l (place x l) ≡ x)
    → elim b [ true ↦ 0 | false ↦ suc (place x l) ] < suc (length l) → slice_index (y ∷ l) (elim b [ true ↦ 0 | false ↦ suc (place x l) ]) ≡ x
place_step x y l true e ih h = sym (eqb→eq x y (subst T (sym e) tt))
place_step x y l false e ih h = ih (le_of_suc-le-suc h)

place_get_d : (x : ℕ) (l : List ℕ) → place x l < length l → slice_index l (place x l) ≡ x
place_get_d x [] h = absurd (not-suc-le-zero h)
place_get_d x (y ∷ l) h = place_step x y l (x == y) refl (place_get_d x l) h

pub length_alphabet : 45 ≡ length alphabet
unfolding alphabet
length_alphabet = refl

-- ---- the laws of a character
pub code_lt : (k c : ℕ) → T (allowed k c) → code_of k c < base k
unfolding allowed code_of is_digit is_alphanumeric code
code_lt zero c t =
    let l : 48 ≤ c = leb→le 48 c (and_left (nat_le 48 c) (nat_le c 57) t) in
    let h : c ≤ 57 = leb→le c 57 (and_right (nat_le 48 c) (nat_le c 57) t) in
    omega arith
code_lt (suc zero) c t = ltb→lt (code c) 45 t
code_lt (suc (suc zero)) c t = ltb→lt c 256 t
code_lt (suc (suc (suc k))) c t = absurd t

at45 : (c : ℕ) → code c < 45 → code c < length alphabet
at45 c h = subst (λ (n : ℕ). code c < n) length_alphabet h

pub char_code : (k c : ℕ) → T (allowed k c) → char_of k (code_of k c) ≡ c
unfolding allowed code_of char_of is_digit is_alphanumeric code
char_code zero c t =
    let l : 48 ≤ c = leb→le 48 c (and_left (nat_le 48 c) (nat_le c 57) t) in
    omega arith
char_code (suc zero) c t = place_get_d c alphabet (at45 c (ltb→lt (code c) 45 t))
char_code (suc (suc zero)) c t = refl
char_code (suc (suc (suc k))) c t = absurd t

placed : ℕ → Bool
placed d = place (slice_index alphabet d) alphabet == d

placed_all : (d : ℕ) → d < 45 → T (placed d)
unfolding placed alphabet
placed_all d h = below placed 45 tt d h

pub code_char : (k d : ℕ) → d < base k → code_of k (char_of k d) ≡ d
unfolding code_of char_of placed code
code_char zero d h = omega arith
code_char (suc zero) d h = eqb→eq (place (slice_index alphabet d) alphabet) d (placed_all d h)
code_char (suc (suc zero)) d h = refl
code_char (suc (suc (suc k))) d h = refl

pub good_char : (k d : ℕ) → k < 3 → d < base k → T (allowed k (char_of k d))
unfolding allowed char_of is_digit is_alphanumeric placed code
good_char zero d l h = and_pair (nat_le 48 (48 + d)) (nat_le (48 + d) 57) (le→leb 48 (48 + d) (omega arith)) (le→leb (48 + d) 57 (omega arith))
good_char (suc zero) d l h =
    let e : place (slice_index alphabet d) alphabet ≡ d = eqb→eq (place (slice_index alphabet d) alphabet) d (placed_all d h) in
    lt→ltb (place (slice_index alphabet d) alphabet) 45 (omega arith)
good_char (suc (suc zero)) d l h = lt→ltb d 256 h
good_char (suc (suc (suc k))) d l h = absurd (omega arith)

pub base_pos : (k : ℕ) → 0 < base k
base_pos zero = lit< tt
base_pos (suc zero) = lit< tt
base_pos (suc (suc zero)) = lit< tt
base_pos (suc (suc (suc k))) = lit< tt

-- a group's number fits its field
pub limit : (k m : ℕ) → m ≤ size k → base k ^ m ≤ 2 ^ width k m
limit zero zero h = lit≤ tt
limit zero (suc zero) h = lit≤ tt
limit zero (suc (suc zero)) h = lit≤ tt
limit zero (suc (suc (suc zero))) h = lit≤ tt
limit zero (suc (suc (suc (suc m)))) h = absurd (omega arith)
limit (suc zero) zero h = lit≤ tt
limit (suc zero) (suc zero) h = lit≤ tt
limit (suc zero) (suc (suc zero)) h = lit≤ tt
limit (suc zero) (suc (suc (suc m))) h = absurd (omega arith)
limit (suc (suc zero)) zero h = lit≤ tt
limit (suc (suc zero)) (suc zero) h = lit≤ tt
limit (suc (suc zero)) (suc (suc m)) h = absurd (omega arith)
limit (suc (suc (suc k))) zero h = lit≤ tt
limit (suc (suc (suc k))) (suc zero) h = lit≤ tt
limit (suc (suc (suc k))) (suc (suc m)) h = absurd (omega arith)

-- ---- groups
-- the number of characters, after those of a
unfoldable pub group_number : ℕ → ℕ → List ℕ → ℕ
group_number k a [] = a
group_number k a (c ∷ cs) = group_number k (a * base k + code_of k c) cs

-- the m characters of a number
unfoldable pub group_chars : ℕ → ℕ → ℕ → List ℕ
group_chars k zero n = []
group_chars k (suc m) n = char_of k (n / base k ^ m % base k) ∷ group_chars k m n

pub length_chars : (k m n : ℕ) → length (group_chars k m n) ≡ m
unfolding group_chars
length_chars k zero n = refl
length_chars k (suc m) n = ap suc (length_chars k m n)

pub good_chars : (k m n : ℕ) → k < 3 → T (every (allowed k) (group_chars k m n))
unfolding group_chars
good_chars k zero n l = tt
good_chars k (suc m) n l =
    and_pair (allowed k (char_of k (n / base k ^ m % base k))) (every (allowed k) (group_chars k m n))
    (good_char k (n / base k ^ m % base k) l (mod-lt (n / base k ^ m) (base_pos k))) (good_chars k m n l)

product_pos : (a b : ℕ) → 0 < a → 0 < b → 0 < a * b
product_pos zero b h g = absurd (not-suc-le-zero h)
product_pos (suc a) b h g = omega arith

pub pow_base : (k m : ℕ) → 0 < base k ^ m
pow_base k zero = subst (λ (n : ℕ). 0 < n) (sym (pow-zero (base k))) (zero-lt-suc 0)
pow_base k (suc m) =
    let p : 0 < base k ^ m = pow_base k m in
    let q : 0 < base k = base_pos k in
    subst (λ (n : ℕ). 0 < n) (sym (pow-suc (base k) m))
    (product_pos (base k ^ m) (base k) p q)

pub number_chars : (k a m n : ℕ) → group_number k a (group_chars k m n) ≡ a * base k ^ m + n % base k ^ m
unfolding group_number group_chars
number_chars k a zero n = empty_number a n ∙ ap (λ (x : ℕ). a * x + n % x) (sym (pow-zero (base k)))
  where
    empty_number : (a n : ℕ) → a ≡ a * 1 + n % 1
    empty_number a n = omega (arith, mod-one n)
number_chars k a (suc m) n =
    let d : ℕ = n / base k ^ m % base k in
    let p : ℕ = base k ^ m in
    ap (λ (x : ℕ). group_number k (a * base k + x) (group_chars k m n)) (code_char k (n / base k ^ m % base k) (mod-lt (n / base k ^ m) (base_pos k)))
    ∙ number_chars k (a * base k + n / base k ^ m % base k) m n
    ∙ regroup a (base k) (n / base k ^ m % base k) (base k ^ m) (n % base k ^ m)
    ∙ ap (λ (x : ℕ). a * (base k * base k ^ m) + x) (sym (mod-mul n (base_pos k) (pow_base k m)))
    ∙ ap (λ (x : ℕ). a * x + n % x) (sym (pow-succ' (base k) m))
  where
    regroup : (a b d p c : ℕ) → (a * b + d) * p + c ≡ a * (b * p) + (d * p + c)
    regroup a b d p c = omega arith

pub chars_div : (k a : ℕ) (cs : List ℕ) → T (every (allowed k) cs) → group_number k a cs / base k ^ length cs ≡ a
unfolding group_number
chars_div k a [] t = ap (λ (x : ℕ). a / x) (pow-zero (base k)) ∙ div-one a
chars_div k a (c ∷ cs) t =
    ap (λ (x : ℕ). group_number k (a * base k + code_of k c) cs / x) (pow-suc (base k) (length cs))
    ∙ sym (div-div-eq-div-mul (group_number k (a * base k + code_of k c) cs) (base k ^ length cs) (base k))
    ∙ ap (λ (x : ℕ). x / base k) (chars_div k (a * base k + code_of k c) cs (and_right (allowed k c) (every (allowed k) cs) t))
    ∙ digits_div a (code_lt k c (and_left (allowed k c) (every (allowed k) cs) t))

pub chars_number : (k a : ℕ) (cs : List ℕ) → T (every (allowed k) cs) → group_chars k (length cs) (group_number k a cs) ≡ cs
unfolding group_number group_chars
chars_number k a [] t = refl
chars_number k a (c ∷ cs) t =
    let g : T (allowed k c) = and_left (allowed k c) (every (allowed k) cs) t in
    let r : T (every (allowed k) cs) = and_right (allowed k c) (every (allowed k) cs) t in
    ap₂ (λ (x : ℕ) (l : List ℕ). x ∷ l)
    (ap (λ (x : ℕ). char_of k (x % base k)) (chars_div k (a * base k + code_of k c) cs r)
    ∙ ap (char_of k) (digits_mod a (code_lt k c g)) ∙ char_code k c g)
    (chars_number k (a * base k + code_of k c) cs r)

pub number_small : (k : ℕ) (cs : List ℕ) → T (every (allowed k) cs) → group_number k 0 cs < base k ^ length cs
number_small k cs t =
    let e : group_number k 0 cs ≡ group_number k 0 cs % base k ^ length cs
    = sym (ap (group_number k 0) (chars_number k 0 cs t)) ∙ number_chars k 0 (length cs) (group_number k 0 cs) ∙ plain (base k ^ length cs) (group_number k 0 cs % base k ^ length cs) in
    subst (λ (x : ℕ). x < base k ^ length cs) (sym e) (mod-lt (group_number k 0 cs) (pow_base k (length cs)))
  where
    plain : (p x : ℕ) → 0 * p + x ≡ x
    plain p x = omega arith
