-- Sums, multiples and products of polynomials: lengths, coefficients, and laws.
-- Assumes nothing.
use Rattle.std.specs.Prelude.{◌≡◌, refl, ℕ, zero, suc, ◌+◌, ◌<◌, length, get_or, drop}
use Rattle.std.proofs.Common.{sym, ap, ap₂, ◌∙◌, suc-ne-zero, zero-lt-suc, arith, length-append}
use mathlib.Core.List.{List, [], ◌∷◌, ◌++◌, head-eq_of_cons-eq, tail-eq_of_cons-eq}
use Rattle.std.proofs.Math.Nat.{suc_inj}
use Rattle.std.proofs.lemmas.List.{length-replicate}
use Rattle.std.specs.Int.Bits.{bit_xor, xor_zero_r, xor_self}
use Rattle.std.proofs.lemmas.Nat.{xor_comm, xor_lt}
use Rattle.standard.specs.Field.{times, Bytes, zeros, plus, scale, product}
use Rattle.laws.specs.Xor.{xor_assoc, xor4, xor_cancel, xor_eq_zero}
use Rattle.field.specs.Times.{times_zero_l, times_zero_r, times_one_r, times_xor_r, times_lt}

-- ---- lengths and coefficients

pub length_plus : (p q : List ℕ) → length p ≡ length q → length (plus p q) ≡ length p
unfolding plus
length_plus [] q e = refl
length_plus (a ∷ p) [] e = sym e
length_plus (a ∷ p) (b ∷ q) e = ap suc (length_plus p q (suc_inj e))

pub length_scale : (c : ℕ) (p : List ℕ) → length (scale c p) ≡ length p
unfolding scale
length_scale c [] = refl
length_scale c (a ∷ p) = ap suc (length_scale c p)

pub length_snoc : (t : List ℕ) (a : ℕ) → length (t ++ (a ∷ [])) ≡ suc (length t)
length_snoc [] a = refl
length_snoc (b ∷ t) a = ap suc (length_snoc t a)

pub get_d_plus : (p q : List ℕ) (j : ℕ) → length p ≡ length q → get_or (plus p q) j 0 ≡ bit_xor (get_or p j 0) (get_or q j 0)
unfolding plus
get_d_plus [] [] j e = refl
get_d_plus [] (b ∷ q) j e = absurd (suc-ne-zero (length q) (sym e))
get_d_plus (a ∷ p) [] j e = absurd (suc-ne-zero (length p) e)
get_d_plus (a ∷ p) (b ∷ q) zero e = refl
get_d_plus (a ∷ p) (b ∷ q) (suc j) e = get_d_plus p q j (suc_inj e)

pub get_d_scale : (c : ℕ) (p : List ℕ) (j : ℕ) → get_or (scale c p) j 0 ≡ times (get_or p j 0) c
unfolding scale
get_d_scale c [] j = sym (times_zero_l c)
get_d_scale c (a ∷ p) zero = refl
get_d_scale c (a ∷ p) (suc j) = get_d_scale c p j

pub get_d_snoc0 : (t : List ℕ) (j : ℕ) → get_or (t ++ (0 ∷ [])) j 0 ≡ get_or t j 0
get_d_snoc0 [] zero = refl
get_d_snoc0 [] (suc j) = refl
get_d_snoc0 (a ∷ t) zero = refl
get_d_snoc0 (a ∷ t) (suc j) = get_d_snoc0 t j

-- ---- bytes

-- a slice's elements are bytes
pub bytes_of : (l : List ℕ) → ((i : ℕ) → get_or l i 0 < 256) → Bytes l
bytes_of [] h = tt
bytes_of (a ∷ l) h = (h 0, bytes_of l (λ i. h (suc i)))

pub bytes_plus : (p q : List ℕ) → Bytes p → Bytes q → Bytes (plus p q)
unfolding plus
bytes_plus [] q h k = tt
bytes_plus (a ∷ p) [] h k = tt
bytes_plus (a ∷ p) (b ∷ q) h k = (xor_lt 8 a b h.0 k.0, bytes_plus p q h.1 k.1)

pub bytes_scale : (c : ℕ) (p : List ℕ) → Bytes p → Bytes (scale c p)
unfolding scale
bytes_scale c [] h = tt
bytes_scale c (a ∷ p) h = (times_lt a c h.0, bytes_scale c p h.1)

pub bytes_drop : (n : ℕ) (p : List ℕ) → Bytes p → Bytes (drop n p)
bytes_drop zero p h = h
bytes_drop (suc n) [] h = tt
bytes_drop (suc n) (a ∷ p) h = bytes_drop n p h.1

pub bytes_zeros : (n : ℕ) → Bytes (zeros n)
bytes_zeros zero = tt
bytes_zeros (suc n) = (zero-lt-suc 255, bytes_zeros n)

pub cons : {a b : ℕ} {p q : List ℕ} → a ≡ b → p ≡ q → a ∷ p ≡ b ∷ q
cons e f = ap₂ (λ (x : ℕ) (l : List ℕ). x ∷ l) e f

-- ---- sums

pub plus_self : (p : List ℕ) → plus p p ≡ zeros (length p)
unfolding plus
plus_self [] = refl
plus_self (a ∷ p) = cons (xor_self a) (plus_self p)

pub plus_zeros_r : (p : List ℕ) → plus p (zeros (length p)) ≡ p
unfolding plus
plus_zeros_r [] = refl
plus_zeros_r (a ∷ p) = ap₂ (λ (x : ℕ) (l : List ℕ). x ∷ l) (xor_zero_r a) (plus_zeros_r p)

pub plus_zeros_l : (n : ℕ) (p : List ℕ) → length p ≡ n → plus (zeros n) p ≡ p
unfolding plus
plus_zeros_l zero [] e = refl
plus_zeros_l zero (a ∷ p) e = absurd (suc-ne-zero (length p) e)
plus_zeros_l (suc n) [] e = absurd (suc-ne-zero n (sym e))
plus_zeros_l (suc n) (a ∷ p) e = cons refl (plus_zeros_l n p (suc_inj e))

-- s + (p + s) is p
pub plus_cancel : (s p : List ℕ) → length p ≡ length s → plus s (plus p s) ≡ p
unfolding plus
plus_cancel [] [] e = refl
plus_cancel [] (a ∷ p) e = absurd (suc-ne-zero (length p) e)
plus_cancel (b ∷ s) [] e = absurd (suc-ne-zero (length s) (sym e))
plus_cancel (b ∷ s) (a ∷ p) e = cons (ap (bit_xor b) (xor_comm a b) ∙ xor_cancel b a) (plus_cancel s p (suc_inj e))

pub plus_assoc : (p q r : List ℕ) → plus (plus p q) r ≡ plus p (plus q r)
unfolding plus
plus_assoc [] q r = refl
plus_assoc (a ∷ p) [] r = refl
plus_assoc (a ∷ p) (b ∷ q) [] = refl
plus_assoc (a ∷ p) (b ∷ q) (c ∷ r) = cons (xor_assoc a b c) (plus_assoc p q r)

pub plus4 : (p q r s : List ℕ) → plus (plus p q) (plus r s) ≡ plus (plus p r) (plus q s)
unfolding plus
plus4 [] q r s = refl
plus4 (a ∷ p) [] [] s = refl
plus4 (a ∷ p) [] (c ∷ r) s = refl
plus4 (a ∷ p) (b ∷ q) [] s = refl
plus4 (a ∷ p) (b ∷ q) (c ∷ r) [] = refl
plus4 (a ∷ p) (b ∷ q) (c ∷ r) (d ∷ s) = cons (xor4 a b c d) (plus4 p q r s)

pub plus_append : (p q r s : List ℕ) → length p ≡ length r → plus (p ++ q) (r ++ s) ≡ plus p r ++ plus q s
unfolding plus
plus_append [] q [] s e = refl
plus_append [] q (c ∷ r) s e = absurd (suc-ne-zero (length r) (sym e))
plus_append (a ∷ p) q [] s e = absurd (suc-ne-zero (length p) e)
plus_append (a ∷ p) q (c ∷ r) s e = cons refl (plus_append p q r s (suc_inj e))

pub plus_eq_zero : (p q : List ℕ) → length p ≡ length q → plus p q ≡ zeros (length p) → p ≡ q
unfolding plus
plus_eq_zero [] [] e z = refl
plus_eq_zero [] (b ∷ q) e z = absurd (suc-ne-zero (length q) (sym e))
plus_eq_zero (a ∷ p) [] e z = absurd (suc-ne-zero (length p) e)
plus_eq_zero (a ∷ p) (b ∷ q) e z = cons (xor_eq_zero a b (head-eq_of_cons-eq z)) (plus_eq_zero p q (suc_inj e) (tail-eq_of_cons-eq z))

pub plus_zz : (n : ℕ) → plus (zeros n) (zeros n) ≡ zeros n
plus_zz n = plus_self (zeros n) ∙ ap zeros (length-replicate {A = ℕ} n 0)

-- ---- multiples

pub scale_one : (p : List ℕ) → Bytes p → scale 1 p ≡ p
unfolding scale
scale_one [] h = refl
scale_one (a ∷ p) h = ap₂ (λ (x : ℕ) (l : List ℕ). x ∷ l) (times_one_r a h.0) (scale_one p h.1)

pub scale_xor : (a b : ℕ) (p : List ℕ) → plus (scale a p) (scale b p) ≡ scale (bit_xor a b) p
unfolding plus scale
scale_xor a b [] = refl
scale_xor a b (c ∷ p) = cons (sym (times_xor_r c a b)) (scale_xor a b p)

pub scale_zero : (p : List ℕ) → scale 0 p ≡ zeros (length p)
unfolding scale
scale_zero [] = refl
scale_zero (a ∷ p) = cons (times_zero_r a) (scale_zero p)

-- ---- products

pub length_product : (q g : List ℕ) (a : ℕ) → length (product q (a ∷ g)) ≡ length q + length g
unfolding product
length_product [] g a = length-replicate {A = ℕ} (length g) 0 ∙ omega arith
length_product (b ∷ q) g a =
    let l : length (scale b (a ∷ g) ++ zeros (length q)) ≡ suc (length g + length q)
    = length-append (scale b (a ∷ g)) (zeros (length q)) ∙ omega (arith, length_scale b (a ∷ g), length-replicate {A = ℕ} (length q) 0) in
    length_plus (scale b (a ∷ g) ++ zeros (length q)) (0 ∷ product q (a ∷ g)) (omega (arith, length_product q g a)) ∙ omega arith

pub product_plus : (p q g : List ℕ) (a : ℕ) → length p ≡ length q → plus (product p (a ∷ g)) (product q (a ∷ g)) ≡ product (plus p q) (a ∷ g)
unfolding product plus
product_plus [] [] g a e = plus_zz (length g)
product_plus [] (c ∷ q) g a e = absurd (suc-ne-zero (length q) (sym e))
product_plus (b ∷ p) [] g a e = absurd (suc-ne-zero (length p) e)
product_plus (b ∷ p) (c ∷ q) g a e =
    let l : length p ≡ length q = suc_inj e in
    plus4 (scale b (a ∷ g) ++ zeros (length p)) (0 ∷ product p (a ∷ g)) (scale c (a ∷ g) ++ zeros (length q)) (0 ∷ product q (a ∷ g))
    ∙ ap₂ (λ (x y : List ℕ). plus x (0 ∷ y))
    (ap (λ (n : ℕ). plus (scale b (a ∷ g) ++ zeros (length p)) (scale c (a ∷ g) ++ zeros n)) (sym l)
    ∙ plus_append (scale b (a ∷ g)) (zeros (length p)) (scale c (a ∷ g)) (zeros (length p)) (length_scale b (a ∷ g) ∙ sym (length_scale c (a ∷ g)))
    ∙ ap₂ (λ (x y : List ℕ). x ++ y) (scale_xor b c (a ∷ g)) (plus_zz (length p) ∙ ap zeros (sym (length_plus p q l))))
    (product_plus p q g a l)
