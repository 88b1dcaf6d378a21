-- Laws on elements that are kept, and on the bits of codewords.
-- Assumes nothing.
use Rattle.std.specs.Prelude.{ℕ, zero, suc, ◌+◌, ◌-◌, ◌*◌, ◌/◌, ◌%◌, ◌≤◌, ◌<◌, Bool, true, false, ◌≡◌, refl, List, [], ◌∷◌, ◌++◌, length, get_or}
use Rattle.std.proofs.Common.{sym, ap, ap₂, ◌∙◌, add-one, arith}
use Rattle.standard.specs.Numbers.{bit, from, cons_if, keep}
use Rattle.standard.specs.Bits.{bits, unpack}
use Rattle.laws.specs.Lists.{from_append}

pub from_snoc : (k n : ℕ) (f : ℕ → ℕ) → from k (suc n) f ≡ from k n f ++ (f (k + n) ∷ [])
from_snoc k n f = ap (λ (m : ℕ). from k m f) (sym (add-one n)) ∙ from_append k n 1 f

cons_if_append : (b : Bool) (x : ℕ) (xs ys : List ℕ) → cons_if b x xs ++ ys ≡ cons_if b x (xs ++ ys)
cons_if_append true x xs ys = refl
cons_if_append false x xs ys = refl

pub keep_append : (p : ℕ → Bool) (xs ys : List ℕ) → keep p (xs ++ ys) ≡ keep p xs ++ keep p ys
keep_append p [] ys = refl
keep_append p (x ∷ xs) ys = ap (cons_if (p x) x) (keep_append p xs ys) ∙ sym (cons_if_append (p x) x (keep p xs) (keep p ys))

pub keep_same : (p q : ℕ → Bool) (k n : ℕ) (f : ℕ → ℕ) → ((i : ℕ) → k ≤ i → i < k + n → p (f i) ≡ q (f i)) → keep p (from k n f) ≡ keep q (from k n f)
keep_same p q k zero f h = refl
keep_same p q k (suc n) f h =
    ap₂ (λ (b : Bool) (l : List ℕ). cons_if b (f k) l) (h k (omega arith) (omega arith)) (keep_same p q (suc k) n f (λ i low high. h i (omega arith) (omega arith)))

-- ---- bits of bytes

-- bit i of the codewords is element i of their bits
pub bit_unpack : (xs : List ℕ) (i : ℕ) → i < length xs * 8 → get_or (unpack xs) i 0 ≡ bit (get_or xs (i / 8) 0) (7 - i % 8)
unfolding unpack bits
bit_unpack [] i h = absurd (omega arith)
bit_unpack (x ∷ xs) zero h = refl
bit_unpack (x ∷ xs) (suc zero) h = refl
bit_unpack (x ∷ xs) (suc (suc zero)) h = refl
bit_unpack (x ∷ xs) (suc (suc (suc zero))) h = refl
bit_unpack (x ∷ xs) (suc (suc (suc (suc zero)))) h = refl
bit_unpack (x ∷ xs) (suc (suc (suc (suc (suc zero))))) h = refl
bit_unpack (x ∷ xs) (suc (suc (suc (suc (suc (suc zero)))))) h = refl
bit_unpack (x ∷ xs) (suc (suc (suc (suc (suc (suc (suc zero))))))) h = refl
bit_unpack (x ∷ xs) (suc (suc (suc (suc (suc (suc (suc (suc i)))))))) h =
    let d : suc (suc (suc (suc (suc (suc (suc (suc i))))))) / 8 ≡ suc (i / 8) = omega arith in
    let m : suc (suc (suc (suc (suc (suc (suc (suc i))))))) % 8 ≡ i % 8 = omega arith in
    rw (d, m) (bit_unpack xs i (omega arith))

abbrev pub Bits : List ℕ → Type 0
Bits bs = (i : ℕ) → get_or bs i 0 < 2

bits_append : (w n : ℕ) (ys : List ℕ) → Bits ys → Bits (bits w n ++ ys)
unfolding bits
bits_append zero n ys h i = h i
bits_append (suc w) n ys h zero = omega arith
bits_append (suc w) n ys h (suc i) = bits_append w n ys h i

pub unpack_bits : (xs : List ℕ) → Bits (unpack xs)
unfolding unpack
unpack_bits [] i = omega arith
unpack_bits (x ∷ xs) i = bits_append 8 x (unpack xs) (unpack_bits xs) i
