-- Laws of bits in bytes: the bit at a place, and the number that bits stand for.
-- Assumes nothing.
use Rattle.std.specs.Prelude.{◌≡◌, refl, ℕ, zero, suc, ◌+◌, ◌-◌, ◌*◌, ◌/◌, ◌%◌, ◌^◌, ◌<◌, List, [], ◌∷◌, ◌++◌, length, get_or}
use Rattle.std.proofs.Common.{sym, ap, ap₂, ◌∙◌, le_of_suc-le-suc, not-suc-le-zero, zero-lt-suc, zero-add, mod-lt, div-add-mod', pow-suc, arith, one-add, get_or-append-add}
use Rattle.std.proofs.Math.Nat.{mod-one}
use Rattle.std.proofs.Math.ListN.{get_or-append}
use Rattle.std.proofs.lemmas.Nat.{mod-pow-add}
use Rattle.standard.specs.Bits.{bits, unpack, value_from}
use Rattle.laws.specs.Lists.{length_bits}

-- bit j from the top
pub get_d_bits : (n v j : ℕ) → j < n → get_or (bits n v) j 0 ≡ v / 2 ^ (n - 1 - j) % 2
unfolding bits
get_d_bits zero v j h = absurd (not-suc-le-zero h)
get_d_bits (suc n) v zero h = ap (λ (k : ℕ). v / 2 ^ k % 2) (omega arith)
get_d_bits (suc n) v (suc j) h = get_d_bits n v j (le_of_suc-le-suc h) ∙ ap (λ (k : ℕ). v / 2 ^ k % 2) (omega arith)

-- bit m of byte k
pub get_d_unpack : (bs : List ℕ) (k m : ℕ) → k < length bs → m < 8 → get_or (unpack bs) (k * 8 + m) 0 ≡ get_or bs k 0 / 2 ^ (7 - m) % 2
unfolding unpack
get_d_unpack [] k m hk hm = absurd (not-suc-le-zero hk)
get_d_unpack (b ∷ bs) zero m hk hm =
    ap (λ (i : ℕ). get_or (bits 8 b ++ unpack bs) i 0) (zero-add m)
    ∙ get_or-append (bits 8 b) (unpack bs) 0 m (omega (arith, length_bits 8 b)) ∙ get_d_bits 8 b m hm
get_d_unpack (b ∷ bs) (suc k) m hk hm =
    ap (λ (i : ℕ). get_or (bits 8 b ++ unpack bs) i 0) (omega (arith, length_bits 8 b))
    ∙ get_or-append-add (bits 8 b) (unpack bs) (k * 8 + m) 0 ∙ get_d_unpack bs k m (le_of_suc-le-suc hk) hm

pub get_d_unpack_at : (bs : List ℕ) (i : ℕ) → i < 8 * length bs → get_or (unpack bs) i 0 ≡ get_or bs (i / 8) 0 / 2 ^ (7 - i % 8) % 2
get_d_unpack_at bs i h =
    ap (λ (n : ℕ). get_or (unpack bs) n 0) (sym (div-add-mod' i 8)) ∙ get_d_unpack bs (i / 8) (i % 8) (omega arith) (mod-lt i (zero-lt-suc 7))

-- ---- reading

pub value_append : (a : ℕ) (xs ys : List ℕ) → value_from a (xs ++ ys) ≡ value_from (value_from a xs) ys
unfolding value_from
value_append a [] ys = refl
value_append a (x ∷ xs) ys = value_append (a * 2 + x) xs ys

-- ---- the bits of a number, and their number

regroup : (a b p c : ℕ) → (a * 2 + b) * p + c ≡ a * (p * 2) + (b * p + c)
regroup a b p c = omega arith

-- the n low bits of v stand for v % 2 ^ n
pub value_bits : (a n v : ℕ) → value_from a (bits n v) ≡ a * 2 ^ n + v % 2 ^ n
unfolding value_from bits
value_bits a zero v = omega (arith, mod-one v)
value_bits a (suc n) v =
    value_bits (a * 2 + v / 2 ^ n % 2) n v
    ∙ regroup a (v / 2 ^ n % 2) (2 ^ n) (v % 2 ^ n)
    ∙ ap₂ (λ (x y : ℕ). a * x + y) (sym (pow-suc 2 n)) (sym (ap (λ (k : ℕ). v % 2 ^ k) (sym (one-add n)) ∙ mod-pow-add v 1 n))
