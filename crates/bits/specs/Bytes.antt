-- Bits as bytes and back: a list of bytes is the packing of its bits, and the bits of a packing are those that were packed.
-- Assumes nothing.
use Rattle.std.specs.Prelude.{ℕ, zero, suc, ◌+◌, ◌*◌, ◌/◌, ◌%◌, ◌^◌, ◌≤◌, ◌<◌, ◌≡◌, refl, List, [], ◌∷◌, ◌++◌, length, get_or, take, drop, replicate}
use Rattle.std.proofs.Common.{sym, ap, ap₂, ◌∙◌, subst, append_assoc, arith, mod-eq_of_lt, not-suc-le-zero, le_of_suc-le-suc, drop_of_length-le, take_at}
use Rattle.std.proofs.Math.Nat.{zero-div}
use Rattle.std.proofs.Math.Seq.{take-nil, take-append-add, drop-append-add}
use Rattle.standard.specs.Numbers.{from, tabulate}
use Rattle.standard.specs.Bits.{bits, value_from, byte_at, pack, unpack}
use Rattle.standard.specs.Field.{Bytes}
use Rattle.laws.specs.Lists.{is_tabulate, length_bits, length_unpack}
use Rattle.bits.specs.PackedLaws.{value_bits}
use Rattle.bits.specs.Fields.{field, Binary, field_split, field_lt}

pub bytes_of : (l : List ℕ) → ((i : ℕ) → i < length l → get_or l i 0 < 256) → Bytes l
bytes_of [] h = tt
bytes_of (x ∷ l) h = (h 0 (omega arith), bytes_of l (λ i b. h (suc i) (omega arith)))

pub bytes_at : (l : List ℕ) → Bytes l → (i : ℕ) → i < length l → get_or l i 0 < 256
bytes_at [] h i b = absurd (not-suc-le-zero b)
bytes_at (x ∷ l) h zero b = h.0
bytes_at (x ∷ l) h (suc i) b = bytes_at l h.1 i (le_of_suc-le-suc b)

-- ---- bytes, unpacked and packed

pub byte_bits_lem : (l : List ℕ) (i : ℕ) → i < length l → take 8 (drop (8 * i) (unpack l)) ≡ bits 8 (get_or l i 0)
unfolding unpack
byte_bits_lem [] i b = absurd (not-suc-le-zero b)
byte_bits_lem (x ∷ l) zero b = take_at (bits 8 x) (unpack l) 8 (length_bits 8 x)
byte_bits_lem (x ∷ l) (suc i) b =
    let e : 8 * suc i ≡ length (bits 8 x) + 8 * i = omega (arith, length_bits 8 x) in
    ap (λ (k : ℕ). take 8 (drop k (bits 8 x ++ unpack l))) e
    ∙ ap (take 8) (drop-append-add (bits 8 x) (unpack l) (8 * i))
    ∙ byte_bits_lem l i (le_of_suc-le-suc b)

byte_unpack : (l : List ℕ) → Bytes l → (i : ℕ) → i < length l → byte_at (unpack l) i ≡ get_or l i 0
unfolding byte_at
byte_unpack l h i b = ap (value_from 0) (byte_bits_lem l i b) ∙ value_bits 0 8 (get_or l i 0) ∙ omega (arith, mod-eq_of_lt (bytes_at l h i b))

pub pack_unpack : (l : List ℕ) → Bytes l → pack (unpack l) ≡ l
unfolding pack
pack_unpack l h =
    let e : length (unpack l) / 8 ≡ length l = omega (arith, length_unpack l) in
    ap (λ (n : ℕ). tabulate n (byte_at (unpack l))) e
    ∙ sym (is_tabulate 0 l (length l) (byte_at (unpack l)) refl (λ i b. sym (byte_unpack l h i b)))

pub same_bytes : (a b : List ℕ) → Bytes a → Bytes b → unpack a ≡ unpack b → a ≡ b
same_bytes a b ha hb e = sym (pack_unpack a ha) ∙ ap pack e ∙ pack_unpack b hb

-- ---- bits, packed and unpacked

pub unpack_append : (a b : List ℕ) → unpack (a ++ b) ≡ unpack a ++ unpack b
unfolding unpack
unpack_append [] b = refl
unpack_append (x ∷ a) b = ap (λ (l : List ℕ). bits 8 x ++ l) (unpack_append a b) ∙ sym (append_assoc (bits 8 x) (unpack a) (unpack b))

pub unpack_take : (k : ℕ) (l : List ℕ) → unpack (take k l) ≡ take (8 * k) (unpack l)
unfolding unpack
unpack_take zero l = refl
unpack_take (suc k) [] = sym (take-nil (8 * suc k))
unpack_take (suc k) (x ∷ l) =
    let e : 8 * suc k ≡ length (bits 8 x) + 8 * k = omega (arith, length_bits 8 x) in
    ap (λ (r : List ℕ). bits 8 x ++ r) (unpack_take k l)
    ∙ sym (take-append-add (bits 8 x) (unpack l) (8 * k))
    ∙ ap (λ (i : ℕ). take i (bits 8 x ++ unpack l)) (sym e)

-- the bytes from byte i on
pub unpack_from : (bs : List ℕ) → Binary bs → (i q : ℕ) → length bs ≡ 8 * (i + q) → unpack (from i q (byte_at bs)) ≡ drop (8 * i) bs
unfolding unpack byte_at
unpack_from bs h i zero l = let c : length bs ≤ 8 * i = omega arith in sym (drop_of_length-le bs c)
unpack_from bs h i (suc q) l =
    let e : 8 * suc i ≡ 8 * i + 8 = omega arith in
    ap (λ (r : List ℕ). bits 8 (field bs (8 * i) 8) ++ r) (unpack_from bs h (suc i) q (omega arith) ∙ ap (λ (k : ℕ). drop k bs) e)
    ∙ sym (field_split bs (8 * i) 8 h (omega arith))

pub bytes_from : (bs : List ℕ) → Binary bs → (i q : ℕ) → length bs ≡ 8 * (i + q) → Bytes (from i q (byte_at bs))
unfolding byte_at
bytes_from bs h i zero l = tt
bytes_from bs h i (suc q) l = (field_lt bs (8 * i) 8 h (omega arith), bytes_from bs h (suc i) q (omega arith))

pub unpack_pack : (bs : List ℕ) → Binary bs → (q : ℕ) → length bs ≡ 8 * q → unpack (pack bs) ≡ bs
unfolding pack
unpack_pack bs h q l =
    let e : length bs / 8 ≡ q = omega arith in
    ap (λ (n : ℕ). unpack (from 0 n (byte_at bs))) e ∙ unpack_from bs h 0 q (omega arith)

pub bytes_pack : (bs : List ℕ) → Binary bs → (q : ℕ) → length bs ≡ 8 * q → Bytes (pack bs)
unfolding pack
bytes_pack bs h q l =
    let e : length bs / 8 ≡ q = omega arith in
    subst (λ (n : ℕ). Bytes (from 0 n (byte_at bs))) (sym e) (bytes_from bs h 0 q (omega arith))

pub zero_bits : (w : ℕ) → bits w 0 ≡ replicate w 0
unfolding bits
zero_bits zero = refl
zero_bits (suc w) = ap₂ (λ (x : ℕ) (l : List ℕ). (x % 2) ∷ l) (zero-div (2 ^ w)) (zero_bits w)
