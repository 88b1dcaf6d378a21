-- A field of the bits of bytes, from the number of the bytes that hold it: without the bits after it, and of those up to it the low ones.
-- Assumes nothing.
use Rattle.std.specs.Prelude.{ℕ, ◌+◌, ◌-◌, ◌*◌, ◌/◌, ◌%◌, ◌^◌, ◌≤◌, ◌<◌, ◌≡◌, refl, List, ◌++◌, length, get_or, take, drop}
use Rattle.std.proofs.Common.{length-take-le, length-drop, get_or-drop, sym, ap, ap₂, ◌∙◌, subst, append_assoc, arith, one-mul, mod-lt, mod-eq_of_lt, lt_of_lt_of_le, take_at, take-add, drop_at, drop-drop, lit<, pow_pos, pow_mono, shl_exact}
use Rattle.std.proofs.lemmas.List.{get_or-take}
use Rattle.standard.specs.Bits.{bits, value_from, unpack}
use Rattle.laws.specs.Lists.{length_bits, length_unpack}
use Rattle.bits.specs.PackedLaws.{value_bits, value_append}
use Rattle.bits.specs.Fields.{field, Binary, binary_unpack, bits_add, field_split, field_lt}
use Rattle.bits.specs.Bytes.{byte_bits_lem}

-- a field within a field, c bits after its start and d bits before its end
field_within : (u : List ℕ) (at c w d : ℕ) → Binary u → at + (c + (w + d)) ≤ length u → field u at (c + (w + d)) / 2 ^ d % 2 ^ w ≡ field u (at + c) w
field_within u at c w d h room =
    let x : ℕ = field u at (c + (w + d)) in
    let r : List ℕ = drop (at + (c + (w + d))) u in
    let parts : bits (c + (w + d)) x ++ r ≡ bits c (x / 2 ^ (w + d)) ++ (bits w (x / 2 ^ d) ++ (bits d x ++ r))
    = ap (λ (l : List ℕ). l ++ r) (bits_add c (w + d) x)
    ∙ append_assoc (bits c (x / 2 ^ (w + d))) (bits (w + d) x) r
    ∙ ap (λ (l : List ℕ). bits c (x / 2 ^ (w + d)) ++ l) (ap (λ (l : List ℕ). l ++ r) (bits_add w d x) ∙ append_assoc (bits w (x / 2 ^ d)) (bits d x) r) in
    let there : drop (at + c) u ≡ bits w (x / 2 ^ d) ++ (bits d x ++ r)
    = sym (drop-drop c at u) ∙ ap (drop c) (field_split u at (c + (w + d)) h room ∙ parts)
    ∙ drop_at (bits c (x / 2 ^ (w + d))) (bits w (x / 2 ^ d) ++ (bits d x ++ r)) c (length_bits c (x / 2 ^ (w + d))) in
    let is : field u (at + c) w ≡ 0 * 2 ^ w + x / 2 ^ d % 2 ^ w
    = ap (λ (l : List ℕ). value_from 0 (take w l)) there
    ∙ ap (value_from 0) (take_at (bits w (x / 2 ^ d)) (bits d x ++ r) w (length_bits w (x / 2 ^ d)))
    ∙ value_bits 0 w (x / 2 ^ d) in
    omega (arith, is)

-- ---- the number of bytes, one after the other

pub gather_start : (bs : List ℕ) (k : ℕ) → 0 ≡ field (unpack bs) (8 * k) (8 * 0)
unfolding value_from
gather_start bs k = refl

pub gather_next : (bs : List ℕ) (k j r b : ℕ) → r ≡ field (unpack bs) (8 * k) (8 * j) → b ≡ get_or bs (k + j) 0 → b < 256 → k + j < length bs
    → r * 256 + b ≡ field (unpack bs) (8 * k) (8 * (j + 1))
gather_next bs k j r b er eb small room =
    let u : List ℕ = unpack bs in
    let more : 8 * (j + 1) ≡ 8 * j + 8 = omega arith in
    let sum : 8 * k + 8 * j ≡ 8 * (k + j) = omega arith in
    let last : take 8 (drop (8 * j) (drop (8 * k) u)) ≡ bits 8 b
    = ap (take 8) (drop-drop (8 * j) (8 * k) u ∙ ap (λ (i : ℕ). drop i u) sum) ∙ byte_bits_lem bs (k + j) room ∙ ap (bits 8) (sym eb) in
    let all : field u (8 * k) (8 * (j + 1)) ≡ r * 2 ^ 8 + b % 2 ^ 8
    = ap (field u (8 * k)) more ∙ ap (value_from 0) (take-add (8 * j) 8 (drop (8 * k) u))
    ∙ value_append 0 (take (8 * j) (drop (8 * k) u)) (take 8 (drop (8 * j) (drop (8 * k) u)))
    ∙ ap₂ value_from (sym er) last ∙ value_bits r 8 b in
    omega (arith, all, mod-eq_of_lt small)

pub gather_fits : (bs : List ℕ) (k j r b : ℕ) → r ≡ field (unpack bs) (8 * k) (8 * j) → k + j ≤ length bs → j < 5 → b < 256 → r * 256 + b < 2 ^ 64
gather_fits bs k j r b e room h small =
    let l : r < 2 ^ 32
    = subst (λ (n : ℕ). n < 2 ^ 32) (sym e)
    (lt_of_lt_of_le (field_lt (unpack bs) (8 * k) (8 * j) (binary_unpack bs) (omega (arith, length_unpack bs))) (pow_mono {i = 8 * j} {j = 32} (omega arith))) in
    omega arith

-- the n bytes from byte k on
module _ (bs : List ℕ) (k n : ℕ) (room : k + n ≤ length bs) where
  pub part_length : length (take (k + n - k) (drop k bs)) ≡ n
  part_length = length-take-le (k + n - k) (drop k bs) (omega (arith, length-drop k bs)) ∙ omega arith

  module _ (byte : (i : ℕ) → get_or bs i 0 < 256) (j r : ℕ) (inv : r ≡ field (unpack bs) (8 * k) (8 * j)) (here : j < length (take (k + n - k) (drop k bs))) where
    part_at : get_or (take (k + n - k) (drop k bs)) j 0 ≡ get_or bs (k + j) 0
    part_at = get_or-take (k + n - k) (drop k bs) j 0 (omega (arith, part_length)) ∙ get_or-drop k bs j 0

    part_byte : get_or (take (k + n - k) (drop k bs)) j 0 < 256
    part_byte = subst (λ (x : ℕ). x < 256) (sym part_at) (byte (k + j))

    pub part_fits : n ≤ 5 → r * 256 + get_or (take (k + n - k) (drop k bs)) j 0 < 2 ^ 64
    part_fits few = gather_fits bs k j r (get_or (take (k + n - k) (drop k bs)) j 0) inv (omega (arith, part_length)) (omega (arith, part_length)) part_byte

    pub part_next : r * 256 + get_or (take (k + n - k) (drop k bs)) j 0 ≡ field (unpack bs) (8 * k) (8 * (j + 1))
    part_next = gather_next bs k j r (get_or (take (k + n - k) (drop k bs)) j 0) inv part_at part_byte (omega (arith, part_length))

-- the field that they hold
pub gather_end : (bs : List ℕ) (at len k end n r : ℕ) → r ≡ field (unpack bs) (8 * k) (8 * n) → k ≡ at / 8 → end ≡ at % 8 + len → n ≡ (end + 7) / 8
    → at + len ≤ 8 * length bs → r / 2 ^ (8 * n - end) % 2 ^ len ≡ field (unpack bs) at len
gather_end bs at len k end n r er ek ee en room =
    let c : ℕ = at % 8 in
    let d : ℕ = 8 * n - end in
    let place : 8 * k + c ≡ at = omega arith in
    let width : 8 * n ≡ c + (len + d) = omega arith in
    ap (λ (x : ℕ). x / 2 ^ d % 2 ^ len) (er ∙ ap (field (unpack bs) (8 * k)) width)
    ∙ field_within (unpack bs) (8 * k) c len d (binary_unpack bs) (omega (arith, length_unpack bs))
    ∙ ap (λ (i : ℕ). field (unpack bs) i len) place

-- the number of which the low bits are kept
pub power_is : (len : ℕ) → len ≤ 32 → 1 * 2 ^ len % 2 ^ 64 ≡ 2 ^ len
power_is len h = shl_exact {a = 1} 1 len 64 (lit< tt) (omega arith) ∙ one-mul (2 ^ len)
