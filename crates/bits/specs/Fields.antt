-- Fields of a list of bits: read at a place, and written.
-- Assumes nothing.
use Rattle.std.specs.Prelude.{ℕ, zero, suc, ◌+◌, ◌-◌, ◌*◌, ◌/◌, ◌%◌, ◌^◌, ◌≤◌, ◌<◌, ◌≡◌, refl, List, [], ◌∷◌, ◌++◌, length, take, drop}
use Rattle.std.proofs.Common.{sym, ap, ap₂, ◌∙◌, subst, arith, zero-add, suc-add, mod-lt, mod-eq_of_lt, div-one, pow-suc, zero-lt-suc, div-lt_iff_lt-mul, length-append, length-drop, take-append-drop, take_at, drop_at, drop-drop, length-take-le, pow_pos, shr-shr}
use Rattle.std.proofs.Math.Nat.{div-div-eq-div-mul}
use Rattle.standard.specs.Bits.{bits, value_from, unpack}
use Rattle.laws.specs.Lists.{length_bits}
use Rattle.bits.specs.PackedLaws.{value_bits}

-- what `read_bits` gives
abbrev pub field : List ℕ → ℕ → ℕ → ℕ
field u at w = value_from 0 (take w (drop at u))

-- every number is 0 or 1
abbrev pub Binary : List ℕ → Type 0
Binary [] = Unit {0}
Binary (b ∷ bs) = (b < 2) × Binary bs

-- ---- binary lists
pub binary_append : (a b : List ℕ) → Binary a → Binary b → Binary (a ++ b)
binary_append [] b ha hb = hb
binary_append (x ∷ a) b ha hb = (ha.0, binary_append a b ha.1 hb)

pub binary_take : (n : ℕ) (a : List ℕ) → Binary a → Binary (take n a)
binary_take zero a h = tt
binary_take (suc n) [] h = tt
binary_take (suc n) (x ∷ a) h = (h.0, binary_take n a h.1)

pub binary_drop : (n : ℕ) (a : List ℕ) → Binary a → Binary (drop n a)
binary_drop zero a h = h
binary_drop (suc n) [] h = tt
binary_drop (suc n) (x ∷ a) h = binary_drop n a h.1

pub binary_bits : (w n : ℕ) → Binary (bits w n)
unfolding bits
binary_bits zero n = tt
binary_bits (suc w) n = (mod-lt (n / 2 ^ w) (zero-lt-suc 1), binary_bits w n)

pub binary_unpack : (ws : List ℕ) → Binary (unpack ws)
unfolding unpack
binary_unpack [] = tt
binary_unpack (w ∷ ws) = binary_append (bits 8 w) (unpack ws) (binary_bits 8 w) (binary_unpack ws)

-- ---- the number of bits, and its bits
half_of : (a b : ℕ) → b < 2 → (a * 2 + b) / 2 ≡ a
half_of a b h = omega arith

pub value_div : (a : ℕ) (bs : List ℕ) → Binary bs → value_from a bs / 2 ^ length bs ≡ a
unfolding value_from
value_div a [] h = div-one a
value_div a (b ∷ bs) h =
    ap (λ (k : ℕ). value_from (a * 2 + b) bs / k) (pow-suc 2 (length bs))
    ∙ sym (div-div-eq-div-mul (value_from (a * 2 + b) bs) (2 ^ length bs) 2)
    ∙ ap (λ (k : ℕ). k / 2) (value_div (a * 2 + b) bs h.1)
    ∙ half_of a b h.0

low_of : (a b : ℕ) → b < 2 → (a * 2 + b) % 2 ≡ b
low_of a b h = omega arith

pub bits_value : (a : ℕ) (bs : List ℕ) → Binary bs → bits (length bs) (value_from a bs) ≡ bs
unfolding value_from bits
bits_value a [] h = refl
bits_value a (b ∷ bs) h =
    ap₂ (λ (x : ℕ) (l : List ℕ). x ∷ l)
    (ap (λ (k : ℕ). k % 2) (value_div (a * 2 + b) bs h.1) ∙ low_of a b h.0)
    (bits_value (a * 2 + b) bs h.1)

pub value_lt : (bs : List ℕ) → Binary bs → value_from 0 bs < 2 ^ length bs
value_lt bs h =
    let p : 0 < 2 ^ length bs = pow_pos (length bs) in
    let q : value_from 0 bs / 2 ^ length bs < 1 = omega (arith, value_div 0 bs h) in
    omega (arith, (div-lt_iff_lt-mul p).0 q)

-- the bits of a number in two parts
pub bits_add : (a b x : ℕ) → bits (a + b) x ≡ bits a (x / 2 ^ b) ++ bits b x
unfolding bits
bits_add zero b x = ap (λ (n : ℕ). bits n x) (zero-add b)
bits_add (suc a) b x =
    let e : a + b ≡ b + a = omega arith in
    ap (λ (n : ℕ). bits n x) (suc-add a b)
    ∙ ap₂ (λ (n : ℕ) (l : List ℕ). (n % 2) ∷ l) (ap (λ (n : ℕ). x / 2 ^ n) e ∙ sym (shr-shr x b a)) (bits_add a b x)

-- the w low bits of a number are those of its rest
pub bits_low : (w n : ℕ) → bits w (n % 2 ^ w) ≡ bits w n
bits_low w n =
    let v : value_from 0 (bits w n) ≡ n % 2 ^ w = value_bits 0 w n ∙ omega arith in
    ap (bits w) (sym v) ∙ ap (λ (k : ℕ). bits k (value_from 0 (bits w n))) (sym (length_bits w n)) ∙ bits_value 0 (bits w n) (binary_bits w n)

-- ---- a field that stands there
module _ (u : List ℕ) (at w n : ℕ) (r : List ℕ) (e : drop at u ≡ bits w n ++ r) where
  pub field_hit : n < 2 ^ w → field u at w ≡ n
  field_hit h =
      ap (λ (l : List ℕ). value_from 0 (take w l)) e
      ∙ ap (value_from 0) (take_at (bits w n) r w (length_bits w n))
      ∙ value_bits 0 w n ∙ omega (arith, mod-eq_of_lt h)

  pub field_rest : drop (at + w) u ≡ r
  field_rest = sym (drop-drop w at u) ∙ ap (drop w) e ∙ drop_at (bits w n) r w (length_bits w n)

  pub field_room : at ≤ length u → at + w ≤ length u
  field_room h =
      let l : length u - at ≡ w + length r
      = sym (length-drop at u) ∙ ap length e ∙ length-append (bits w n) r ∙ ap (λ (k : ℕ). k + length r) (length_bits w n) in
      omega arith

-- ---- a field that is read
module _ (u : List ℕ) (at w : ℕ) (h : Binary u) (r : at + w ≤ length u) where
  part_length : length (take w (drop at u)) ≡ w
  part_length = length-take-le w (drop at u) (omega (arith, length-drop at u))

  pub field_split : drop at u ≡ bits w (field u at w) ++ drop (at + w) u
  field_split =
      sym (take-append-drop w (drop at u))
      ∙ ap₂ (λ (x y : List ℕ). x ++ y)
      (sym (bits_value 0 (take w (drop at u)) (binary_take w (drop at u) (binary_drop at u h)))
      ∙ ap (λ (k : ℕ). bits k (field u at w)) part_length)
      (drop-drop w at u)

  pub field_lt : field u at w < 2 ^ w
  field_lt = subst (λ (k : ℕ). field u at w < 2 ^ k) part_length (value_lt (take w (drop at u)) (binary_take w (drop at u) (binary_drop at u h)))
