-- A field is written into bytes piece by piece: as many bits as a byte has room for, where zero bits stand from there on.
-- Assumes nothing.
use Rattle.std.specs.Prelude.{ℕ, zero, suc, ◌+◌, ◌-◌, ◌*◌, ◌/◌, ◌%◌, ◌^◌, ◌≤◌, ◌<◌, Bool, List, [], ◌∷◌, ◌++◌, ◌≡◌, T, length, get_or, set, take, drop}
use Rattle.std.proofs.Common.{append_assoc, sym, ap, ap₂, ◌∙◌, subst, le_of_suc-le-suc, not-suc-le-zero, one-mul, mod-lt, mod-eq_of_lt, div-add-mod', div-lt_iff_lt-mul, lt_of_lt_of_le, arith, lit<, pow_pos, pow_mono, pow-add, shl_exact, ext_get_or, get_or-append-add}
use Rattle.std.specs.Int.Bits.{bit_or}
use Rattle.std.proofs.lemmas.List.{take-append-le, drop-append-le}
use Rattle.std.proofs.Math.Seq.{take-append-add, drop-append-add}
use Rattle.standard.specs.Numbers.{same}
use Rattle.standard.specs.Bits.{bits, unpack, value_from}
use Rattle.laws.specs.Computed.{among, below}
use Rattle.laws.specs.Lists.{same_eq, length_bits, zeros_at}
use Rattle.bits.specs.PackedLaws.{get_d_bits, get_d_unpack, value_bits}
use Rattle.bits.specs.Fields.{bits_add, bits_low}
use Rattle.bits.specs.Bytes.{zero_bits}
use Rattle.bits.specs.Appended.{Free, Appended, append_field, Progress, progress_free, progress_next, progress_end}

-- ---- one byte

-- l with b in the place of its part at m
abbrev pasted : List ℕ → ℕ → List ℕ → List ℕ
pasted l m b = take m l ++ (b ++ drop (m + length b) l)

-- the byte whose m high bits are y, and zeros after them: then `x | v << (8 - m - w)` stores the w bits of v at m. At each of these
or_test : ℕ → ℕ → ℕ → ℕ → Bool
or_test m w v y = same (bits 8 (bit_or (y * 2 ^ (8 - m)) (v * 2 ^ (8 - m - w) % 256))) (pasted (bits 8 (y * 2 ^ (8 - m))) m (bits w v))

or_all : (m : ℕ) → m < 8 → (w : ℕ) → w < 9 - m → (v : ℕ) → v < 2 ^ w → (y : ℕ) → y < 2 ^ m → T (or_test m w v y)
unfolding or_test bits
or_all m hm w hw v hv y hy =
    below (or_test m w v) (2 ^ m)
    (below (λ v. among 0 (2 ^ m) (or_test m w v)) (2 ^ w)
    (below (λ w. among 0 (2 ^ w) (λ v. among 0 (2 ^ m) (or_test m w v))) (9 - m)
    (below (λ m. among 0 (9 - m) (λ w. among 0 (2 ^ w) (λ v. among 0 (2 ^ m) (or_test m w v)))) 8 tt m hm) w hw) v hv) y hy

-- bits that are all 0 are those of a number whose rest is 0
rest_zero : (w x : ℕ) → ((j : ℕ) → j < w → get_or (bits w x) j 0 ≡ 0) → x % 2 ^ w ≡ 0
rest_zero w x h =
    let e : bits w x ≡ bits w 0
    = ext_get_or 0 (bits w x) (bits w 0) (length_bits w x ∙ sym (length_bits w 0))
    (λ j l. h j (omega (arith, length_bits w x)) ∙ sym (ap (λ (r : List ℕ). get_or r j 0) (zero_bits w) ∙ zeros_at w j)) in
    omega (arith, sym (value_bits 0 w x) ∙ ap (value_from 0) e ∙ value_bits 0 w 0, mod-eq_of_lt (pow_pos w))

or_part : (m w v x : ℕ) → m + w ≤ 8 → 0 < w → v < 2 ^ w → x < 256 → ((j : ℕ) → m ≤ j → j < 8 → get_or (bits 8 x) j 0 ≡ 0)
    → bits 8 (bit_or x (v * 2 ^ (8 - m - w) % 256)) ≡ pasted (bits 8 x) m (bits w v)
unfolding or_test
or_part m w v x room some hv hx zeros =
    subst (λ (n : ℕ). bits 8 (bit_or n (v * 2 ^ (8 - m - w) % 256)) ≡ pasted (bits 8 n) m (bits w v)) high
    (same_eq (bits 8 (bit_or (y * 2 ^ (8 - m)) (v * 2 ^ (8 - m - w) % 256))) (pasted (bits 8 (y * 2 ^ (8 - m))) m (bits w v))
    (or_all m (omega arith) w (omega arith) v hv y less))
  where
    y : ℕ
    y = x / 2 ^ (8 - m)

    whole : m + (8 - m) ≡ 8
    whole = omega arith

    parts : bits 8 x ≡ bits m y ++ bits (8 - m) x
    parts = ap (λ (n : ℕ). bits n x) (sym whole) ∙ bits_add m (8 - m) x

    low : (j : ℕ) → j < 8 - m → get_or (bits (8 - m) x) j 0 ≡ 0
    low j l =
        sym (get_or-append-add (bits m y) (bits (8 - m) x) j 0) ∙ ap (λ (n : ℕ). get_or (bits m y ++ bits (8 - m) x) (n + j) 0) (length_bits m y)
        ∙ ap (λ (r : List ℕ). get_or r (m + j) 0) (sym parts) ∙ zeros (m + j) (omega arith) (omega arith)

    high : y * 2 ^ (8 - m) ≡ x
    high = omega (arith, div-add-mod' x (2 ^ (8 - m)), rest_zero (8 - m) x low)

    less : y < 2 ^ m
    less = (div-lt_iff_lt-mul (pow_pos (8 - m))).1 (subst (λ (n : ℕ). x < n) (ap (λ (n : ℕ). 2 ^ n) (sym whole) ∙ pow-add 2 m (8 - m)) hx)

-- ---- the bytes

-- a byte whose bits are those of another, with b in them at m, put into its place
unpack_part : (bs : List ℕ) (k m x : ℕ) (b : List ℕ) → k < length bs → m + length b ≤ 8 → bits 8 x ≡ pasted (bits 8 (get_or bs k 0)) m b
    → unpack (set bs k x) ≡ pasted (unpack bs) (k * 8 + m) b
unfolding unpack
unpack_part [] k m x b hk hm e = absurd (not-suc-le-zero hk)
unpack_part (y ∷ bs) zero m x b hk hm e =
    let z : m ≡ 0 * 8 + m = omega arith in
    ap (λ (r : List ℕ). r ++ unpack bs) e ∙ append_assoc (take m (bits 8 y)) (b ++ drop (m + length b) (bits 8 y)) (unpack bs)
    ∙ ap₂ (λ (a r : List ℕ). a ++ r) (sym (take-append-le m (bits 8 y) (unpack bs) (omega (arith, length_bits 8 y))))
    (append_assoc b (drop (m + length b) (bits 8 y)) (unpack bs)
    ∙ ap (λ (r : List ℕ). b ++ r) (sym (drop-append-le (m + length b) (bits 8 y) (unpack bs) (omega (arith, length_bits 8 y)))))
    ∙ ap (λ (n : ℕ). pasted (bits 8 y ++ unpack bs) n b) z
unpack_part (y ∷ bs) (suc k) m x b hk hm e =
    let n : ℕ = k * 8 + m in
    let z : length (bits 8 y) + n ≡ suc k * 8 + m = omega (arith, length_bits 8 y) in
    let z' : length (bits 8 y) + (n + length b) ≡ length (bits 8 y) + n + length b = omega arith in
    ap (λ (r : List ℕ). bits 8 y ++ r) (unpack_part bs k m x b (le_of_suc-le-suc hk) hm e)
    ∙ sym (append_assoc (bits 8 y) (take n (unpack bs)) (b ++ drop (n + length b) (unpack bs)))
    ∙ ap₂ (λ (a r : List ℕ). a ++ (b ++ r)) (sym (take-append-add (bits 8 y) (unpack bs) n))
    (sym (drop-append-add (bits 8 y) (unpack bs) (n + length b)) ∙ ap (λ (i : ℕ). drop i (bits 8 y ++ unpack bs)) z')
    ∙ ap (λ (i : ℕ). pasted (bits 8 y ++ unpack bs) i b) z

module _ (buf : List ℕ) (i v w : ℕ) (some : 0 < w) (room : i % 8 + w ≤ 8) (f : Free buf i (bits w v)) where
  pub inside : i / 8 < length buf
  inside = omega (arith, f.room, length_bits w v)

  pub put_piece : v < 2 ^ w → get_or buf (i / 8) 0 < 256
      → Appended buf (set buf (i / 8) (bit_or (get_or buf (i / 8) 0) (v * 2 ^ (8 - i % 8 - w) % 256))) i (i + w) (bits w v)
  put_piece small byte =
      append_field buf (set buf (i / 8) (bit_or (get_or buf (i / 8) 0) (v * 2 ^ (8 - i % 8 - w) % 256))) i w v
      (unpack_part buf (i / 8) (i % 8) (bit_or (get_or buf (i / 8) 0) (v * 2 ^ (8 - i % 8 - w) % 256)) (bits w v) inside (omega (arith, length_bits w v))
      (or_part (i % 8) w v (get_or buf (i / 8) 0) room some small byte zeros)
      ∙ ap₂ (λ (n l : ℕ). take n (unpack buf) ++ (bits w v ++ drop (n + l) (unpack buf))) (div-add-mod' i 8) (length_bits w v)
      ∙ sym (append_assoc (take i (unpack buf)) (bits w v) (drop (i + w) (unpack buf))))
    where
      zeros : (j : ℕ) → i % 8 ≤ j → j < 8 → get_or (bits 8 (get_or buf (i / 8) 0)) j 0 ≡ 0
      zeros j low high =
          get_d_bits 8 (get_or buf (i / 8) 0) j high ∙ ap (λ (k : ℕ). get_or buf (i / 8) 0 / 2 ^ k % 2) (omega arith) ∙ sym (get_d_unpack buf (i / 8) j inside high)
          ∙ f.zeros (i / 8 * 8 + j) (omega arith)

-- ---- the pieces of a field

power_is : (w : ℕ) → w ≤ 8 → 1 * 2 ^ w % 2 ^ 32 ≡ 2 ^ w
power_is w h = shl_exact {a = 1} 1 w 32 (lit< tt) (omega arith) ∙ one-mul (2 ^ w)

-- the next w of the bits that are left, as the code has them
abbrev pub piece : ℕ → ℕ → ℕ → ℕ
piece left w val = val / 2 ^ (left - w) % (1 * 2 ^ w % 2 ^ 32)

module _ (left w val : ℕ) (few : w ≤ 8) where
  pub power_some : 0 < 1 * 2 ^ w % 2 ^ 32
  power_some = subst (λ (n : ℕ). 0 < n) (sym (power_is w few)) (pow_pos w)

  piece_is : piece left w val ≡ val / 2 ^ (left - w) % 2 ^ w
  piece_is = ap (λ (n : ℕ). val / 2 ^ (left - w) % n) (power_is w few)

  pub piece_lt : piece left w val < 2 ^ w
  piece_lt = subst (λ (n : ℕ). n < 2 ^ w) (sym piece_is) (mod-lt (val / 2 ^ (left - w)) (pow_pos w))

  pub piece_byte : piece left w val < 256
  piece_byte = lt_of_lt_of_le piece_lt (pow_mono {i = w} {j = 8} few)

  -- it, and what is left then
  pub pieces : w ≤ left → bits left val ≡ bits w (piece left w val) ++ bits (left - w) val
  pieces h =
      let e : w + (left - w) ≡ left = omega arith in
      ap (λ (n : ℕ). bits n val) (sym e) ∙ bits_add w (left - w) val
      ∙ ap (λ (l : List ℕ). l ++ bits (left - w) val) (sym (bits_low w (val / 2 ^ (left - w))) ∙ ap (bits w) (sym piece_is))

module _ (old buf : List ℕ) (at p len left w val : ℕ) (f : Free old at (bits len val)) (g : Progress old buf at p (bits len val) (bits left val)) (few : w ≤ 8)
    (room : w ≤ left) where
  pub piece_free : Free buf p (bits w (piece left w val))
  piece_free =
      progress_free old buf at p (bits len val) (bits left val) (bits w (piece left w val)) (bits (left - w) val) g (pieces left w val few room) f

  pub piece_room : p + w < 2 ^ 64
  piece_room = omega (arith, piece_free.room, piece_free.small, length_bits w (piece left w val))

  pub piece_next : (new : List ℕ) → Appended buf new p (p + w) (bits w (piece left w val)) → Progress old new at (p + w) (bits len val) (bits (left - w) val)
  piece_next new h =
      progress_next old buf at p (bits len val) (bits left val) (bits w (piece left w val)) (bits (left - w) val) g (pieces left w val few room) f new (p + w) h

pub pieces_end : (old buf : List ℕ) (at p len left val : ℕ) → Progress old buf at p (bits len val) (bits left val) → left ≤ 0 → Appended old buf at p (bits len val)
unfolding bits
pieces_end old buf at p len left val g none =
    let z : left ≡ 0 = omega arith in
    progress_end old buf at p (bits len val) (bits left val) g (ap (λ (n : ℕ). bits n val) z)
