-- What follows the segments: a terminator, zero bits up to a byte, and pad bytes.
-- Assumes nothing.
use Rattle.std.specs.Prelude.{◌≡◌, ℕ, ◌+◌, ◌-◌, ◌*◌, ◌%◌, ◌^◌, ◌<◌, ◌≤◌, min, List, ◌++◌, length, take, get_or, replicate, ◌≢◌, refl}
use Rattle.std.proofs.Common.{sym, ap₂, ◌∙◌, append-nil, append_assoc, arith, eq-eqb, ne_eqb, length-append, drop_of_length-le, take_all, length-take-le}
use Rattle.std.proofs.Math.Path.{ap}
use Rattle.std.proofs.lemmas.List.{length-replicate}
use Rattle.std.proofs.lemmas.Slice.{put_mid-paste}
use borrow.Rule.Slice.PartMut.{put_mid}
use Rattle.standard.specs.Numbers.{tabulate}
use Rattle.standard.specs.Bits.{bits}
use Rattle.standard.specs.Codewords.{terminated, filled, pad_byte, padded}
use Rattle.laws.specs.Lists.{length_tabulate, is_tabulate, length_bits}
use Rattle.bits.specs.Bytes.{zero_bits}
use Rattle.bits.specs.Appended.{Free, Appended, first_free, second_free, both_done}

-- zero bits of the terminator, and up to a byte, after n of room bits
abbrev pub end_width : ℕ → ℕ → ℕ
end_width room n = min 4 (room - n)

abbrev pub fill_width : ℕ → ℕ
fill_width n = (8 - n % 8) % 8

unfoldable pub end_bits : ℕ → ℕ → List ℕ
end_bits room n = replicate (end_width room n) 0 ++ replicate (fill_width (n + end_width room n)) 0

-- the definition's
pub filled_is : (room : ℕ) (bs : List ℕ) → filled (terminated room bs) ≡ bs ++ end_bits room (length bs)
unfolding filled terminated end_bits
filled_is room bs =
    let t : List ℕ = replicate (end_width room (length bs)) 0 in
    let l : length (bs ++ t) ≡ length bs + end_width room (length bs) = length-append bs t ∙ ap (λ (k : ℕ). length bs + k) (length-replicate (end_width room (length bs)) 0) in
    ap (λ (k : ℕ). bs ++ t ++ replicate (fill_width k) 0) l ∙ append_assoc bs t (replicate (fill_width (length bs + end_width room (length bs))) 0)

-- "zero minus length by wrapping subtract, then remainder by 8"
pub wrapped_fill : (r n : ℕ) → (r + n) % 2 ^ 64 ≡ 0 → r % 8 ≡ fill_width n
wrapped_fill r n h = omega arith

-- they end at a byte, inside the room
pub fill_up : (n : ℕ) → (n + fill_width n) % 8 ≡ 0
fill_up n = omega arith

pub fill_inside : (n m : ℕ) → n ≤ 8 * m → n + fill_width n ≤ 8 * m
fill_inside n m h = omega arith

pub end_length : (room n : ℕ) → length (end_bits room n) ≡ end_width room n + fill_width (n + end_width room n)
unfolding end_bits
end_length room n =
    length-append (replicate (end_width room n) 0) (replicate (fill_width (n + end_width room n)) 0)
    ∙ ap₂ ◌+◌ (length-replicate (end_width room n) 0) (length-replicate (fill_width (n + end_width room n)) 0)

-- ---- appended in two fields

module _ (buf : List ℕ) (at room t : ℕ) (f : Free buf at (end_bits room at)) (em : t ≡ min (room - at) 4) where
  et : t ≡ end_width room at
  et = omega arith

  parts : end_bits room at ≡ bits t 0 ++ replicate (fill_width (at + t)) 0
  unfolding end_bits
  parts = ap (λ (k : ℕ). replicate k 0 ++ replicate (fill_width (at + k)) 0) (sym et) ∙ ap (λ (l : List ℕ). l ++ replicate (fill_width (at + t)) 0) (sym (zero_bits t))

  pub end_free : Free buf at (bits t 0)
  end_free = first_free buf at (end_bits room at) (bits t 0) (replicate (fill_width (at + t)) 0) f parts

  pub end_32 : t ≤ 32
  end_32 = omega arith

  module _ (new : List ℕ) (p w : ℕ) (h : Appended buf new at p (bits t 0)) (low : p < 2 ^ 64) (ew : w ≡ (0 + (2 ^ 64 - p)) % 2 ^ 64 % 8) where
    rest_is : w ≡ fill_width p
    rest_is = ew ∙ wrapped_fill ((0 + (2 ^ 64 - p)) % 2 ^ 64) p (omega arith)

    fill_is : replicate (fill_width (at + t)) 0 ≡ bits w 0
    fill_is =
        let e : p ≡ at + t = h.next ∙ ap (λ (k : ℕ). at + k) (length_bits t 0) in
        ap (λ (k : ℕ). replicate (fill_width k) 0) (sym e) ∙ ap (λ (k : ℕ). replicate k 0) (sym rest_is) ∙ sym (zero_bits w)

    both : end_bits room at ≡ bits t 0 ++ bits w 0
    both = parts ∙ ap (λ (l : List ℕ). bits t 0 ++ l) fill_is

    pub fill_free : Free new p (bits w 0)
    fill_free = second_free buf at (end_bits room at) (bits t 0) (bits w 0) f both new p h

    pub end_done : (new₂ : List ℕ) (q : ℕ) → Appended new new₂ p q (bits w 0) → Appended buf new₂ at q (end_bits room at)
    end_done new₂ q g = both_done buf at (end_bits room at) (bits t 0) (bits w 0) f both new new₂ p q h g

-- ---- pad bytes

pub pad_even : (i : ℕ) → i % 2 ≡ 0 → 236 ≡ pad_byte i
unfolding pad_byte
pad_even i h = simp (eq-eqb (i % 2) 0 h)

pub pad_odd : (i : ℕ) → (i % 2 ≢ 0) → 17 ≡ pad_byte i
unfolding pad_byte
pad_odd i h = simp (ne_eqb (i % 2) 0 h)

-- each byte of b, which is what stands from k on, is a pad byte
pub pad_end : (o b : List ℕ) (k m : ℕ) → ((j : ℕ) → j < m → get_or b j 0 ≡ pad_byte j) → length b ≡ m → m ≡ length o - k → k ≤ length o → put_mid k m o b ≡ padded (length o) (take k o)
unfolding padded
pad_end o b k m each lb em h =
    let t : length (take k o) ≡ k = length-take-le k o h in
    let last : length o ≤ k + m = omega arith in
    put_mid-paste k m o b (tabulate m pad_byte) m (is_tabulate 0 b m pad_byte lb each) refl (sym (length_tabulate m pad_byte))
    ∙ ap₂ (λ (x y : List ℕ). take k o ++ x ++ y) (take_all m (tabulate m pad_byte) (omega (arith, length_tabulate m pad_byte))) (drop_of_length-le o last)
    ∙ append-nil (take k o ++ tabulate m pad_byte)
    ∙ ap (λ (n : ℕ). take k o ++ tabulate n pad_byte) (em ∙ ap (λ (n : ℕ). length o - n) (sym t))
