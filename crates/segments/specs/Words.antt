-- Laws that the proof of `data_codewords` cites: what stands in the buffer after each step, and the definition's codewords at the end.
-- Assumes nothing.
use Rattle.std.specs.Prelude.{◌≡◌, ℕ, ◌+◌, ◌*◌, ◌/◌, ◌%◌, ◌^◌, ◌<◌, ◌≤◌, T, List, ◌++◌, length, take, drop, replicate, nat_le}
use Rattle.std.proofs.Common.{sym, ◌∙◌, arith, leb→le, take_at}
use Rattle.std.proofs.Math.Path.{ap, ap₂, subst}
use Rattle.std.proofs.Math.ListN.{length-append}
use Rattle.std.proofs.lemmas.List.{length-replicate}
use Rattle.standard.specs.Bits.{pack, unpack}
use Rattle.standard.specs.Sizes.{data_codewords, capacity}
use Rattle.standard.specs.Segments.{Segment, stream, total_bits, lengths_fit, fits}
use Rattle.standard.specs.Codewords.{padded, data_words}
use Rattle.standard.specs.Field.{Bytes}
use Rattle.laws.specs.Tests.{and_left, and_right}
use Rattle.laws.specs.Lists.{bytes_take}
use Rattle.counts.specs.Ranges.{pair_range}
use Rattle.counts.specs.Stream.{stream_length}
use Rattle.bits.specs.Bytes.{pack_unpack, unpack_take}
use Rattle.bits.specs.Appended.{Free, Appended, appended_length, free_then, free_zeros, append_then}
use Rattle.segments.specs.Ends.{end_width, fill_width, end_bits, filled_is, end_length, fill_up, fill_inside}

pub lengths_fit_lem : (v l : ℕ) (ss : List Segment) → T (fits l ss v) → T (lengths_fit v ss)
unfolding fits
lengths_fit_lem v l ss t = and_left (lengths_fit v ss) (nat_le (total_bits v ss) (capacity v l)) t

module _ (v l : ℕ) (ss : List Segment) (buf₀ : List ℕ) (z : buf₀ ≡ replicate (data_codewords v l) 0) (t : T (fits l ss v)) (low : 1 ≤ v) (high : v ≤ 40) (lv : l ≤ 3) where
  few : data_codewords v l ≤ 2956
  few = (pair_range v l low high lv).words

  pub stream_room : length (stream v ss) ≤ 8 * data_codewords v l
  unfolding fits capacity
  stream_room =
      subst (λ (k : ℕ). k ≤ 8 * data_codewords v l) (sym (stream_length v ss))
      (leb→le (total_bits v ss) (8 * data_codewords v l) (and_right (lengths_fit v ss) (nat_le (total_bits v ss) (8 * data_codewords v l)) t))

  zeros_free : (bs : List ℕ) → length bs ≤ 8 * data_codewords v l → Free buf₀ 0 bs
  zeros_free bs h = subst (λ (b : List ℕ). Free b 0 bs) (sym z) (free_zeros (data_codewords v l) bs (omega (arith, few)) h)

  length₀ : length buf₀ ≡ data_codewords v l
  length₀ = ap length z ∙ length-replicate (data_codewords v l) 0

  pub stream_free : Free buf₀ 0 (stream v ss)
  stream_free = zeros_free (stream v ss) stream_room

  pub capacity_fits : (n : ℕ) → n ≡ data_codewords v l → 8 * n < 2 ^ 64
  capacity_fits n e = omega (arith, few)

  module _ (n : ℕ) (en : n ≡ data_codewords v l) (buf₁ : List ℕ) (p : ℕ) (h : Appended buf₀ buf₁ 0 p (stream v ss)) where
    place : p ≡ length (stream v ss)
    place = let e = h.next in omega arith

    inside : 0 + length (stream v ss) ≤ 8 * length buf₀
    inside = omega (arith, stream_room, length₀)

    length₁ : length buf₁ ≡ data_codewords v l
    length₁ = appended_length buf₀ buf₁ 0 p (stream v ss) h inside ∙ length₀

    all : List ℕ
    all = stream v ss ++ end_bits (8 * n) p

    ended : p + length (end_bits (8 * n) p) ≤ 8 * length buf₁
    ended =
        let q : p + end_width (8 * n) p ≤ 8 * length buf₁ = omega (arith, place, stream_room, length₁, en) in
        omega (arith, end_length (8 * n) p, fill_inside (p + end_width (8 * n) p) (length buf₁) q)

    all_free : Free buf₀ 0 all
    unfolding all
    all_free =
        zeros_free (stream v ss ++ end_bits (8 * n) p)
        (omega (arith, length-append (stream v ss) (end_bits (8 * n) p), ended, place, length₁))

    pub len_inside : p ≤ 8 * n
    len_inside = omega (arith, place, stream_room, en)

    pub end_free : Free buf₁ p (end_bits (8 * n) p)
    unfolding all
    end_free = free_then buf₀ buf₁ 0 p (stream v ss) h inside (end_bits (8 * n) p) all_free

    module _ (buf₂ : List ℕ) (r : ℕ) (g : Appended buf₁ buf₂ p r (end_bits (8 * n) p)) where
      length₂ : length buf₂ ≡ data_codewords v l
      length₂ = appended_length buf₁ buf₂ p r (end_bits (8 * n) p) g ended ∙ length₁

      whole : Appended buf₀ buf₂ 0 r all
      unfolding all
      whole = append_then buf₀ buf₁ 0 p (stream v ss) h inside buf₂ r (end_bits (8 * n) p) g

      length_all : length all ≡ r
      length_all = let e = whole.next in omega arith

      up : 8 * (r / 8) ≡ r
      up =
          let e : r ≡ p + end_width (8 * n) p + fill_width (p + end_width (8 * n) p) = omega (arith, g.next, end_length (8 * n) p) in
          let f : r % 8 ≡ 0 = ap (λ (k : ℕ). k % 8) e ∙ fill_up (p + end_width (8 * n) p) in
          omega arith

      pub pads_inside : r / 8 ≤ length buf₂
      pads_inside = omega (arith, g.next, ended, length₁, length₂)

      bytes_are : Bytes buf₂ → take (r / 8) buf₂ ≡ pack all
      bytes_are b =
          sym (pack_unpack (take (r / 8) buf₂) (bytes_take (r / 8) buf₂ b))
          ∙ ap pack (unpack_take (r / 8) buf₂ ∙ ap₂ (λ (k : ℕ) (u : List ℕ). take k u) up whole.wrote ∙ take_at all (drop (0 + length all) (unpack buf₀)) r length_all)

      pub words_done : (new : List ℕ) → Bytes buf₂ → new ≡ padded (length buf₂) (take (r / 8) buf₂) → new ≡ data_words v l ss
      unfolding data_words capacity all
      words_done new b e =
          e ∙ ap₂ padded length₂ (bytes_are b)
          ∙ ap₂ (λ (k j : ℕ). padded (data_codewords v l) (pack (stream v ss ++ end_bits (8 * k) j))) en place
          ∙ ap (λ (bs : List ℕ). padded (data_codewords v l) (pack bs)) (sym (filled_is (8 * data_codewords v l) (stream v ss)))
