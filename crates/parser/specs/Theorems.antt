-- Data codewords and lists of segments: what is encoded is parsed, what is parsed was encoded, and no codewords belong to two lists.
-- Assumes nothing.
use Rattle.std.specs.Prelude.{ℕ, suc, ◌+◌, ◌*◌, ◌≤◌, ◌≡◌, List, ◌++◌, T, leb, length}
use Rattle.std.proofs.Common.{sym, ap, ap₂, ◌∙◌, subst, arith, leb→le, le→leb}
use Rattle.standard.specs.Numbers.{every}
use Rattle.standard.specs.Bits.{unpack}
use Rattle.standard.specs.Sizes.{data_codewords, capacity}
use Rattle.standard.specs.Segments.{Segment, good_segment, stream, total_bits, lengths_fit, fits}
use Rattle.standard.specs.Codewords.{data_words}
use Rattle.standard.specs.Field.{Bytes}
use Rattle.laws.specs.Lists.{length_unpack}
use Rattle.laws.specs.Tests.{and_right, and_pair}
use Rattle.bits.specs.Fields.{binary_unpack}
use Rattle.bits.specs.Bytes.{same_bytes}
use Rattle.counts.specs.Stream.{stream_length}
use Rattle.segments.specs.Words.{lengths_fit_lem}
use Rattle.parser.specs.Tail.{tail_bits}
use Rattle.parser.specs.Parse.{Parsed, read, parse_from, parse_complete, parse_sound, Wrote, same_list}
use Rattle.parser.specs.Words.{data_bits, data_bytes, data_length}
use Rattle.parser.specs.Few.{few_bits}

-- what the codewords say at a version
abbrev pub parse : ℕ → List ℕ → Parsed
parse v ws = parse_from v (unpack ws) (suc (length (unpack ws))) 0

-- ---- a list that fits

pub fits_room : (v l : ℕ) (ss : List Segment) → T (fits l ss v) → length (stream v ss) ≤ 8 * data_codewords v l
unfolding fits capacity
fits_room v l ss t =
    subst (λ (k : ℕ). k ≤ 8 * data_codewords v l) (sym (stream_length v ss))
    (leb→le (total_bits v ss) (8 * data_codewords v l) (and_right (lengths_fit v ss) (leb (total_bits v ss) (8 * data_codewords v l)) t))

room_fits : (v l : ℕ) (ss : List Segment) → T (lengths_fit v ss) → length (stream v ss) ≤ 8 * data_codewords v l → T (fits l ss v)
unfolding fits capacity
room_fits v l ss t h =
    and_pair (lengths_fit v ss) (leb (total_bits v ss) (8 * data_codewords v l)) t
    (le→leb (total_bits v ss) (8 * data_codewords v l) (subst (λ (k : ℕ). k ≤ 8 * data_codewords v l) (stream_length v ss) h))

-- ---- the theorems

-- parsing what is encoded gives the list back, for every fitting list
pub parse_encoded : (v l : ℕ) (ss : List Segment) → T (every good_segment ss) → T (fits l ss v) → parse v (data_words v l ss) ≡ read ss
parse_encoded v l ss g t =
    let room : length (stream v ss) ≤ 8 * data_codewords v l = fits_room v l ss t in
    let u : List ℕ = unpack (data_words v l ss) in
    let long : length u ≡ 8 * data_codewords v l = length_unpack (data_words v l ss) ∙ ap (λ (k : ℕ). 8 * k) (data_length v l ss room) in
    let z : length (stream v ss) ≡ 0 + length (stream v ss) = omega arith in
    parse_complete v u ss (suc (length u)) 0 g (lengths_fit_lem v l ss t) (omega (arith, few_bits v ss, stream_length v ss)) (omega arith)
    (data_bits v l ss room ∙ ap₂ (λ (k j : ℕ). stream v ss ++ tail_bits k j) (sym long) z)

-- the codewords are exactly those of a list that is good and fits
pub record Encoded (v l : ℕ) (ws : List ℕ) (ss : List Segment) : Type 0 where
  pub goods : T (every good_segment ss)
  pub fit : T (fits l ss v)
  pub words : ws ≡ data_words v l ss

-- whatever is parsed, of bytes as many as there should be, is exactly the encoding of what is returned
pub parse_only : (v l : ℕ) (ws : List ℕ) (ss : List Segment) → Bytes ws → length ws ≡ data_codewords v l → parse v ws ≡ read ss → Encoded v l ws ss
parse_only v l ws ss hb hl e =
    let u : List ℕ = unpack ws in
    let n : ℕ = data_codewords v l in
    let long : length u ≡ 8 * n = length_unpack ws ∙ ap (λ (k : ℕ). 8 * k) hl in
    let w : Wrote v u 0 ss = parse_sound v u n (binary_unpack ws) long (suc (length u)) 0 ss (omega arith) e in
    let room : length (stream v ss) ≤ 8 * n = omega (arith, w.high) in
    let z : 0 + length (stream v ss) ≡ length (stream v ss) = omega arith in
    record {
      goods = w.goods;
      fit = room_fits v l ss w.short room;
      words = sym (same_bytes (data_words v l ss) ws (data_bytes v l ss room) hb
          (data_bits v l ss room ∙ ap₂ (λ (k j : ℕ). stream v ss ++ tail_bits k j) (sym long) (sym z) ∙ sym w.bits));
    }

-- two fitting lists with the same data codewords mean the same
pub no_two_lists : (v l : ℕ) (a b : List Segment) → T (every good_segment a) → T (every good_segment b) → T (fits l a v) → T (fits l b v)
    → data_words v l a ≡ data_words v l b → a ≡ b
no_two_lists v l a b ga gb fa fb e = same_list a b (sym (parse_encoded v l a ga fa) ∙ ap (parse v) e ∙ parse_encoded v l b gb fb)
