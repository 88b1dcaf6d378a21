-- The bits of data codewords: the stream, and then the tail.
-- Assumes nothing.
use Prim.Native.Nat.{ℕ, zero, suc, ◌+◌, ◌-◌, ◌*◌, ◌/◌, ◌≤◌}
use Rattle.std.specs.Prelude.{Bool, true, false, cond, ◌≡◌, refl, ltb, take, drop}
use Rattle.std.proofs.Common.{sym, ◌∙◌, lit<}
use Rattle.std.proofs.Math.Path.{ap, ap₂, subst}
use mathlib.Core.List.{List, [], ◌∷◌, ◌++◌, append_assoc}
use native.Mathlib.Omega.{arith}
use Rattle.std.proofs.Math.ListN.{length, replicate, length-append}
use Rattle.standard.specs.Numbers.{from}
use Rattle.standard.specs.Bits.{bits, byte_at, pack, unpack}
use Rattle.standard.specs.Sizes.{data_codewords, capacity}
use Rattle.standard.specs.Kinds.{mode_bits, count_width, eci_bits}
use Rattle.standard.specs.Segments.{Segment, payload, segment_bits, stream}
use Rattle.standard.specs.Codewords.{terminated, filled, pad_byte, padded, data_words}
use Rattle.standard.specs.Field.{Bytes}
use Rattle.laws.specs.Lists.{length_from, length_tabulate, bytes_append}
use Rattle.bits.specs.Fields.{Binary, binary_append, binary_bits}
use Rattle.bits.specs.Bytes.{bytes_pack, unpack_append, unpack_pack, zero_bits}
use Rattle.segments.specs.Kinds.{width, group_number}
use Rattle.segments.specs.Runs.{part, run_bits}
use Rattle.segments.specs.Payload.{segment, payload_run}
use Rattle.segments.specs.Ends.{end_width, fill_width, end_bits, filled_is, end_length, fill_up, fill_inside}
use Rattle.parser.specs.Tail.{pad_bits, fill_bits, tail_bits, pad_lt}

-- ---- the stream

binary_run : (k f n : ℕ) (cs : List ℕ) → Binary (run_bits k f n cs)
unfolding run_bits
binary_run k zero n cs = tt
binary_run k (suc f) zero cs = tt
binary_run k (suc f) (suc n) cs =
    binary_append (bits (width k (part k (suc n))) (group_number k 0 (take (part k (suc n)) cs))) (run_bits k f (suc n - part k (suc n)) (drop (part k (suc n)) cs))
    (binary_bits (width k (part k (suc n))) (group_number k 0 (take (part k (suc n)) cs))) (binary_run k f (suc n - part k (suc n)) (drop (part k (suc n)) cs))

binary_eci : (n : ℕ) → Binary (eci_bits n)
unfolding eci_bits
binary_eci n = go (ltb n 128) (ltb n 16_384)
  where
    go : (s t : Bool) → Binary (cond s (bits 8 n) (cond t (1 ∷ 0 ∷ bits 14 n) (1 ∷ 1 ∷ 0 ∷ bits 21 n)))
    go true t = binary_bits 8 n
    go false true = (lit< tt, (lit< tt, binary_bits 14 n))
    go false false = (lit< tt, (lit< tt, (lit< tt, binary_bits 21 n)))

binary_payload : (k : ℕ) (cs : List ℕ) (n : ℕ) → Binary (payload (segment k cs n))
unfolding payload
binary_payload zero cs n = subst Binary (sym (payload_run 0 cs n (lit< tt))) (binary_run 0 (length cs) (length cs) cs)
binary_payload (suc zero) cs n = subst Binary (sym (payload_run 1 cs n (lit< tt))) (binary_run 1 (length cs) (length cs) cs)
binary_payload (suc (suc zero)) cs n = subst Binary (sym (payload_run 2 cs n (lit< tt))) (binary_run 2 (length cs) (length cs) cs)
binary_payload (suc (suc (suc k))) cs n = binary_eci n

binary_stream : (v : ℕ) (ss : List Segment) → Binary (stream v ss)
unfolding stream segment_bits
binary_stream v [] = tt
binary_stream v (s ∷ ss) =
    binary_append (bits 4 (mode_bits s.kind) ++ bits (count_width v s.kind) (length s.chars) ++ payload s) (stream v ss)
    (binary_append (bits 4 (mode_bits s.kind) ++ bits (count_width v s.kind) (length s.chars)) (payload s)
    (binary_append (bits 4 (mode_bits s.kind)) (bits (count_width v s.kind) (length s.chars)) (binary_bits 4 (mode_bits s.kind)) (binary_bits (count_width v s.kind) (length s.chars)))
    (binary_payload s.kind s.chars s.assign))
    (binary_stream v ss)

-- ---- pad bytes

unpack_pads : (i f : ℕ) → unpack (from i f pad_byte) ≡ pad_bits f i
unfolding unpack pad_bits
unpack_pads i zero = refl
unpack_pads i (suc f) = ap (λ (l : List ℕ). bits 8 (pad_byte i) ++ l) (unpack_pads (suc i) f)

bytes_pads : (i f : ℕ) → Bytes (from i f pad_byte)
bytes_pads i zero = tt
bytes_pads i (suc f) = (pad_lt i, bytes_pads (suc i) f)

-- ---- the bits of the codewords

-- where the terminator ends
abbrev end_of : ℕ → List ℕ → ℕ
end_of n s = length s + end_width (8 * n) (length s)

-- with zero bits up to a byte they are k bytes
module _ (n k : ℕ) (s : List ℕ) (h : Binary s) (room : length s ≤ 8 * n) (whole : end_of n s + fill_width (end_of n s) ≡ 8 * k) where
  body : List ℕ
  body = s ++ end_bits (8 * n) (length s)

  pads : List ℕ
  pads = from 0 (n - k) pad_byte

  words : List ℕ
  words = padded n (pack (filled (terminated (8 * n) s)))

  body_length : length body ≡ 8 * k
  unfolding body
  body_length =
      length-append s (end_bits (8 * n) (length s))
      ∙ omega (arith, end_length (8 * n) (length s), whole)

  binary_zeros : (j : ℕ) → Binary (replicate j 0)
  binary_zeros j = subst Binary (zero_bits j) (binary_bits j 0)

  body_binary : Binary body
  unfolding body end_bits
  body_binary =
      binary_append s (replicate (end_width (8 * n) (length s)) 0 ++ replicate (fill_width (end_of n s)) 0) h
      (binary_append (replicate (end_width (8 * n) (length s)) 0) (replicate (fill_width (end_of n s)) 0) (binary_zeros (end_width (8 * n) (length s))) (binary_zeros (fill_width (end_of n s))))

  pack_length : length (pack body) ≡ k
  unfolding pack
  pack_length = length_tabulate (length body / 8) (byte_at body) ∙ omega (arith, body_length)

  words_eq : words ≡ pack body ++ pads
  unfolding words padded body pads
  words_eq =
      ap (λ (x : List ℕ). pack x ++ from 0 (n - length (pack x)) pad_byte) (filled_is (8 * n) s)
      ∙ ap (λ (j : ℕ). pack body ++ from 0 (n - j) pad_byte) pack_length

  words_bits : unpack words ≡ s ++ tail_bits (8 * n) (length s)
  unfolding body pads end_bits tail_bits fill_bits
  words_bits =
      let t : List ℕ = replicate (end_width (8 * n) (length s)) 0 in
      let g : List ℕ = replicate (fill_width (end_of n s)) 0 in
      let rest : List ℕ = pad_bits ((8 * n - (end_of n s + fill_width (end_of n s))) / 8) 0 in
      let d : (8 * n - (end_of n s + fill_width (end_of n s))) / 8 ≡ n - k = omega arith in
      ap unpack words_eq
      ∙ unpack_append (pack body) pads
      ∙ ap₂ (λ (x y : List ℕ). x ++ y) (unpack_pack body body_binary k body_length) (unpack_pads 0 (n - k) ∙ ap (λ (j : ℕ). pad_bits j 0) (sym d))
      ∙ append_assoc s (t ++ g) rest
      ∙ ap (λ (x : List ℕ). s ++ x) (append_assoc t g rest)
      ∙ ap₂ (λ (x y : List ℕ). s ++ (x ++ (y ++ rest))) (sym (zero_bits (end_width (8 * n) (length s)))) (sym (zero_bits (fill_width (end_of n s))))

  words_bytes : Bytes words
  unfolding pads
  words_bytes = subst Bytes (sym words_eq) (bytes_append (pack body) pads (bytes_pack body body_binary k body_length) (bytes_pads 0 (n - k)))

  words_length : length words ≡ n
  unfolding pads
  words_length =
      let e : end_of n s ≤ 8 * n = omega arith in
      ap length words_eq ∙ length-append (pack body) pads
      ∙ omega (arith, pack_length, length_from 0 (n - k) pad_byte, fill_inside (end_of n s) n e, whole)

whole_bytes : (e : ℕ) → e + fill_width e ≡ 8 * ((e + fill_width e) / 8)
whole_bytes e = omega (arith, fill_up e)

-- ---- the codewords of a list of segments

module _ (v l : ℕ) (ss : List Segment) (room : length (stream v ss) ≤ 8 * data_codewords v l) where
  e : ℕ
  e = end_of (data_codewords v l) (stream v ss)

  pub data_bits : unpack (data_words v l ss) ≡ stream v ss ++ tail_bits (8 * data_codewords v l) (length (stream v ss))
  unfolding data_words capacity words e
  data_bits = words_bits (data_codewords v l) ((e + fill_width e) / 8) (stream v ss) (binary_stream v ss) room (whole_bytes e)

  pub data_bytes : Bytes (data_words v l ss)
  unfolding data_words capacity words e
  data_bytes = words_bytes (data_codewords v l) ((e + fill_width e) / 8) (stream v ss) (binary_stream v ss) room (whole_bytes e)

  pub data_length : length (data_words v l ss) ≡ data_codewords v l
  unfolding data_words capacity words e
  data_length = words_length (data_codewords v l) ((e + fill_width e) / 8) (stream v ss) (binary_stream v ss) room (whole_bytes e)
