-- Laws that the proofs of the appending of segments cite: a payload by its kind, and the three fields of a segment.
-- Assumes nothing.
use Rattle.std.specs.Prelude.{◌≡◌, ℕ, ◌^◌, ◌<◌, ◌≤◌, Bool, cond, ◌&&◌, T, List, [], ◌++◌, length, ◌==◌, nat_lt}
use Rattle.std.proofs.Common.{sym, ap₂, ◌∙◌, arith, ltb→lt, pow_mono, ne_eqb}
use Rattle.std.specs.Borrow.{Bor}
use Rattle.std.proofs.Math.Path.{ap, subst}
use mathlib.Core.List.{append_assoc}
use Rattle.standard.specs.Numbers.{every}
use Rattle.standard.specs.Bits.{bits}
use Rattle.standard.specs.Kinds.{mode_bits, count_width, is_digit, is_alphanumeric, allowed, digit_bits, pair_bits, byte_bits, eci_bits}
use Rattle.standard.specs.Segments.{Segment, good_segment, payload, segment_bits}
use Rattle.types.specs.declared.TextKind.{TextKind}
use Rattle.types.specs.declared.TextKind.TheVariants.{Numeric, Alphanumeric, Byte}
use Rattle.types.specs.Numbers.{text_kind_of}
use Rattle.types.specs.Laws.{text_kind_lt}
use Rattle.laws.specs.Tests.{and_right}
use Rattle.bits.specs.Appended.{Free, Appended, first_free, second_free, both_done}
use Rattle.segments.specs.Runs.{run_bits}
use Rattle.segments.specs.Payload.{segment, payload_run}
use Rattle.segments.specs.declared.records.Segment.{Segment as Named}
use Rattle.segments.specs.declared.records.Segment.TheVariants.{Text, Eci}
use Rattle.segments.specs.Meaning.{meaning}
use Rattle.segments.specs.Fit.{count_le}

-- ---- a segment of characters, and one of an ECI number

module _ (k : ℕ) (cs : List ℕ) (a : ℕ) (low : k < 3) where
  chars_allowed : T (good_segment (segment k cs a)) → T (every (allowed k) cs)
  unfolding good_segment
  chars_allowed t =
      let u : T (nat_lt k 3 && (a == 0 && every (allowed k) cs))
      = subst (λ (b : Bool). T (cond b (length cs == 0 && nat_lt a 1_000_000) (nat_lt k 3 && (a == 0 && every (allowed k) cs)))) (ne_eqb k 3 (λ e. omega arith)) t in
      and_right (a == 0) (every (allowed k) cs) (and_right (nat_lt k 3) (a == 0 && every (allowed k) cs) u)

  chars_free : (buf : List ℕ) (at : ℕ) → Free buf at (payload (segment k cs a)) → Free buf at (run_bits k (length cs) (length cs) cs)
  chars_free buf at f = subst (λ (l : List ℕ). Free buf at l) (payload_run k cs a low) f

  chars_done : (buf new : List ℕ) (at r : ℕ) → Appended buf new at r (run_bits k (length cs) (length cs) cs) → Appended buf new at r (payload (segment k cs a))
  chars_done buf new at r h = subst (λ (l : List ℕ). Appended buf new at r l) (sym (payload_run k cs a low)) h

module _ (cs : List ℕ) (a : ℕ) where
  number_good : T (good_segment (segment 3 cs a)) → a < 1_000_000
  unfolding good_segment
  number_good t = ltb→lt a 1_000_000 (and_right (length cs == 0) (nat_lt a 1_000_000) t)

  number_free : (buf : List ℕ) (at : ℕ) → Free buf at (payload (segment 3 cs a)) → Free buf at (eci_bits a)
  unfolding payload
  number_free buf at f = f

  number_done : (buf new : List ℕ) (at r : ℕ) → Appended buf new at r (eci_bits a) → Appended buf new at r (payload (segment 3 cs a))
  unfolding payload
  number_done buf new at r h = h

module _ (seg : Named) (kind : TextKind) (chars : Bor (List ℕ)) (is : seg ≡ Text kind chars) where
  pub text_allowed : T (good_segment (meaning seg)) → T (every (allowed (text_kind_of kind)) chars.now)
  text_allowed t = chars_allowed (text_kind_of kind) chars.now 0 (text_kind_lt kind) (subst (λ (s : Named). T (good_segment (meaning s))) is t)

  pub text_free : (buf : List ℕ) (at : ℕ) → Free buf at (payload (meaning seg)) → Free buf at (run_bits (text_kind_of kind) (length chars.now) (length chars.now) chars.now)
  text_free buf at f = chars_free (text_kind_of kind) chars.now 0 (text_kind_lt kind) buf at (subst (λ (s : Named). Free buf at (payload (meaning s))) is f)

  pub text_done : (buf new : List ℕ) (at r : ℕ) → Appended buf new at r (run_bits (text_kind_of kind) (length chars.now) (length chars.now) chars.now) → Appended buf new at r (payload (meaning seg))
  text_done buf new at r h = subst (λ (s : Named). Appended buf new at r (payload (meaning s))) (sym is) (chars_done (text_kind_of kind) chars.now 0 (text_kind_lt kind) buf new at r h)

-- the payload of each kind, by the function that appends it
module _ (seg : Named) (chars : Bor (List ℕ)) where
  pub of_kind : {k j : TextKind} → seg ≡ Text k chars → k ≡ j → seg ≡ Text j chars
  of_kind is e = is ∙ ap (λ (i : TextKind). Text i chars) e

  pub digits_of : seg ≡ Text Numeric chars → T (good_segment (meaning seg)) → T (every is_digit chars.now)
  unfolding allowed
  digits_of is t = text_allowed seg Numeric chars is t

  pub alphanumerics_of : seg ≡ Text Alphanumeric chars → T (good_segment (meaning seg)) → T (every is_alphanumeric chars.now)
  unfolding allowed
  alphanumerics_of is t = text_allowed seg Alphanumeric chars is t

  module _ (buf : List ℕ) (at : ℕ) (f : Free buf at (payload (meaning seg))) where
    pub digits_free : seg ≡ Text Numeric chars → Free buf at (digit_bits chars.now)
    unfolding payload
    digits_free is = subst (λ (s : Named). Free buf at (payload (meaning s))) is f

    pub pairs_free : seg ≡ Text Alphanumeric chars → Free buf at (pair_bits chars.now)
    unfolding payload
    pairs_free is = subst (λ (s : Named). Free buf at (payload (meaning s))) is f

    pub bytes_free : seg ≡ Text Byte chars → Free buf at (byte_bits chars.now)
    unfolding payload
    bytes_free is = subst (λ (s : Named). Free buf at (payload (meaning s))) is f

  module _ (buf new : List ℕ) (at r : ℕ) where
    pub digits_done : seg ≡ Text Numeric chars → Appended buf new at r (digit_bits chars.now) → Appended buf new at r (payload (meaning seg))
    unfolding payload
    digits_done is h = subst (λ (s : Named). Appended buf new at r (payload (meaning s))) (sym is) h

    pub pairs_done : seg ≡ Text Alphanumeric chars → Appended buf new at r (pair_bits chars.now) → Appended buf new at r (payload (meaning seg))
    unfolding payload
    pairs_done is h = subst (λ (s : Named). Appended buf new at r (payload (meaning s))) (sym is) h

    pub bytes_done : seg ≡ Text Byte chars → Appended buf new at r (byte_bits chars.now) → Appended buf new at r (payload (meaning seg))
    unfolding payload
    bytes_done is h = subst (λ (s : Named). Appended buf new at r (payload (meaning s))) (sym is) h

module _ (seg : Named) (assign : ℕ) (is : seg ≡ Eci assign) where
  pub eci_number : T (good_segment (meaning seg)) → assign < 1_000_000
  eci_number t = number_good [] assign (subst (λ (s : Named). T (good_segment (meaning s))) is t)

  pub eci_free : (buf : List ℕ) (at : ℕ) → Free buf at (payload (meaning seg)) → Free buf at (eci_bits assign)
  eci_free buf at f = number_free [] assign buf at (subst (λ (s : Named). Free buf at (payload (meaning s))) is f)

  pub eci_done : (buf new : List ℕ) (at r : ℕ) → Appended buf new at r (eci_bits assign) → Appended buf new at r (payload (meaning seg))
  eci_done buf new at r h = subst (λ (s : Named). Appended buf new at r (payload (meaning s))) (sym is) (number_done [] assign buf new at r h)

-- ---- a segment: mode, length, payload

module _ (buf : List ℕ) (at v : ℕ) (s : Segment) (m j : ℕ) (f : Free buf at (segment_bits v s)) (em : m ≡ mode_bits j) (ej : j ≡ s.kind) where
  fields : segment_bits v s ≡ bits 4 m ++ (bits (count_width v s.kind) (length s.chars) ++ payload s)
  unfolding segment_bits
  fields =
      append_assoc (bits 4 (mode_bits s.kind)) (bits (count_width v s.kind) (length s.chars)) (payload s)
      ∙ ap (λ (i : ℕ). bits 4 i ++ (bits (count_width v s.kind) (length s.chars) ++ payload s)) (sym (em ∙ ap mode_bits ej))

  pub mode_free : Free buf at (bits 4 m)
  mode_free = first_free buf at (segment_bits v s) (bits 4 m) (bits (count_width v s.kind) (length s.chars) ++ payload s) f fields

  module _ (new : List ℕ) (p w n : ℕ) (h : Appended buf new at p (bits 4 m)) (ew : w ≡ count_width v j) (en : n ≡ length s.chars) where
    later : Free new p (bits (count_width v s.kind) (length s.chars) ++ payload s)
    later = second_free buf at (segment_bits v s) (bits 4 m) (bits (count_width v s.kind) (length s.chars) ++ payload s) f fields new p h

    two : bits (count_width v s.kind) (length s.chars) ++ payload s ≡ bits w n ++ payload s
    two = ap₂ (λ (i l : ℕ). bits i l ++ payload s) (sym (ew ∙ ap (count_width v) ej)) (sym en)

    pub count_free : Free new p (bits w n)
    count_free = first_free new p (bits (count_width v s.kind) (length s.chars) ++ payload s) (bits w n) (payload s) later two

    module _ (new₂ : List ℕ) (q : ℕ) (h₂ : Appended new new₂ p q (bits w n)) where
      pub payload_free : Free new₂ q (payload s)
      payload_free =
          second_free new p (bits (count_width v s.kind) (length s.chars) ++ payload s) (bits w n) (payload s) later two new₂ q h₂

      pub segment_done : (new₃ : List ℕ) (r : ℕ) → Appended new₂ new₃ q r (payload s) → Appended buf new₃ at r (segment_bits v s)
      segment_done new₃ r h₃ =
          both_done buf at (segment_bits v s) (bits 4 m) (bits (count_width v s.kind) (length s.chars) ++ payload s) f fields new new₃ p r h
          (both_done new p (bits (count_width v s.kind) (length s.chars) ++ payload s) (bits w n) (payload s) later two new₂ new₃ q r h₂ h₃)

pub count_32 : (v k m n : ℕ) → n ≡ m → m < 2 ^ count_width v k → n < 2 ^ 32
count_32 v k m n e h = let m : 2 ^ count_width v k ≤ 65_536 = pow_mono (count_le v k) in omega arith

pub width_32 : (v j w : ℕ) → w ≡ count_width v j → w ≤ 32
width_32 v j w e = omega (arith, count_le v j)
