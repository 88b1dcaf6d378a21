-- Sizes of segments and of lists of them: the bits, or that a length does not fit its count field.
-- Assumes nothing.
use Rattle.std.specs.Prelude.{Option, Some, None, ◌≡◌, ℕ, ◌+◌, ◌*◌, ◌/◌, ◌^◌, ◌<◌, ◌≤◌, Bool, true, false, cond, ◌&&◌, T, List, [], ◌∷◌, length, get_or, nat_le, nat_lt, refl}
use Rattle.std.proofs.Math.Path.{sym}
use Rattle.std.proofs.Common.{ap, ◌∙◌, add_assoc, zero-add, le→leb}
use native.Mathlib.Omega.{arith}
use Rattle.std.specs.Simd.{first_chunks}
use Rattle.standard.specs.Sizes.{data_codewords, capacity}
use Rattle.standard.specs.Kinds.{count_width, eci_bits}
use Rattle.standard.specs.Segments.{Part, Segment, segment_of, segments_of, payload, segment_size, total_bits, lengths_fit, fits}
use Rattle.laws.specs.Tests.{true_T, and_pair}
use Rattle.segments.specs.Runs.{run_size, run_size_lem}
use Rattle.segments.specs.Records.{part_at, part_from, chunk_at, chunk_count, parts_of, rest_of, rest_all, rest_more, rest_none}
use Rattle.segments.specs.Payload.{segment, payload_run}

-- one segment
unfoldable pub size_of : ℕ → Segment → Option ℕ
size_of v s = cond (nat_lt (length s.chars) (2 ^ count_width v s.kind)) (Some (segment_size v s)) None

-- a list of segments
unfoldable pub total_of : ℕ → List Segment → Option ℕ
total_of v ss = cond (lengths_fit v ss) (Some (total_bits v ss)) None

-- n bits more
abbrev pub more : ℕ → Option ℕ → Option ℕ
more n (Some m) = Some (n + m)
more n None = None

pub total_none : (v : ℕ) → total_of v [] ≡ Some 0
unfolding total_of lengths_fit total_bits
total_none v = refl

pub total_cons : (v n : ℕ) (s : Segment) (ss : List Segment) → size_of v s ≡ Some n → total_of v (s ∷ ss) ≡ more n (total_of v ss)
unfolding total_of size_of lengths_fit total_bits
total_cons v n s ss e = go (nat_lt (length s.chars) (2 ^ count_width v s.kind)) (lengths_fit v ss) e
  where
    go : (t u : Bool) → cond t (Some (segment_size v s)) None ≡ Some n
        → cond (t && u) (Some (segment_size v s + total_bits v ss)) None ≡ more n (cond u (Some (total_bits v ss)) None)
    go true true e = let q : segment_size v s ≡ n = cc in ap (λ (k : ℕ). Some (k + total_bits v ss)) q
    go true false e = refl
    go false u e = let z : ◌≡◌ {A = ℕ} 0 1 = cc in absurd (omega arith)

pub total_long : (v : ℕ) (s : Segment) (ss : List Segment) → size_of v s ≡ None → total_of v (s ∷ ss) ≡ None
unfolding total_of size_of lengths_fit total_bits
total_long v s ss e = go (nat_lt (length s.chars) (2 ^ count_width v s.kind)) (lengths_fit v ss) e
  where
    go : (t u : Bool) → cond t (Some (segment_size v s)) None ≡ None → cond (t && u) (Some (segment_size v s + total_bits v ss)) None ≡ None
    go true u e = let z : ◌≡◌ {A = ℕ} 0 1 = cc in absurd (omega arith)
    go false u e = refl

pub more_more : (a b : ℕ) (t : Option ℕ) → more a (more b t) ≡ more (a + b) t
more_more a b (Some m) = ap Some (sym (add_assoc a b m))
more_more a b None = refl

pub more_zero : (t : Option ℕ) → t ≡ more 0 t
more_zero (Some m) = ap Some (sym (zero-add m))
more_zero None = refl

-- ---- a payload's bits

pub text_size : (r k : ℕ) (cs : List ℕ) (a : ℕ) → r ≡ run_size k (length cs) → k < 3 → r ≡ length (payload (segment k cs a))
text_size r k cs a e h = e ∙ sym (ap length (payload_run k cs a h) ∙ run_size_lem k (length cs) (length cs) cs (omega arith))

pub eci_size : (r : ℕ) (cs : List ℕ) (a : ℕ) → r ≡ length (eci_bits a) → r ≡ length (payload (segment 3 cs a))
unfolding payload
eci_size r cs a e = e

-- ---- the loop over records

module _ (text ns : List ℕ) (v : ℕ) where
  pub totals_start : total_of v (segments_of text (parts_of ns)) ≡ more 0 (total_of v (segments_of text (rest_of ns 0)))
  totals_start = ap (λ (ps : List Part). total_of v (segments_of text ps)) (sym (rest_all ns)) ∙ more_zero (total_of v (segments_of text (rest_of ns 0)))

  -- s is what record i names, and this is its size
  module _ (i r : ℕ) (s : Segment) (cs : List (List ℕ)) (b : Option ℕ) (inv : total_of v (segments_of text (parts_of ns)) ≡ more r (total_of v (segments_of text (rest_of ns i))))
      (ec : cs ≡ first_chunks 4 (length ns / 4) ns) (near : i < length cs) (named : s ≡ segment_of text (part_from (get_or cs i []))) (size : b ≡ size_of v s) where
    here : i < length ns / 4
    here = omega (arith, chunk_count ns cs ec)

    size_is : size_of v (segment_of text (part_at ns i)) ≡ b
    size_is = sym (size ∙ ap (size_of v) (named ∙ ap (segment_of text) (chunk_at ns cs ec i near)))

    rest_is : total_of v (segments_of text (rest_of ns i)) ≡ total_of v (segment_of text (part_at ns i) ∷ segments_of text (rest_of ns (i + 1)))
    rest_is = ap (λ (ps : List Part). total_of v (segments_of text ps)) (rest_more ns i here)

    pub totals_next : (n : ℕ) → b ≡ Some n → total_of v (segments_of text (parts_of ns)) ≡ more (r + n) (total_of v (segments_of text (rest_of ns (i + 1))))
    totals_next n q =
        inv ∙ ap (more r) (rest_is ∙ total_cons v n (segment_of text (part_at ns i)) (segments_of text (rest_of ns (i + 1))) (size_is ∙ q))
        ∙ more_more r n (total_of v (segments_of text (rest_of ns (i + 1))))

    pub totals_long : b ≡ None → None ≡ total_of v (segments_of text (parts_of ns))
    totals_long q =
        sym (inv ∙ ap (more r) (rest_is ∙ total_long v (segment_of text (part_at ns i)) (segments_of text (rest_of ns (i + 1))) (size_is ∙ q)))

  pub totals_end : (i r : ℕ) (cs : List (List ℕ)) → total_of v (segments_of text (parts_of ns)) ≡ more r (total_of v (segments_of text (rest_of ns i)))
      → cs ≡ first_chunks 4 (length ns / 4) ns → length cs ≤ i → Some r ≡ total_of v (segments_of text (parts_of ns))
  totals_end i r cs inv ec far =
      let h : length ns / 4 ≤ i = omega (arith, chunk_count ns cs ec) in
      let z : r + 0 ≡ r = omega arith in
      sym (inv ∙ ap (λ (ps : List Part). more r (total_of v (segments_of text ps))) (rest_none ns i h) ∙ ap (more r) (total_none v) ∙ ap Some z)

-- a list fits where its total does
pub fits_of : (v l n m : ℕ) (ss : List Segment) (b : Option ℕ) → b ≡ total_of v ss → b ≡ Some n → m ≡ data_codewords v l → n ≤ 8 * m → T (fits l ss v)
unfolding total_of fits capacity
fits_of v l n m ss b e q d h = go (lengths_fit v ss) refl (sym e ∙ q)
  where
    go : (t : Bool) → lengths_fit v ss ≡ t → cond t (Some (total_bits v ss)) None ≡ Some n → T (lengths_fit v ss && nat_le (total_bits v ss) (8 * data_codewords v l))
    go true t e =
        let s : total_bits v ss ≡ n = cc in
        let r : total_bits v ss ≤ 8 * data_codewords v l = omega arith in
        and_pair (lengths_fit v ss) (nat_le (total_bits v ss) (8 * data_codewords v l)) (true_T (lengths_fit v ss) t) (le→leb (total_bits v ss) (8 * data_codewords v l) r)
    go false t e = let z : ◌≡◌ {A = ℕ} 0 1 = cc in absurd (omega arith)
