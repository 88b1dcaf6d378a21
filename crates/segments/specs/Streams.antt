-- Laws that the proof of `append_segments` cites: a turn of the loop appends the segment of one record.
-- Assumes nothing.
use Rattle.std.specs.Prelude.{◌≡◌, ℕ, ◌+◌, ◌/◌, ◌^◌, ◌<◌, ◌≤◌, T, List, [], ◌∷◌, ◌++◌, length, get_or, nat_lt}
use Rattle.std.proofs.Common.{sym, ◌∙◌, arith, ltb→lt}
use Rattle.std.proofs.Math.Path.{ap, subst}
use Rattle.std.specs.Simd.{first_chunks}
use Rattle.standard.specs.Kinds.{count_width}
use Rattle.standard.specs.Segments.{Part, Segment, segment_of, segments_of, segment_bits, stream, lengths_fit}
use Rattle.laws.specs.Tests.{and_left, and_right}
use Rattle.bits.specs.Appended.{Free, Appended, Progress, progress_start, progress_free, progress_next, progress_end}
use Rattle.segments.specs.Records.{part_at, part_from, chunk_at, chunk_count, parts_of, rest_of, rest_all, rest_more, rest_none}

-- the bits of the records from record i on
abbrev pub rest_bits : ℕ → List ℕ → List ℕ → ℕ → List ℕ
rest_bits v text ns i = stream v (segments_of text (rest_of ns i))

module _ (v : ℕ) (text ns : List ℕ) where
  pub stream_start : (buf : List ℕ) → Progress buf buf 0 0 (stream v (segments_of text (parts_of ns))) (rest_bits v text ns 0)
  stream_start buf =
      progress_start buf 0 (stream v (segments_of text (parts_of ns))) (rest_bits v text ns 0) (ap (λ (ps : List Part). stream v (segments_of text ps)) (sym (rest_all ns)))

  -- s is what record i names
  module _ (cs : List (List ℕ)) (ec : cs ≡ first_chunks 4 (length ns / 4) ns) (i : ℕ) (near : i < length cs) (s : Segment) (named : s ≡ segment_of text (part_from (get_or cs i []))) where
    here : i < length ns / 4
    here = omega (arith, chunk_count ns cs ec)

    is : s ≡ segment_of text (part_at ns i)
    is = named ∙ ap (segment_of text) (chunk_at ns cs ec i near)

    turn : rest_bits v text ns i ≡ segment_bits v s ++ rest_bits v text ns (i + 1)
    unfolding stream
    turn =
        ap (λ (ps : List Part). stream v (segments_of text ps)) (rest_more ns i here)
        ∙ ap (λ (g : Segment). segment_bits v g ++ rest_bits v text ns (i + 1)) (sym is)

    -- its length fits where all do
    pub fit_here : T (lengths_fit v (segments_of text (rest_of ns i))) → length s.chars < 2 ^ count_width v s.kind
    unfolding lengths_fit
    fit_here t =
        let u : T (lengths_fit v (segment_of text (part_at ns i) ∷ segments_of text (rest_of ns (i + 1))))
        = subst (λ (ps : List Part). T (lengths_fit v (segments_of text ps))) (rest_more ns i here) t in
        subst (λ (g : Segment). length g.chars < 2 ^ count_width v g.kind) (sym is)
        (ltb→lt _ _ (and_left (nat_lt (length (segment_of text (part_at ns i)).chars) (2 ^ count_width v (part_at ns i).kind)) (lengths_fit v (segments_of text (rest_of ns (i + 1)))) u))

    pub fit_next : T (lengths_fit v (segments_of text (rest_of ns i))) → T (lengths_fit v (segments_of text (rest_of ns (i + 1))))
    unfolding lengths_fit
    fit_next t =
        let u : T (lengths_fit v (segment_of text (part_at ns i) ∷ segments_of text (rest_of ns (i + 1))))
        = subst (λ (ps : List Part). T (lengths_fit v (segments_of text ps))) (rest_more ns i here) t in
        and_right (nat_lt (length (segment_of text (part_at ns i)).chars) (2 ^ count_width v (part_at ns i).kind)) (lengths_fit v (segments_of text (rest_of ns (i + 1)))) u

    module _ (buf new : List ℕ) (p : ℕ) (all : List ℕ) (g : Progress buf new 0 p all (rest_bits v text ns i)) (f : Free buf 0 all) where
      pub stream_free : Free new p (segment_bits v s)
      stream_free =
          progress_free buf new 0 p all (rest_bits v text ns i) (segment_bits v s) (rest_bits v text ns (i + 1)) g turn f

      pub stream_next : (new₂ : List ℕ) (r : ℕ) → Appended new new₂ p r (segment_bits v s) → Progress buf new₂ 0 r all (rest_bits v text ns (i + 1))
      stream_next new₂ r h =
          progress_next buf new 0 p all (rest_bits v text ns i) (segment_bits v s) (rest_bits v text ns (i + 1)) g turn f new₂ r h

  pub fit_start : T (lengths_fit v (segments_of text (parts_of ns))) → T (lengths_fit v (segments_of text (rest_of ns 0)))
  fit_start t = subst (λ (ps : List Part). T (lengths_fit v (segments_of text ps))) (sym (rest_all ns)) t

  pub stream_end : (buf new : List ℕ) (p i : ℕ) (all : List ℕ) (cs : List (List ℕ)) → Progress buf new 0 p all (rest_bits v text ns i) → cs ≡ first_chunks 4 (length ns / 4) ns → length cs ≤ i → Appended buf new 0 p all
  unfolding stream
  stream_end buf new p i all cs g ec far =
      let h : length ns / 4 ≤ i = omega (arith, chunk_count ns cs ec) in
      progress_end buf new 0 p all (rest_bits v text ns i) g (ap (λ (ps : List Part). stream v (segments_of text ps)) (rest_none ns i h))
