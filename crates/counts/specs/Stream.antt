-- The stream of a list of segments is as long as its total bits.
-- Assumes nothing.
use Rattle.std.specs.Prelude.{ℕ, ◌+◌, List, [], ◌∷◌, ◌++◌, ◌≡◌, refl, length}
use Rattle.std.proofs.Common.{ap, ap₂, ◌∙◌, length-append}
use Rattle.standard.specs.Bits.{bits}
use Rattle.standard.specs.Kinds.{mode_bits, count_width}
use Rattle.standard.specs.Segments.{Segment, payload, segment_bits, stream, segment_size, total_bits}
use Rattle.laws.specs.Lists.{length_bits}

pub segment_length : (v : ℕ) (s : Segment) → length (segment_bits v s) ≡ segment_size v s
unfolding segment_bits segment_size
segment_length v s =
    let mode : List ℕ = bits 4 (mode_bits s.kind) in
    let count : List ℕ = bits (count_width v s.kind) (length s.chars) in
    length-append (mode ++ count) (payload s)
    ∙ ap (λ (n : ℕ). n + length (payload s)) (length-append mode count ∙ ap₂ ◌+◌ (length_bits 4 (mode_bits s.kind)) (length_bits (count_width v s.kind) (length s.chars)))

pub stream_length : (v : ℕ) (ss : List Segment) → length (stream v ss) ≡ total_bits v ss
unfolding stream total_bits
stream_length v [] = refl
stream_length v (s ∷ ss) = length-append (segment_bits v s) (stream v ss) ∙ ap₂ ◌+◌ (segment_length v s) (stream_length v ss)
