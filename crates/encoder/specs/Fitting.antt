-- How a list fits one version.
-- Assumes nothing.
use Rattle.std.specs.Prelude.{ℕ, cond, List, leb, Result, Ok, Err}
use Rattle.standard.specs.Sizes.{capacity}
use Rattle.standard.specs.Segments.{Segment, total_bits, lengths_fit}
use Rattle.encoder.specs.declared.Refusal.{Refusal}
use Rattle.encoder.specs.declared.Refusal.TheVariants.{SegmentTooLong, DataOverCapacity}

-- the bits used, or the refusal of this version
abbrev Fit : Type 0
Fit = Result ℕ Refusal

-- ---- one version

unfoldable pub fit_at : ℕ → List Segment → ℕ → Fit
fit_at l ss v =
    cond (lengths_fit v ss)
    (cond (leb (total_bits v ss) (capacity v l)) (Ok (total_bits v ss)) (Err (DataOverCapacity (total_bits v ss) (capacity v l))))
    (Err SegmentTooLong)
