-- More records than there may be: refusal 4.
-- Assumes nothing.
use Rattle.std.specs.Prelude.{ℕ, ◌<◌, Bool, List, ◌≡◌, length}
use Rattle.std.proofs.Common.{ap, ◌∙◌}
use Rattle.standard.specs.Segments.{Part, segments_of}
use Rattle.standard.specs.Plan.{refusal, Plan}
use Rattle.standard.specs.Encode.{refuse, draw_plan, encode}
use Rattle.types.specs.Numbers.{level_of}
use Rattle.types.specs.Masks.{mask_number, mask_number_le}
use Rattle.types.specs.Laws.{level_le}
use Rattle.encoder.specs.declared.settings.Settings.{Settings}
use Rattle.encoder.specs.Planning.{range_good, plan_4}
use Rattle.encoder.specs.Settings.{Settled}

-- THE LAW: with settings that are right, that is the definition's refusal
pub too_many : (l first last m : ℕ) (boost : Bool) (t : Settings) → Settled l first last m boost t → (text : List ℕ) (rs : List Part) (g s : List ℕ) (n : ℕ) → length rs ≡ n → 2048 < n
    → refuse (refusal 4 n 0) g s ≡ encode l first last m boost text rs g s
unfolding encode draw_plan
too_many l first last m boost t h text rs g s n e more =
    let range = range_good t.minversion.value t.maxversion.value t.minversion.in_range.0 t.ordered t.maxversion.in_range.1 in
    ap (λ (p : Plan). draw_plan p (mask_number t.mask) (segments_of text rs) g s)
    (plan_4 (level_of t.level) t.minversion.value t.maxversion.value (mask_number t.mask) t.boostecl text rs (level_le t.level) range (mask_number_le t.mask) n e more)
    ∙ rw (h.level, h.minversion, h.maxversion, h.mask, h.boostecl)
