-- The mask that a number asks for.
-- Assumes nothing.
use Rattle.std.specs.Prelude.{◌≡◌, ℕ, ◌<◌, Option, Result, MatchResult}
use Rattle.types.specs.declared.Mask.{Mask}
use Rattle.types.specs.Masks.{mask_number}
use Rattle.encoder.specs.declared.Refusal.{Refusal}
use Rattle.encoder.specs.declared.Refusal.TheVariants.{MaskNumber}

-- the mask of a number, or that it is above 8
abbrev pub NamesMask : ℕ → Result (Option Mask) Refusal → Type 0
NamesMask m r = MatchResult r (λ k. mask_number k ≡ m) (λ e. (e ≡ MaskNumber m) × (8 < m))
