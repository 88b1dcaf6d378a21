-- The number that asks for a mask, or for the automatic choice.
-- Assumes nothing.
use Rattle.std.specs.Prelude.{ℕ, ◌≤◌, Option, Some, None}
use Rattle.std.proofs.Common.{arith}
use Rattle.types.specs.declared.Mask.{Mask}

-- the mask's own number, or 8 for the automatic choice
abbrev pub mask_number : Option Mask → ℕ
mask_number (Some m) = m.value
mask_number None = 8

pub mask_number_le : (m : Option Mask) → mask_number m ≤ 8
mask_number_le (Some m) = omega (arith, m.in_range)
mask_number_le None = omega arith
