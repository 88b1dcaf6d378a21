-- `is_hex`: what is still to be compared decides.
-- Assumes nothing.
use Rattle.std.proofs.Common.{◌≡◌, ◌*◌, drop}
use Rattle.standard.specs.Numbers.{same}
use Rattle.listing.specs.Shown.{hex_of}
use Rattle.listing.proofs.is_hex.Given as goal

abbrev pub invariant-loop-i : goal.invariant-loop-i
invariant-loop-i l = same l.line (hex_of l.bytes) ≡ same (drop (2 * l.i) l.line) (hex_of (drop l.i l.bytes))
