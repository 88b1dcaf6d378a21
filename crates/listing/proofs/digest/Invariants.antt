-- `digest`: the digest of what is still to come, after h, is that of all.
-- Assumes nothing.
use Rattle.std.proofs.Common.{◌≡◌, ◌<◌, drop}
use Rattle.listing.specs.Shown.{digest_after, digest_of}
use Rattle.listing.proofs.digest.Given as goal

abbrev pub invariant-loop-b : goal.invariant-loop-b
invariant-loop-b l = (digest_of l.bytes ≡ digest_after l.h (drop l.b-index l.bytes)) × (l.h < 4294967291)
