-- `digest`: each byte is taken in by `digest_after`.
-- Assumes nothing.
use Rattle.std.proofs.Common.{rules}
use Rattle.listing.specs.Walk.{digest_start, digest_next, digest_end}
use Rattle.listing.proofs.digest.Goals as goal

pub loop-b-init : goal.loop-b-init
loop-b-init c = (search (digest_start, rules), search rules)

pub loop-b-preserved : goal.loop-b-preserved
loop-b-preserved c = (search (digest_next, rules), search rules)

pub returns : goal.returns
returns c = search (digest_end, rules)
