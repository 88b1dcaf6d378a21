-- `is_hex`: one byte's digits after the other.
-- Assumes nothing.
use Rattle.std.proofs.Common.{rules}
use Rattle.listing.specs.Walk.{hex_long, hex_off, hex_next, hex_end}
use Rattle.listing.proofs.is_hex.Goals as goal

pub returns-then-line-bytes : goal.returns-then-line-bytes
returns-then-line-bytes c = search (hex_long, rules)

pub returns-then-not-is_byte : goal.returns-then-not-is_byte
returns-then-not-is_byte c = hex_off _ _ _ _ c.is_byte.ensures c.loop-i.invariant c.loop-i-test.true (search rules) (search rules)

pub loop-i-preserved : goal.loop-i-preserved
loop-i-preserved c = hex_next _ _ _ _ c.is_byte.ensures c.loop-i.invariant c.loop-i-test.true (search rules) (search rules)

pub returns : goal.returns
returns c = search (hex_end, rules)
