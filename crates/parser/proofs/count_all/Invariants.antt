-- `parser::count_all` meets its contract: what has been counted, and what is left, are all.
-- Assumes nothing.
use Rattle.std.proofs.Common.{◌≡◌, suc, ◌-◌, ◌*◌, ◌≤◌, length}
use Rattle.standard.specs.Bits.{unpack}
use Rattle.parser.specs.Parse.{parse_from}
use Rattle.parser.specs.Theorems.{parse}
use Rattle.parser.specs.Counts.{counted, plus}
use Rattle.parser.proofs.count_all.Given as goal

abbrev pub invariant-loop-seg : goal.invariant-loop-seg
invariant-loop-seg l =
    (counted (parse l.ver.value l.buf) ≡ plus l.records l.text (counted (parse_from l.ver.value (unpack l.buf) (suc (length (unpack l.buf)) - l.records) l.at)))
    × (l.at ≤ 8 * length l.buf) × (l.records ≤ l.at) × (l.text ≤ l.records * 65536)

abbrev pub decreases-loop-seg : goal.decreases-loop-seg
decreases-loop-seg l = 8 * length l.buf - l.at
