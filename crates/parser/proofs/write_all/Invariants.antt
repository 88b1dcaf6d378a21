-- `parser::write_all` meets its contract: what has been written, and what is left, are all.
-- Assumes nothing.
use Rattle.std.proofs.Common.{◌≡◌, ◌-◌, ◌*◌, ◌≤◌, length}
use Rattle.parser.specs.Written.{Done}
use Rattle.parser.proofs.write_all.Given as goal

abbrev pub invariant-loop-seg : goal.invariant-loop-seg
invariant-loop-seg l =
    Done l.ver.value l.buf l.at l.r l.t l.initial.text l.initial.records l.text l.records × (l.at ≤ 8 * length l.buf) × (l.r ≤ l.at) × (length l.text ≡ length l.initial.text) × (length l.records ≡ length l.initial.records)

abbrev pub decreases-loop-seg : goal.decreases-loop-seg
decreases-loop-seg l = 8 * length l.buf - l.at
