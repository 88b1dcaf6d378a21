-- `parser::tail::pads_at` meets its contract: the pad bytes that are left end where all of them end.
-- Assumes nothing.
use Rattle.std.proofs.Common.{◌≡◌, ◌+◌, ◌-◌, ◌*◌, ◌/◌, ◌≤◌, length}
use Rattle.standard.specs.Bits.{unpack}
use Rattle.parser.specs.Tail.{pads_at}
use Rattle.parser.proofs.tail.pads_at.Given as goal

abbrev pub invariant-loop-i : goal.invariant-loop-i
invariant-loop-i l =
    (pads_at (unpack l.buf) ((length (unpack l.buf) - l.at) / 8) l.at 0 ≡ pads_at (unpack l.buf) (l.i-end - l.i) l.p l.i) × (l.p + 8 * (l.i-end - l.i) ≤ length l.buf * 8) × (l.i ≤ l.i-end)
