-- `parser::write::write_bytes` meets its contract: the first bytes have been written.
-- Assumes nothing.
use Rattle.std.proofs.Common.{◌≡◌, ◌≤◌, length}
use Rattle.parser.specs.Filled.{filled}
use Rattle.standard.specs.Bits.{unpack}
use Rattle.parser.specs.Runs.{run_chars}
use Rattle.parser.proofs.write.write_bytes.Given as goal

abbrev pub invariant-loop-i : goal.invariant-loop-i
invariant-loop-i l = (l.out ≡ filled l.initial.out (run_chars 2 (unpack l.buf) (length l.initial.out) l.at (length l.initial.out)) l.i) × (l.i ≤ l.i-end) × (length l.out ≡ length l.initial.out)
