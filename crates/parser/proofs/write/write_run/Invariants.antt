-- `parser::write::write_run` meets its contract: the first groups have been written, and the others are left.
-- Assumes nothing.
use Rattle.std.proofs.Common.{◌≡◌, ◌-◌, ◌*◌, ◌≤◌, length, drop}
use Rattle.std.specs.Prelude.{IsOk}
use Rattle.parser.specs.Filled.{filled}
use Rattle.standard.specs.Bits.{unpack}
use Rattle.types.specs.Numbers.{text_kind_of}
use Rattle.parser.specs.Runs.{run_end, run_chars}
use Rattle.parser.proofs.write.write_run.Given as goal

abbrev pub invariant-loop : goal.invariant-loop
invariant-loop l =
    (l.out ≡ filled l.initial.out (run_chars (text_kind_of l.kind) (unpack l.buf) (length l.initial.out) l.at (length l.initial.out)) l.q)
    × (drop l.q (run_chars (text_kind_of l.kind) (unpack l.buf) (length l.initial.out) l.at (length l.initial.out)) ≡ run_chars (text_kind_of l.kind) (unpack l.buf) (length l.initial.out - l.q) l.p (length l.initial.out - l.q))
    × IsOk (run_end (text_kind_of l.kind) (unpack l.buf) (length l.initial.out - l.q) l.p (length l.initial.out - l.q))
    × (l.q ≡ l.m * l.counter) × (l.counter ≤ l.end) × (l.p ≤ 8 * length l.buf) × (length l.out ≡ length l.initial.out)
