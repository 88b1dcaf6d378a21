-- `parser::steps::groups_end` meets its contract: the groups that are left end where all of them end.
-- Assumes nothing.
use Rattle.std.proofs.Common.{◌≡◌, ◌-◌, ◌*◌, ◌≤◌, length}
use Rattle.standard.specs.Bits.{unpack}
use Rattle.types.specs.Numbers.{text_kind_of}
use Rattle.parser.specs.Runs.{run_end}
use Rattle.parser.proofs.steps.groups_end.Given as goal

abbrev pub invariant-loop : goal.invariant-loop
invariant-loop l =
    (run_end (text_kind_of l.kind) (unpack l.buf) l.count l.at l.count ≡ run_end (text_kind_of l.kind) (unpack l.buf) (l.count - l.m * l.counter) l.p (l.count - l.m * l.counter))
    × (l.p ≤ 8 * length l.buf) × (l.counter ≤ l.end)
