-- `records::unpack`: the numbers of the first i records are written.
-- Assumes nothing.
use Rattle.std.proofs.Common.{◌≡◌}
use Rattle.records.specs.Records.{unpacked}
use Rattle.records.proofs.unpack.Given as goal

abbrev pub invariant-loop-i : goal.invariant-loop-i
invariant-loop-i l = l.numbers ≡ unpacked l.i l.records l.fn.numbers
