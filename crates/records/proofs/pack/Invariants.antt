-- `records::pack`: the first i records are stored.
-- Assumes nothing.
use Rattle.std.proofs.Common.{◌≡◌}
use Rattle.records.specs.Records.{packed}
use Rattle.records.proofs.pack.Given as goal

abbrev pub invariant-loop-i : goal.invariant-loop-i
invariant-loop-i l = l.records ≡ packed l.i l.numbers l.fn.records
