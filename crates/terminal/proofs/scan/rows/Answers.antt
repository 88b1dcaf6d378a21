-- `terminal::scan::rows`: one module more.
-- Assumes nothing.
use Rattle.std.proofs.Common.{rules}
use Rattle.laws.specs.Each.{each_start, each_next}
use Rattle.terminal.specs.ScanLaws.{rows_end}
use Rattle.terminal.proofs.scan.rows.Goals as goal

pub loop-k-init : goal.loop-k-init
loop-k-init c = search (each_start, rules)

pub loop-k-preserved : goal.loop-k-preserved
loop-k-preserved c = search (each_next, rules)

pub returns : goal.returns
returns c = search (rows_end, rules)
