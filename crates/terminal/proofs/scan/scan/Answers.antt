-- `terminal::scan::scan`: one module more.
-- Assumes nothing.
use Rattle.std.proofs.Common.{rules}
use Rattle.laws.specs.Each.{each_start, each_next}
use Rattle.terminal.specs.ScanLaws.{scan_end}
use Rattle.terminal.proofs.scan.scan.Goals as goal

pub loop-k-init : goal.loop-k-init
loop-k-init c = search (each_start, rules)

pub loop-k-preserved : goal.loop-k-preserved
loop-k-preserved c = search (each_next, rules)

pub returns : goal.returns
returns c = search (scan_end, rules)
