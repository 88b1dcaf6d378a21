-- `label::read::line_of` meets its contract.
-- Assumes nothing.
use Rattle.std.proofs.Common.{rules}
use Rattle.terminal.specs.ScanLaws.{quotient_fits}
use Rattle.label.proofs.read.line_of.Goals as goal

pub overflow_add-result-2 : goal.overflow_add-result-2
overflow_add-result-2 c = record { fits = search (quotient_fits, rules) }
