-- `packed::cost::scan_line` meets its contract.
-- Assumes nothing.
use Rattle.std.proofs.Common.{rules}
use Rattle.packed.specs.Frame.{scanned_line, scanned_bytes}
use Rattle.packed.proofs.cost.scan_line.Goals as goal

pub returns : goal.returns
returns g c = (search (scanned_line, scanned_bytes, rules), search rules)
