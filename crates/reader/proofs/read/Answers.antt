-- `read` meets the reader's relation.
-- Assumes nothing.
use Rattle.std.proofs.lemmas.Result.{err_from_is_err_and}
use Rattle.reader.specs.Entry.{fine_grid, fine_room, fine_small, reads_found, reads_refused}
use Rattle.reader.proofs.read.Goals as goal

pub returns-in_err-ver : goal.returns-in_err-ver
returns-in_err-ver c =
    let p = err_from_is_err_and c.from_residual.result c.from_residual.ensures.1 in
    rw (p.1, p.2) (reads_refused c.args.grid.now _ _ _ c.check_first.ensures _ _ _ c.in_err-ver.was)

pub read_checked-requires : goal.read_checked-requires
read_checked-requires c =
    let was = c.in_ok-ver.was in
    let is = c.check_first.ensures in
    record { grid = fine_grid _ _ _ _ is _ was; small = fine_small _ _ _ _ is _ was; scratch = fine_room _ _ _ _ is _ was }

pub returns : goal.returns
returns c = reads_found _ _ _ _ c.check_first.ensures _ c.in_ok-ver.was _ _ _ _ _ _ c.read_checked.ensures
