-- `check_first` gives the refusal that comes first.
-- Assumes nothing.
use Rattle.std.proofs.Common.{◌∙◌, ap}
use Rattle.std.specs.Result.{result_ok}
use Rattle.std.proofs.lemmas.Result.{err_from_is_err_and}
use Rattle.reader.specs.Early.{first_refused, area_fits, first_length, first_byte, first_scratch, first_fine}
use Rattle.reader.proofs.check.check_first.Goals as goal

pub returns-in_err-ver : goal.returns-in_err-ver
returns-in_err-ver c =
    let p = err_from_is_err_and c.from_residual.result c.from_residual.ensures.1 in
    rw (p.1, p.2) (first_refused c.args.grid.now _ _ _ c.version_of.ensures _ _ c.ok_or.ensures.value c.in_err-ver.was)

pub overflow_mul-area : goal.overflow_mul-area
overflow_mul-area c = record { fits = area_fits c.args.grid.now _ c.args.room _ c.version_of.ensures _ (c.ok_or.ensures.ok_part ∙ ap result_ok c.in_ok-ver.was) }

pub returns-then-grid-area : goal.returns-then-grid-area
returns-then-grid-area c = first_length _ _ _ _ c.version_of.ensures _ (c.ok_or.ensures.ok_part ∙ ap result_ok c.in_ok-ver.was) c.if-grid-area.true

pub returns-in-Some : goal.returns-in-Some
returns-in-Some c = first_byte _ _ _ _ c.version_of.ensures _ (c.ok_or.ensures.ok_part ∙ ap result_ok c.in_ok-ver.was) _ c.first_above.ensures c.if-grid-area.false _ c.in-Some.is

pub returns-then-room-lt40000 : goal.returns-then-room-lt40000
returns-then-room-lt40000 c =
    first_scratch _ _ _ _ c.version_of.ensures _ (c.ok_or.ensures.ok_part ∙ ap result_ok c.in_ok-ver.was) _ c.first_above.ensures c.if-grid-area.false c.in_default.is c.if-room-lt40000.true

pub returns : goal.returns
returns c =
    first_fine _ _ _ _ c.version_of.ensures _ (c.ok_or.ensures.ok_part ∙ ap result_ok c.in_ok-ver.was) _ c.first_above.ensures c.if-grid-area.false c.in_default.is c.if-room-lt40000.false
