-- `records::encode_segments_advanced`: more records than there may be are refused early.
-- Assumes nothing.
use Rattle.std.proofs.lemmas.List.{length-map}
use Rattle.std.proofs.lemmas.Result.{err_from_is_err_and}
use Rattle.encoder.specs.Entries.{asked_refused}
use Rattle.records.specs.Records.{part_of}
use Rattle.records.specs.Encoded.{too_many}
use Rattle.records.proofs.encode_segments_advanced.Goals as goal

pub returns-in_err-settings : goal.returns-in_err-settings
returns-in_err-settings c =
    let p = err_from_is_err_and c.from_residual.result c.from_residual.ensures.1 in
    rw (p.1, p.2) (asked_refused _ _ _ _ _ _ _ _ _ _ c.in_err-settings.ensures)

pub returns-else-n-le2048 : goal.returns-else-n-le2048
returns-else-n-le2048 c = too_many _ _ _ _ _ _ c.in_ok-settings.ensures _ _ _ _ _ (length-map c.args.records.now part_of) c.if-n-le2048.false
