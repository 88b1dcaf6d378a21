-- `encoder::encode_text` meets its contract: the records are none of an empty text, else one.
-- Assumes nothing.
use Rattle.std.proofs.Common.{rules, ◌∙◌}
use Rattle.encoder.specs.Entries.{none_in, some_in, told_text, text_parts_lem}
use Rattle.encoder.proofs.encode_text.Goals as goal
use Rattle.encoder.proofs.encode_text.Goals.{then-is_empty, else-is_empty}

pub returns : goal.returns
returns c =
    told_text _ _ _ _ _ _ _ _ _ _ c.encode_segments_advanced.ensures
    (text_parts_lem _ _ _ c.whole_record-seg.ensures _ (search rules) (c.number.ensures ∙ c.text_kind.ensures)
    (elim c.if-is_empty.branch [
      | then-is_empty w ↦ w.n-is ∙ none_in _ (search rules)
      | else-is_empty w ↦ w.n-is ∙ some_in _ (search rules)
    ]))
