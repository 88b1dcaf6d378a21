-- `encoder::encode_binary` meets its contract.
-- Assumes nothing.
use Rattle.encoder.specs.Entries.{told_bytes, byte_parts_lem}
use Rattle.encoder.proofs.encode_binary.Goals as goal

pub returns : goal.returns
returns c = told_bytes _ _ _ _ _ _ _ _ _ _ c.encode_segments_advanced.ensures (byte_parts_lem _ _ _ c.whole_record-seg.ensures c.number.ensures)
