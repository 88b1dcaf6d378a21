-- `bits::put_bits` meets its contract: one byte is or-ed with the bits.
-- Assumes nothing.
use Rattle.std.proofs.Common.{rules}
use Rattle.bits.specs.Pieces.{put_piece}
use Rattle.bits.proofs.put_bits.Goals as goal

pub returns : goal.returns
returns c = let a = c.args in let p = c.requires in put_piece a.buf.now a.i a.v a.w p.0 p.1 p.3 p.2 (search rules)
