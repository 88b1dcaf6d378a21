-- `bits::append_bits` meets its contract: piece after piece is put into its byte.
-- Assumes nothing.
use Rattle.std.proofs.Common.{arith}
use Rattle.bits.specs.Pieces.{piece_lt, piece_free, piece_room, piece_next, pieces_end}
use Rattle.bits.proofs.append_bits.Goals as goal

pub put_bits-requires : goal.put_bits-requires
put_bits-requires c =
    let l = c.loop-left in
    let a = c.args in
    let w = c.min-w.result in (
      omega arith,
      omega arith,
      piece_lt l.left w a.val (omega arith),
      piece_free a.buf.now l.buf a.at l.p a.len l.left w a.val c.requires.1 l.invariant.1 (omega arith) (omega arith),
    )

pub loop-left-preserved : goal.loop-left-preserved
loop-left-preserved c =
    let l = c.loop-left in
    let a = c.args in
    let w = c.min-w.result in (
      omega arith,
      piece_next a.buf.now l.buf a.at l.p a.len l.left w a.val c.requires.1 l.invariant.1 (omega arith) (omega arith) _ c.put_bits.ensures,
    )

pub overflow_add-p : goal.overflow_add-p
overflow_add-p c =
    let l = c.loop-left in
    let a = c.args in
    let w = c.min-w.result in
    record { fits = piece_room a.buf.now l.buf a.at l.p a.len l.left w a.val c.requires.1 l.invariant.1 (omega arith) (omega arith) }

pub returns : goal.returns
returns c =
    let l = c.loop-left in
    let a = c.args in
    pieces_end a.buf.now l.buf a.at l.p a.len l.left a.val l.invariant.1 (omega arith)
