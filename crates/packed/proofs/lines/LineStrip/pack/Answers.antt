-- `packed::lines::LineStrip::pack` meets its contract.
-- Assumes nothing.
use native.Mathlib.Omega.{arith}
use Rattle.packed.specs.Packs.{digit_at, packed_two, packed_three}
use Rattle.packed.proofs.lines.LineStrip.pack.Goals as goal

pub returns-then-side-le124 : goal.returns-then-side-le124
returns-then-side-le124 c =
    let a = c.args in
    packed_two (digit_at a.free a.grid.now a.start a.step) a.side _ _ (omega arith) c.pack-a-2.ensures c.pack_word-b.ensures

pub returns : goal.returns
returns c =
    let a = c.args in
    packed_three (digit_at a.free a.grid.now a.start a.step) a.side _ _ _ (omega arith) c.pack-a-2.ensures c.pack_word-b-2.ensures c.pack_word-c.ensures
