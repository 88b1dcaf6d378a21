-- `parser::steps::byte_end` meets its contract.
-- Assumes nothing.
use Prim.Native.Nat.{◌-◌, ◌*◌, ◌/◌}
use native.Mathlib.Omega.{arith}
use lib.ListN.{length}
use Rattle.parser.specs.ByteRuns.{byte_cut, byte_fits}
use Rattle.parser.proofs.steps.byte_end.Goals as goal

pub returns-then-room-count : goal.returns-then-room-count
returns-then-room-count c =
    let a = c.args in
    byte_cut a.buf.now a.at ((length a.buf.now * 8 - a.at) / 8) a.count (omega arith) (omega arith) (omega arith)

pub returns : goal.returns
returns c =
    let a = c.args in
    byte_fits a.buf.now a.at a.count (omega arith)
