-- `parser::write::write_segment` meets its contract.
-- Assumes nothing.
use native.Mathlib.Omega.{arith}
use Rattle.std.proofs.Common.{ap}
use Rattle.types.specs.Numbers.{kind_of}
use Rattle.parser.specs.ByteRuns.{bytes_room}
use Rattle.parser.specs.CodeWrites.{run_none}
use Rattle.parser.proofs.write.write_segment.Goals as goal

pub write_bytes-requires : goal.write_bytes-requires
write_bytes-requires c =
    let s = c.args.seg in
    (c.requires.small, omega (arith, bytes_room c.args.buf.now (kind_of s.mode) s.start s.count s.end (ap kind_of c.in-Byte.is) c.requires.checked, c.requires.count))

pub returns-in-Eci : goal.returns-in-Eci
returns-in-Eci c = run_none _ _ _ _ _ c.requires.count (c.requires.eci (omega (arith, ap kind_of c.in-Eci.is)))
