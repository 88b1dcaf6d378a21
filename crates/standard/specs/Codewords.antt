-- Data codewords: the stream, a terminator, zero bits up to a byte, then EC and 11 in turn.
-- Document 01, "From text to codewords". Assumes nothing.
use Rattle.std.specs.Prelude.{ℕ, ◌-◌, ◌%◌, min, cond, List, ◌++◌, eqb, length, replicate}
use Rattle.standard.specs.Numbers.{tabulate}
use Rattle.standard.specs.Bits.{pack}
use Rattle.standard.specs.Sizes.{data_codewords, capacity}
use Rattle.standard.specs.Segments.{Segment, stream}

-- up to four zero bits, as room allows
unfoldable pub terminated : ℕ → List ℕ → List ℕ
terminated room bs = bs ++ replicate (min 4 (room - length bs)) 0

-- zero bits up to a byte
unfoldable pub filled : List ℕ → List ℕ
filled bs = bs ++ replicate ((8 - length bs % 8) % 8) 0

unfoldable pub pad_byte : ℕ → ℕ
pad_byte i = cond (eqb (i % 2) 0) 0xEC 0x11

unfoldable pub padded : ℕ → List ℕ → List ℕ
padded n bytes = bytes ++ tabulate (n - length bytes) pad_byte

unfoldable pub data_words : ℕ → ℕ → List Segment → List ℕ
data_words v l ss = padded (data_codewords v l) (pack (filled (terminated (capacity v l) (stream v ss))))
