-- `read_line`: what stands at the start so far is what the input gave, and no end of a line is there.
-- Assumes nothing.
use Rattle.std.proofs.Common.{ℕ, ◌<◌, ◌≢◌, take, get_or}
use Rattle.std.specs.Io.KnownBytes.{Consumes}
use Rattle.streams.proofs.read_line.Given as goal

abbrev pub invariant-loop-n : goal.invariant-loop-n
invariant-loop-n g l =
    Consumes (g.R.Read.remaining l.initial.input) (g.R.Read.remaining l.input) (take l.n l.line)
    × ((k : ℕ) → k < l.n → (get_or l.line k 0 ≢ 10) × (get_or l.line k 0 ≢ 0))
