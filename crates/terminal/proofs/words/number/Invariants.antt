-- `terminal::words::number`: what is still to come decides.
-- Assumes nothing.
use Rattle.std.proofs.Common.{◌≡◌, ◌<◌, drop}
use Rattle.terminal.specs.Words.{number_from, number_of}
use Rattle.terminal.proofs.words.number.Given as goal

abbrev pub invariant-loop-c : goal.invariant-loop-c
invariant-loop-c l = (number_of l.word ≡ number_from l.n (drop l.c-index l.word)) × (l.n < 256)
