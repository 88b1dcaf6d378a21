-- `field::reed_solomon_compute_remainder` meets its contract.
-- Assumes nothing.
use lib.ListN.{take}
use Rattle.standard.specs.Field.{remainder}
use Rattle.field.specs.Multiples.{Alike}
use Rattle.field.proofs.reed_solomon_compute_remainder.Given as goal

abbrev pub invariant-loop-b : goal.invariant-loop-b
invariant-loop-b l = Alike l.rest (remainder l.divisor.coefficients.now (take l.b-index l.«data»))
