-- `field::reed_solomon_compute_divisor` meets its contract.
-- Assumes nothing.
use mathlib.Core.Path.{◌≡◌}
use Rattle.standard.specs.Field.{power}
use Rattle.field.specs.Generator.{wide_at}
use Rattle.field.proofs.reed_solomon_compute_divisor.Given as goal

abbrev pub invariant-loop : goal.invariant-loop
invariant-loop l = (l.root ≡ power l.counter) × (l.wide ≡ wide_at l.counter)
