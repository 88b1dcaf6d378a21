-- `field::Divisor::divide_step` meets its contract.
-- Assumes nothing.
use Prim.Native.Nat.{◌<◌}
use mathlib.Core.Path.{◌≡◌}
use Rattle.laws.specs.Front.{front}
use Rattle.field.specs.Multiples.{step_in}
use Rattle.field.proofs.Divisor.divide_step.Given as goal

abbrev pub invariant-loop-j : goal.invariant-loop-j
invariant-loop-j l = (l.factor < 256) × (l.rest ≡ front l.j (step_in l.self.low l.self.high l.fn.rest l.b) l.initial.rest)
