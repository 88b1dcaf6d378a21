-- `field::Divisor::new` meets its contract.
-- Assumes nothing.
use Prim.Native.Nat.{ℕ}
use mathlib.Core.Path.{ap, ◌∙◌}
use Rattle.field.specs.Polynomials.{bytes_of, scale_one}
use Rattle.field.specs.Multiples.{multiples_of}
use Rattle.field.proofs.Divisor.new.Goals as goal

pub invariant_of-result : goal.invariant_of-result
invariant_of-result c =
    let g = c.args.coefficients.now in
    let bytes = λ (i : ℕ). (c.type_inv.coefficients i).fits in record {
      bytes = bytes;
      degree = c.requires;
      tables = (c.multiples.ensures ∙ ap multiples_of (scale_one g (bytes_of g bytes)), c.multiples-2.ensures);
    }
