-- `parser::fields::field_at` reads a field that stands whole in the data.
-- Assumes nothing.
use Rattle.parser.specs.CodeSteps.{field_short, field_whole}
use Rattle.parser.proofs.fields.field_at.Goals as goal

pub returns-then-buf-at : goal.returns-then-buf-at
returns-then-buf-at c = field_short _ _ _ c.if-buf-at.true

pub returns : goal.returns
returns c = field_whole _ _ _ _ c.read_bits.ensures c.if-buf-at.false
