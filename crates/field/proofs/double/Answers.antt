-- `field::double` meets its contract.
-- Assumes nothing.
use Rattle.field.specs.Times.{double_byte}
use Rattle.field.proofs.double.Goals as goal

pub returns : goal.returns
returns c = double_byte c.args.z c.ranges.z.fits
