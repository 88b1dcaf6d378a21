-- `version_of` knows the sides of the versions.
-- Assumes nothing.
use Rattle.std.proofs.Common.{rules}
use Rattle.reader.specs.Early.{version_low, version_high, version_other, version_side}
use Rattle.reader.proofs.check.version_of.Goals as goal
use Rattle.reader.proofs.check.version_of.Goals.{then-size-lt21-via-then-size-lt21, then-size-lt21-via-else-size-lt21+then-size-gt177, then-size-lt21-via-else-size-lt21+else-size-gt177+then-size-ne1}

pub returns-then-size-lt21 : goal.returns-then-size-lt21
returns-then-size-lt21 c =
    elim c.then-size-lt21.branch [
      | then-size-lt21-via-then-size-lt21 w ↦ version_low c.args.size w.if-size-lt21.true
      | then-size-lt21-via-else-size-lt21+then-size-gt177 w ↦ version_high c.args.size w.if-size-gt177.true
      | then-size-lt21-via-else-size-lt21+else-size-gt177+then-size-ne1 w ↦ version_other c.args.size w.if-size-lt21.false w.if-size-gt177.false w.if-size-ne1.true
    ]

pub returns : goal.returns
returns c = search (version_side, rules)
