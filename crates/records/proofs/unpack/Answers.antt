-- `records::unpack`: one record more each turn.
-- Assumes nothing.
use native.Mathlib.Omega.{arith}
use Rattle.std.proofs.Common.{◌∙◌, ap, ℕ, ◌+◌, ◌-◌, ◌*◌, List}
use borrow.Rule.Slice.PartMut.{put_mid}
use Rattle.records.specs.Records.{none_unpacked, more_unpacked}
use Rattle.records.proofs.unpack.Goals as goal

pub loop-i-init : goal.loop-i-init
loop-i-init c = none_unpacked _ _

pub loop-i-preserved : goal.loop-i-preserved
loop-i-preserved c =
    let l = c.loop-i in
    ap (λ (ns : List ℕ). put_mid (4 * l.i) (4 * l.i + 4 - 4 * l.i) ns c.put.new.place) l.invariant
    ∙ more_unpacked c.args.records.now c.args.numbers.now c.requires l.i _ _ c.loop-i-test.true (omega arith) c.put.ensures
