-- `records::pack`: one record more each turn.
-- Assumes nothing.
use Rattle.std.proofs.Common.{◌∙◌, ap, set, List}
use Rattle.records.specs.declared.Record.{Record}
use Rattle.records.specs.Records.{record_at, none_packed, more_packed}
use Rattle.records.proofs.pack.Goals as goal

pub loop-i-init : goal.loop-i-init
loop-i-init c = none_packed _ _

pub loop-i-preserved : goal.loop-i-preserved
unfolding record_at
loop-i-preserved c =
    let l = c.loop-i in
    ap (λ (rs : List Record). set rs l.i (record_at c.args.numbers.now l.i)) l.invariant ∙ more_packed c.args.numbers.now c.args.records.now l.i
