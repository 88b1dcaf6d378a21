-- `terminal::scan::uneven`: the search finds what `uneven` says.
-- Assumes nothing.
use Rattle.std.proofs.Common.{rules, tests, ◌≡◌, true, false}
use Rattle.std.proofs.lemmas.Iterator.{first_from_Range}
use Rattle.terminal.specs.Scan.{even}
use Rattle.terminal.specs.ScanLaws.{uneven_found}
use Rattle.terminal.proofs.scan.uneven.Goals as goal

pub returns-clause-value : goal.returns-clause-value
returns-clause-value c =
    let s = c.args.side in
    let t = c.args.text.now in
    uneven_found s t _
    (first_from_Range _ c.find.new.self _ _ (λ p. even s t p ≡ false) (λ p. even s t p ≡ true) c.find.ensures.ran
    (λ x q k. search (rules, tests)) (λ x q k. search (rules, tests)))
