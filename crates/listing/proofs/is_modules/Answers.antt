-- `is_modules`: the characters are compared with those of the modules, pair by pair.
-- Assumes nothing.
use Rattle.std.proofs.Common.{rules, tests, ◌≡◌, ◌≢◌, ◌+◌, ◌%◌}
use Rattle.std.proofs.lemmas.Iterator.{YieldsList-from_slice, YieldsList-from_zip, cases_from_all}
use Rattle.listing.specs.Walk.{modules_long, modules_all}
use Rattle.listing.proofs.is_modules.Goals as goal

pub returns-then-line-grid : goal.returns-then-line-grid
returns-then-line-grid c =
    modules_all _ _ _ (search rules)
    (cases_from_all c.all.new.self _ _ (λ p. p.0 ≡ 48 + p.1 % 2) (λ p. p.0 ≢ 48 + p.1 % 2) c.all.ensures.ran
    (YieldsList-from_zip (YieldsList-from_slice c.args.line.now cc) (YieldsList-from_slice c.args.grid.now cc))
    (λ x q k. search (rules, tests)) (λ x q k. search (rules, tests)))

pub returns-else-line-grid : goal.returns-else-line-grid
returns-else-line-grid c = search (modules_long, rules)
