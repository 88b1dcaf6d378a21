-- `terminal::words::place`: the position of the byte.
-- Assumes nothing.
use Rattle.std.proofs.Common.{rules, tests, ◌≡◌, ◌≢◌}
use Rattle.std.proofs.lemmas.Iterator.{YieldsList-from_slice, IsFirst-from_position}
use Rattle.terminal.specs.WordLaws.{place_found}
use Rattle.terminal.proofs.words.place.Goals as goal

pub returns-clause-value : goal.returns-clause-value
returns-clause-value c =
    place_found c.args.c c.args.word.now _
    (IsFirst-from_position c.position.new.self _ _ (λ x. x ≡ c.args.c) (λ x. x ≢ c.args.c) c.position.ensures.ran (YieldsList-from_slice c.args.word.now cc)
    (λ x q k. search (rules, tests)) (λ x q k. search (rules, tests)))
