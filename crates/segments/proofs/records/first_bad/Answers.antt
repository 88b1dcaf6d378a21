-- `segments::records::first_bad` meets its contract: `position` answers where the first record stands that is not good.
-- Assumes nothing.
use Rattle.std.proofs.Common.{◌/◌, not, length, rules, tests}
use Rattle.std.specs.Simd.{first_chunks}
use Rattle.std.proofs.lemmas.Iterator.{YieldsList-from_slice}
use Rattle.std.proofs.lemmas.Iterator.Search.{position_from_yields_List}
use Rattle.standard.specs.Segments.{good_part}
use Rattle.segments.specs.Records.{part_from, bad_is}
use Rattle.segments.proofs.records.first_bad.Goals as goal

pub returns : goal.returns
returns c =
    let a = c.args in
    bad_is a.text.now a.records.now c.position.result
    (position_from_yields_List (λ r. not (good_part a.text.now (part_from r))) _ _ c.position.result c.position.ensures.ran
    (YieldsList-from_slice (first_chunks 4 (length a.records.now / 4) a.records.now) cc) (λ x b q h. search (rules, tests)))
