-- `segments::is_text` meets its contract: what `all` answers is the definition's `every`.
-- Assumes nothing.
use Rattle.std.proofs.Common.{◌∙◌, rules, tests}
use Rattle.std.proofs.lemmas.Iterator.{YieldsList-from_slice}
use Rattle.std.proofs.lemmas.Iterator.Search.{all_from_yields_List}
use Rattle.standard.specs.Kinds.{allowed}
use Rattle.types.specs.Numbers.{text_kind_of}
use Rattle.segments.specs.Texts.{all_is_every}
use Rattle.segments.proofs.is_text.Goals as goal

pub returns : goal.returns
returns c =
    let k = text_kind_of c.args.kind in
    all_from_yields_List (allowed k) _ _ c.all.result c.all.ensures.ran (YieldsList-from_slice c.args.text.now cc) (λ x b q h. search (rules, tests))
    ∙ all_is_every (allowed k) c.args.text.now
