-- `is_drawn` tests function modules, remainder modules and codewords.
-- Assumes nothing.
use Rattle.std.proofs.Common.{true≢false, sym, ◌∙◌}
use Rattle.reader.specs.Drawn.{words_room, functions_off, last_off, last_on}
use Rattle.reader.proofs.is_drawn.Goals as goal
use Rattle.reader.proofs.is_drawn.Goals.{then-same_functions, else-same_functions}

pub slice_bounds-same_words-end-then-all-raw-eq0 : goal.slice_bounds-same_words-end-then-all-raw-eq0
slice_bounds-same_words-end-then-all-raw-eq0 c = words_room _ c.args.all.now c.args.work.now c.requires.lengths.0 c.requires.work.1 c.args.ver.in_range.0 c.args.ver.in_range.1

pub returns-then-all-raw-eq0 : goal.returns-then-all-raw-eq0
returns-then-all-raw-eq0 c =
    elim c.if-same_functions.branch [
      | then-same_functions w ↦ last_on c.args.ver.value c.args.ecl _ c.args.all.now _ c.requires.lengths.0 c.requires.lengths.1 c.args.ver.in_range.0 c.args.ver.in_range.1 _ _ c.same_functions.ensures w.if-same_functions.true (sym w.value-is ∙ c.if-all-raw-eq0.true) c.same_words.ensures
      | else-same_functions w ↦ absurd (true≢false (sym c.if-all-raw-eq0.true ∙ w.value-is ∙ w.if-same_functions.false))
    ]

pub returns-else-all-raw-eq0 : goal.returns-else-all-raw-eq0
returns-else-all-raw-eq0 c =
    elim c.if-same_functions.branch [
      | then-same_functions w ↦ c.if-all-raw-eq0.false ∙ last_off c.args.ver.value c.args.ecl _ c.args.all.now _ c.requires.lengths.0 c.requires.lengths.1 c.args.ver.in_range.0 c.args.ver.in_range.1 (sym w.value-is ∙ c.if-all-raw-eq0.false)
      | else-same_functions w ↦ c.if-all-raw-eq0.false ∙ functions_off _ _ _ c.same_functions.ensures w.if-same_functions.false
    ]
