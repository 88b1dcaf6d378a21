-- `parser::steps::text_step` meets its contract.
-- Assumes nothing.
use Rattle.std.proofs.lemmas.Result.{err_from_is_err_and}
use Rattle.types.specs.Numbers.{kind_of}
use Rattle.parser.specs.CodeSteps.{count_32, text_short, text_room, text_fault, text_next}
use Rattle.parser.proofs.steps.text_step.Goals as goal

pub field_at-requires : goal.field_at-requires
field_at-requires c = (count_32 c.args.ver.value (kind_of c.mode-mode.result) _ c.num_char_count_bits-w.ensures, c.requires.0, c.requires.1)

pub returns-in_err-count : goal.returns-in_err-count
returns-in_err-count c =
    let p = err_from_is_err_and c.from_residual.result c.from_residual.ensures.1 in
    rw (p.1, p.2) (text_short c.args.ver.value _ _ _ _ _ c.num_char_count_bits-w.ensures c.mode-mode.ensures _ c.field_at.ensures _ c.in_err-count.was)

pub run_end-requires : goal.run_end-requires
run_end-requires c = (c.requires.0, text_room c.args.ver.value _ _ _ _ _ c.num_char_count_bits-w.ensures c.mode-mode.ensures _ c.field_at.ensures _ c.in_ok-count.was)

pub returns-in_err-end : goal.returns-in_err-end
returns-in_err-end c =
    let p = err_from_is_err_and c.from_residual-in_err-end.result c.from_residual-in_err-end.ensures.1 in
    rw (p.1, p.2) (text_fault c.args.ver.value _ _ _ _ _ c.num_char_count_bits-w.ensures c.mode-mode.ensures _ c.field_at.ensures _ c.in_ok-count.was _ c.run_end.ensures _ c.in_err-end.was)

pub returns : goal.returns
returns c = text_next c.args.ver.value _ _ _ _ _ c.num_char_count_bits-w.ensures c.mode-mode.ensures _ c.field_at.ensures _ c.in_ok-count.was _ c.run_end.ensures _ c.in_ok-end.was
