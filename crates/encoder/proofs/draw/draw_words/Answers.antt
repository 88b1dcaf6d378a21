-- `draw::draw_words` meets its contract: the local array has room for all codewords.
-- Assumes nothing.
use Rattle.std.proofs.Common.{sym, length-take-le}
use Rattle.counts.specs.Ranges.{words_fit}
use Rattle.encoder.specs.Drawing.{words_room}
use Rattle.encoder.proofs.draw.draw_words.Goals as goal

pub slice_bounds-all-end : goal.slice_bounds-all-end
slice_bounds-all-end c = words_fit _ _ c.get_num_raw_data_modules-n.ensures c.args.ver.in_range.0 c.args.ver.in_range.1

pub slice_bounds-draw_with-end : goal.slice_bounds-draw_with-end
slice_bounds-draw_with-end c = sym (length-take-le _ _ (words_fit _ _ c.get_num_raw_data_modules-n.ensures c.args.ver.in_range.0 c.args.ver.in_range.1))

pub draw_with-requires-clause-all_len : goal.draw_with-requires-clause-all_len
draw_with-requires-clause-all_len c =
    let e = c.get_num_raw_data_modules-n.ensures in
    words_room _ _ _ e (words_fit _ _ e c.args.ver.in_range.0 c.args.ver.in_range.1)
