-- `draw::draw_plan` meets its contract: the local array is zeros and has room for the data codewords.
-- Assumes nothing.
use Rattle.std.proofs.Common.{sym, length-take-le}
use Rattle.types.specs.Laws.{level_le}
use Rattle.counts.specs.Ranges.{data_fit}
use Rattle.encoder.specs.Drawing.{fresh}
use Rattle.encoder.proofs.draw.draw_plan.Goals as goal

pub slice_bounds-data-end : goal.slice_bounds-data-end
slice_bounds-data-end c =
    let p = c.args.plan in
    data_fit _ _ _ c.get_num_data_codewords-n.ensures p.version.in_range.0 p.version.in_range.1 (level_le p.level)

pub slice_bounds-draw_plan_with-end : goal.slice_bounds-draw_plan_with-end
slice_bounds-draw_plan_with-end c =
    let p = c.args.plan in
    sym (length-take-le _ _ (data_fit _ _ _ c.get_num_data_codewords-n.ensures p.version.in_range.0 p.version.in_range.1 (level_le p.level)))

pub draw_plan_with-requires-clause-fresh : goal.draw_plan_with-requires-clause-fresh
draw_plan_with-requires-clause-fresh c =
    let p = c.args.plan in
    let e = c.get_num_data_codewords-n.ensures in
    fresh _ _ _ 2956 e (data_fit _ _ _ e p.version.in_range.0 p.version.in_range.1 (level_le p.level))
