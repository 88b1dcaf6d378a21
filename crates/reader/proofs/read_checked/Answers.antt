-- `read_checked` draws in scratch and zeroes it.
-- Assumes nothing.
use mathlib.Core.Path.{ap, ◌∙◌}
use native.Mathlib.Omega.{arith}
use lib.ListN.{length}
use Rattle.laws.specs.Grid.{area_small}
use Rattle.reader.specs.Entry.{area_square, zeroed_all, zeroed_length, finds_zeroed}
use Rattle.reader.proofs.read_checked.Goals as goal

pub overflow_mul-area : goal.overflow_mul-area
overflow_mul-area c = record { fits = omega (arith, area_small _ _ c.size_of-size.ensures c.args.ver.in_range.1) }

pub slice_bounds-read_square-end : goal.slice_bounds-read_square-end
slice_bounds-read_square-end c = omega (arith, area_small _ _ c.size_of-size.ensures c.args.ver.in_range.1)

pub read_square-r-requires : goal.read_square-r-requires
read_square-r-requires c = record { grid = c.requires.grid; work = area_square _ _ _ c.size_of-size.ensures c.args.ver.in_range.1 c.requires.scratch; small = c.requires.small }

pub shape_of-scratch : goal.shape_of-scratch
shape_of-scratch c =
    let square = c.read_square-r in
    let scratch = c.args.scratch.now in
    ap length (zeroed_all scratch square.new.work _ _ square.auto.work (area_small _ _ c.size_of-size.ensures c.args.ver.in_range.1) c.requires.scratch (c.fill.ensures.after (λ y e. e)))
    ∙ zeroed_length scratch c.requires.scratch

pub returns : goal.returns
returns c =
    let square = c.read_square-r in
    let scratch = c.args.scratch.now in
    finds_zeroed _ _ _ scratch _ _ _ _ square.ensures
    (zeroed_all scratch square.new.work _ _ square.auto.work (area_small _ _ c.size_of-size.ensures c.args.ver.in_range.1) c.requires.scratch (c.fill.ensures.after (λ y e. e)))
