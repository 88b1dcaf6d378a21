-- `draw_alignment_patterns` draws the alignment layer, centre by centre.
-- Assumes nothing.
use Rattle.std.proofs.Common.{rules, refl, sym, ◌∙◌}
use Rattle.patterns.specs.Centres.{inside}
use Rattle.patterns.specs.AlignmentLayer.{row_start, row_next, rows_start, turn, no_turn, next_row, all_rows}
use Rattle.patterns.specs.Everything.{square_is}
use Rattle.patterns.specs.Painted.{from_at, also_at, next_at}
use Rattle.patterns.proofs.canvas.Canvas.draw_alignment_patterns.Goals as goal
use Rattle.patterns.proofs.canvas.Canvas.draw_alignment_patterns.Goals.{then-not-on_corner, else-not-on_corner}

pub loop-i-init : goal.loop-i-init
loop-i-init c = from_at _ _ _ c.requires (rows_start _ _ (square_is _ _ _ (sym c.requires) c.args.self.now.square))

pub loop-j-init : goal.loop-j-init
loop-j-init c =
    let k = c.loop-i.invariant.size ∙ c.requires in
    from_at _ _ _ k (row_start _ _ _ (square_is _ _ _ (sym k) c.loop-i.self.square))

pub draw_alignment_pattern-requires : goal.draw_alignment_pattern-requires
draw_alignment_pattern-requires c =
    let r = c.args.ver.in_range in
    let p = c.get_alignment_pattern_positions-alignpatpos.ensures in
    let k = c.loop-j.invariant.size ∙ c.loop-i.invariant.size ∙ c.requires in
    let i = inside _ _ _ r.0 r.1 p _ c.loop-i-test.true _ k in
    let j = inside _ _ _ r.0 r.1 p _ c.loop-j-test.true _ k in
    (i.0, j.0, i.1, j.1)

pub loop-j-preserved : goal.loop-j-preserved
loop-j-preserved c =
    let r = c.args.ver.in_range in
    let p = c.get_alignment_pattern_positions-alignpatpos.ensures in
    let ki = c.loop-i.invariant.size ∙ c.requires in
    let kj = c.loop-j.invariant.size ∙ ki in
    let sq = square_is _ _ _ (sym kj) c.loop-j.self.square in
    elim c.if-not-on_corner.branch [
      | then-not-on_corner w ↦
          let d = also_at _ _ _ _ _ kj w.draw_alignment_pattern.ensures (λ e. turn _ _ _ r.0 r.1 p _ _ c.loop-i-test.true c.loop-j-test.true _ refl _ c.on_corner.ensures w.if-not-on_corner.true _ _ e sq) in
          rw w.self-is (next_at _ _ _ _ _ _ _ ki c.loop-j.invariant d (row_next _ _ _ _ _ _))
      | else-not-on_corner w ↦
          let d = from_at _ _ _ kj (no_turn _ _ _ r.0 r.1 p _ _ c.loop-i-test.true c.loop-j-test.true _ c.on_corner.ensures w.if-not-on_corner.false _ sq) in
          rw w.self-is (next_at _ _ _ _ _ _ _ ki c.loop-j.invariant d (row_next _ _ _ _ _ _))
    ]

pub loop-i-preserved : goal.loop-i-preserved
loop-i-preserved c =
    let r = c.args.ver.in_range in
    let p = c.get_alignment_pattern_positions-alignpatpos.ensures in
    let k = c.loop-i.invariant.size ∙ c.requires in
    let sq = square_is _ _ _ (sym k) c.loop-i.self.square in
    next_at _ _ _ _ _ _ _ c.requires c.loop-i.invariant c.loop-j.invariant
    (λ e f. next_row _ _ _ r.0 r.1 p _ _ c.loop-i-test.true _ _ _ e f (search rules) (search rules) sq)

pub returns : goal.returns
returns c =
    let r = c.args.ver.in_range in
    let p = c.get_alignment_pattern_positions-alignpatpos.ensures in
    also_at _ _ _ _ _ c.requires c.loop-i.invariant
    (λ e. all_rows _ _ _ r.0 r.1 p _ _ _ e (search rules) (search rules) (square_is _ _ _ (sym c.requires) c.args.self.now.square))
