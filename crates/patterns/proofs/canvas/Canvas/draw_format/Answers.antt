-- `draw_format` draws the format layer.
-- Assumes nothing.
use Rattle.std.proofs.Common.{rules, arith, sym, ◌∙◌}
use Rattle.patterns.specs.FormatPlaces.{first_x, first_y, second_x, second_y}
use Rattle.patterns.specs.Everything.{square_is}
use Rattle.patterns.specs.FormatLayer.{format_drawn}
use Rattle.patterns.proofs.canvas.Canvas.draw_format.Goals as goal

pub draw_copy-requires-2-clause-inside : goal.draw_copy-requires-2-clause-inside
draw_copy-requires-2-clause-inside c =
    let size = (c.draw_copy.ensures first_x first_y (λ i p h e. search rules)).size in
    λ i p h e. rw size (search rules)

pub set_function_module-requires : goal.set_function_module-requires
set_function_module-requires c =
    let a = (c.draw_copy.ensures first_x first_y (λ i p h e. search rules)).size in
    let b = (c.draw_copy-2.ensures (second_x c.args.self.now.size) (second_y c.args.self.now.size) (λ i p h e. search rules)).size in
    (omega (arith, c.requires), omega (arith, c.requires))

pub returns : goal.returns
returns c =
    let size = c.args.self.now.size in
    let a = c.draw_copy.ensures first_x first_y (λ i p h e. search rules) in
    let b = c.draw_copy-2.ensures (second_x size) (second_y size) (λ i p h e. search rules) in
    let d = c.set_function_module.ensures in
    let word = c.format_word-bits.ensures in
    let v = c.args.ver.in_range in
    record {
      same = d.same ∙ b.same ∙ a.same;
      size = d.size ∙ b.size ∙ a.size;
      cells = rw c.requires (format_drawn _ _ size _ _ _ _ _ a.cells (rw a.size at b.cells) (rw a.size at (rw b.size at d.cells)) c.requires word.0 word.1 (square_is _ _ _ (sym c.requires) c.args.self.now.square) v.0 v.1);
    }
