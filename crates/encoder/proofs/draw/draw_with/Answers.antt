-- `draw::draw_with` meets its contract: the codewords that were written are the ones drawn.
-- Assumes nothing.
use native.Mathlib.Omega.{arith}
use Rattle.encoder.specs.Drawing.{words_few}
use Rattle.encoder.proofs.draw.draw_with.Goals as goal

pub draw_masked-requires-clause-codewords_len : goal.draw_masked-requires-clause-codewords_len
draw_masked-requires-clause-codewords_len c = omega (arith, words_few c.args.ver.value c.args.ver.in_range.0 c.args.ver.in_range.1)
