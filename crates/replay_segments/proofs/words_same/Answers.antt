-- `replay_segments::words_same` meets its contract: the buffer that the codewords are made in is zeroed, and as long as they are.
-- Assumes nothing.
use Rattle.std.proofs.Common.{rules}
use Rattle.replay_segments.specs.Facts.{words_fit, zeros_of, zeros_length}
use Rattle.replay_segments.proofs.words_same.Goals as goal

pub slice_bounds-bb-end : goal.slice_bounds-bb-end
slice_bounds-bb-end c = search (words_fit, rules)

pub slice_bounds-bb-end-2 : goal.slice_bounds-bb-end-2
slice_bounds-bb-end-2 c = zeros_length _ (search (words_fit, rules))

pub data_codewords-requires : goal.data_codewords-requires
data_codewords-requires c = (zeros_of _ _ c.get_num_data_codewords.ensures (search (words_fit, rules)), c.requires.0, c.requires.1)
