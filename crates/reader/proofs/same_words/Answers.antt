-- `same_words` compares all codewords.
-- Assumes nothing.
use Rattle.reader.specs.Drawn.{words_told}
use Rattle.reader.proofs.same_words.Goals as goal

pub returns : goal.returns
returns c = words_told _ _ _ _ _ _ c.add_ecc_and_interleave.ensures c.eq.ensures
