-- `read_data` reads all codewords, and the data codewords among them.
-- Assumes nothing.
use Rattle.reader.specs.Drawn.{data_is}
use Rattle.reader.proofs.read_data.Goals as goal

pub returns-clause-data_after : goal.returns-clause-data_after
returns-clause-data_after c = data_is _ _ _ _ _ c.data_words.ensures c.read_codewords.auto.out c.requires.lengths.0
