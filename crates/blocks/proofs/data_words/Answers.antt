-- `blocks::data_words` meets its contract.
-- Assumes nothing.
use Rattle.std.proofs.Common.{rules}
use Rattle.blocks.specs.SharedOut.{data_from}
use Rattle.blocks.proofs.data_words.Goals as goal

pub returns : goal.returns
returns c = search (data_from, rules)
