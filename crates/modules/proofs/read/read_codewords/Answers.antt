-- `read_codewords` reads what the definition of reading says.
-- Assumes nothing.
use Rattle.std.proofs.Common.{rules}
use Rattle.modules.specs.Zigzag.{read_at}
use Rattle.modules.specs.Back.{words_read}
use Rattle.modules.proofs.read.read_codewords.Goals as goal

pub returns-clause-out_after : goal.returns-clause-out_after
returns-clause-out_after c =
    words_read _ _ _ _ _ _ _ _ c.unmask.ensures (c.zigzag.ensures (read_at c.unmask.new.work) (λ b at i r d e. search rules)) c.size_of-size.ensures
