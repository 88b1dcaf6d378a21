-- `terminal::options::chosen`: a name that is none of the four.
-- Assumes nothing.
use Rattle.std.proofs.Common.{rules}
use Rattle.terminal.specs.ChoiceLaws.{chosen_none}
use Rattle.terminal.proofs.options.chosen.Goals as goal

pub returns : goal.returns
returns c = chosen_none c.args.o c.args.name.now c.args.value.now (search rules) (search rules) (search rules) (search rules)
