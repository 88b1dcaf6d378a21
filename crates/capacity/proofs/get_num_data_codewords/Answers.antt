-- `capacity::get_num_data_codewords` meets its contract: the check bytes are no more than the codewords.
-- Assumes nothing.
use Rattle.capacity.specs.Raw.{check_le}
use Rattle.types.specs.Laws.{level_le}
use Rattle.std.proofs.Common.{rules}
use Rattle.capacity.proofs.get_num_data_codewords.Goals as goal

pub overflow_sub-result : goal.overflow_sub-result
overflow_sub-result c = search (check_le, level_le, rules)
