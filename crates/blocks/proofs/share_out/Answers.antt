-- `blocks::share_out` meets its contract.
-- Assumes nothing.
use Rattle.std.proofs.Common.{rules}
use native.Mathlib.Omega.{arith}
use Rattle.types.specs.Numbers.{level_of}
use Rattle.types.specs.Laws.{level_le}
use Rattle.blocks.specs.SharedOut.{some_blocks, rest_less, check_less, shared_out}
use Rattle.blocks.proofs.share_out.Goals as goal

pub nonzero_rem-result : goal.nonzero_rem-result
nonzero_rem-result c = search (some_blocks, level_le, rules)

pub overflow_sub-result : goal.overflow_sub-result
overflow_sub-result c = search (rest_less, level_le, rules)

pub nonzero_div-result : goal.nonzero_div-result
nonzero_div-result c = search (some_blocks, level_le, rules)

pub overflow_sub-result-2 : goal.overflow_sub-result-2
overflow_sub-result-2 c = search (check_less, level_le, rules)

pub returns : goal.returns
returns c = search (shared_out, level_le, rules)

pub invariant_of-result : goal.invariant_of-result
invariant_of-result c =
    let k = shared_out c.args.ver.value (level_of c.args.ecl) _ _ _ c.get_num_raw_data_modules-rawcodewords.ensures c.num_error_correction_blocks-numblocks.ensures
    c.ecc_codewords_per_block-blockecclen.ensures (omega arith) (omega arith) (level_le c.args.ecl) in record { shape = k.shaped; checks = (k.check_some, k.check_few) }
