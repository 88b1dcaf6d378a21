-- `replay_blocks::case` is safe and ends.
-- Assumes nothing.
use Prim.Native.Nat.{◌/◌}
use mathlib.Core.Path.{◌∙◌}
use native.Mathlib.Omega.{arith}
use Rattle.std.proofs.Common.{rules}
use Rattle.types.specs.Numbers.{level_of}
use Rattle.types.specs.Laws.{level_le}
use Rattle.counts.specs.Ranges.{data_fit, words_fit}
use Rattle.replay_blocks.specs.Fit.{raw_is, lent, data_less}
use Rattle.replay_blocks.proofs.case.Goals as goal

pub slice_bounds-data_room-end : goal.slice_bounds-data_room-end
slice_bounds-data_room-end g c = search (data_fit, level_le, rules)

pub slice_bounds-data-end : goal.slice_bounds-data-end
slice_bounds-data-end g c = search (data_fit, level_le, rules)

pub slice_bounds-all_room-end : goal.slice_bounds-all_room-end
slice_bounds-all_room-end g c = search (words_fit, rules)

pub slice_bounds-all-end : goal.slice_bounds-all-end
slice_bounds-all-end g c = search (words_fit, rules)

pub slice_bounds-back_room-end : goal.slice_bounds-back_room-end
slice_bounds-back_room-end g c = search (data_fit, level_le, rules)

pub slice_bounds-back-end : goal.slice_bounds-back-end
slice_bounds-back-end g c = search (data_fit, level_le, rules)

pub add_ecc_and_interleave-requires : goal.add_ecc_and_interleave-requires
add_ecc_and_interleave-requires g c =
    let d = c.get_num_data_codewords-n in
    let r = c.get_num_raw_data_modules-m in
    record {
      data_len = (
        c.fill_random.auto.bytes ∙ lent 2956 d.result _ d.ensures (data_fit _ _ _ d.ensures (omega arith) (omega arith) (level_le c.args.ecl)),
        lent 3706 (r.result / 8) _ (raw_is _ _ r.ensures) (words_fit _ _ r.ensures (omega arith) (omega arith)),
      );
    }

pub data_words-requires : goal.data_words-requires
data_words-requires g c =
    let d = c.get_num_data_codewords-n in
    let r = c.get_num_raw_data_modules-m in
    record {
      all_len = (
        c.add_ecc_and_interleave.auto.out ∙ lent 3706 (r.result / 8) _ (raw_is _ _ r.ensures) (words_fit _ _ r.ensures (omega arith) (omega arith)),
        lent 2956 d.result _ d.ensures (data_fit _ _ _ d.ensures (omega arith) (omega arith) (level_le c.args.ecl)),
      );
    }

pub is_digests-requires : goal.is_digests-requires
is_digests-requires g c =
    let r = c.get_num_raw_data_modules-m in
    let e = c.add_ecc_and_interleave.auto.out ∙ lent 3706 (r.result / 8) _ (raw_is _ _ r.ensures) (words_fit _ _ r.ensures (omega arith) (omega arith)) in
    omega (arith, e, c.get_num_data_codewords-n.ensures, data_less c.args.ver.value (level_of c.args.ecl) (omega arith) (omega arith) (level_le c.args.ecl))
