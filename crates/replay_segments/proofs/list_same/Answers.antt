-- `replay_segments::list_same` meets its contract: the checks that go before give what `data_codewords` requires.
-- Assumes nothing.
use Rattle.segments.specs.Totals.{fits_of}
use Rattle.replay_segments.specs.Facts.{good_of, words_fit}
use Rattle.standard.specs.Segments.{segments_of}
use Rattle.types.specs.Numbers.{level_of}
use Rattle.segments.specs.Records.{parts_of}
use Rattle.std.proofs.Common.{arith, rules}
use Rattle.replay_segments.proofs.list_same.Goals as goal

pub get_total_bits-used-requires : goal.get_total_bits-used-requires
get_total_bits-used-requires c = (search rules, good_of _ _ _ c.first_bad.ensures c.if-is_some.ensures)

pub overflow_mul-get_num_data_codewords : goal.overflow_mul-get_num_data_codewords
overflow_mul-get_num_data_codewords c = record { fits = omega (arith, words_fit _ _ _ c.get_num_data_codewords.ensures c.args.ver.in_range.0 c.args.ver.in_range.1) }

pub words_same-requires : goal.words_same-requires
words_same-requires c =
    let a = c.args in (
      good_of _ _ _ c.first_bad.ensures c.if-is_some.ensures,
      fits_of a.ver.value (level_of a.ecl) c.in-Some.n c.get_num_data_codewords.result (segments_of a.text.now (parts_of a.records.now)) c.get_total_bits-used.result
          c.get_total_bits-used.ensures c.in-Some.is c.get_num_data_codewords.ensures (search rules),
    )
