-- All definitions opened at once: `unfolding opened` opens each that its line names.
-- Assumes nothing.
use mathlib.Core.Bool.{Bool, true}
use Rattle.standard.specs.Bits.{bits, value_from, byte_at, pack, unpack}
use Rattle.standard.specs.Tables.{check_table, block_table}
use Rattle.standard.specs.Sizes.{raw_modules, raw_codewords, check_bytes, blocks, data_codewords, capacity, short_blocks, short_length}
use Rattle.standard.specs.Kinds.{alphabet, code, is_digit, is_alphanumeric, allowed, digit_bits, pair_number, pair_bits, byte_bits, eci_bits}
use Rattle.standard.specs.Segments.{good_part, first_bad, good_segment, payload, segment_bits, stream, segment_size, total_bits, lengths_fit, fits, text_kind, text_parts, byte_parts}
use Rattle.standard.specs.Codewords.{terminated, filled, pad_byte, padded, data_words}
use Rattle.standard.specs.Field.{double, times_low, times, power, plus, scale, product, generator, step, divide, remainder, divisor, check}
use Rattle.standard.specs.Blocks.{block_length, block_start, block, data_blocks, check_blocks, column, interleave, all_words}
use Rattle.standard.specs.Patterns.{on_timing, timing_colour, on_finder, finder_ring, finder_colour, alignment_step, alignment, nearest, on_corner, on_alignment, alignment_colour}
use Rattle.standard.specs.Format.{checked, level_bits, format_word, version_word, format_in_column, format_in_row, format_place, on_format, format_colour, in_version, on_version, version_colour}
use Rattle.standard.specs.Functions.{is_function, function_colour}
use Rattle.standard.specs.Path.{right, height, cell, free, path}
use Rattle.standard.specs.Masks.{mask_number, inverts}
use Rattle.standard.specs.Grid.{store, content, module_at, grid}
use Rattle.standard.specs.Penalty.{module_of, row, column as column_penalty, runs_from, runs, run_cost, core_count, core_at, cores, bordered, line_cost, square, squares, balance, penalty}
use Rattle.standard.specs.Choice.{lowest, place_of_least, scores, chosen}
use Rattle.standard.specs.Plan.{lowest_fit, boosted, too_long, levelled, plan_fit, plan}
use Rattle.standard.specs.Encode.{drawn, draw, draw_plan, encode, encode_text, encode_bytes, encode_codewords}
use Rattle.standard.specs.Module.{valid_side, dark}
use Rattle.standard.specs.Label.{is_label, grid_of}
use Rattle.standard.specs.Read.{first_above, first_refusal, written, labelled}

unfoldable pub opened : Bool
unfolding bits value_from byte_at pack unpack check_table block_table raw_modules raw_codewords check_bytes blocks data_codewords capacity short_blocks short_length alphabet code is_digit is_alphanumeric allowed digit_bits pair_number pair_bits byte_bits eci_bits good_part first_bad good_segment payload segment_bits stream segment_size total_bits lengths_fit fits text_kind text_parts byte_parts terminated filled pad_byte padded data_words double times_low times power plus scale product generator step divide remainder divisor check block_length block_start block data_blocks check_blocks column interleave all_words on_timing timing_colour on_finder finder_ring finder_colour alignment_step alignment nearest on_corner on_alignment alignment_colour checked level_bits format_word version_word format_in_column format_in_row format_place on_format format_colour in_version on_version version_colour is_function function_colour right height cell free path mask_number inverts store content module_at grid module_of row column_penalty runs_from runs run_cost core_count core_at cores bordered line_cost square squares balance penalty lowest place_of_least scores chosen lowest_fit boosted too_long levelled plan_fit plan drawn draw draw_plan encode encode_text encode_bytes encode_codewords valid_side dark is_label grid_of first_above first_refusal written labelled
opened = true
