-- The worked lines, by computing: every definition on the way is unfolded, and both sides are the same numbers. Assumes nothing.
use mathlib.Core.Path.{refl}
use Rattle.pool.specs.History.{run_says, run_pool}
use Rattle.pool.specs.Reset.{reset_says, reset_pool}
use Rattle.pool.specs.UseCount.{use_count_says}
use Rattle.pool.specs.Push.{inserted_at, inserted, has_room, tested_says, push_says, push_pool}
use Rattle.pool.specs.Writing.{filled, linked, marked}
use Rattle.pool.specs.Entering.{entered_at, entered, entered_all, last_entered}
use Rattle.pool.specs.Path.{reach_from, reach_of, missing_labels}
use Rattle.pool.specs.Siblings.{slot_from, slot_of, child_at}
use Rattle.records.specs.Meaning.{siblings_from, forest_below, pool_forest, pool_map}
use Rattle.records.specs.SoundTest.{both, words_fit, record_fits, is_child, chain_rest, record_rest, pass_rest, root_fits, sound_test}
use Rattle.records.specs.Words.{word, put, last_record, used_count, next_record, taken}
use Rattle.keymap.specs.Forest.{list_forest, list_tree, width}
use Rattle.keymap.specs.Buffers.{over}
use Rattle.image.specs.LevelOrder.{sibling_records, child_records, taken_from, level_records, record_degree, pool_labels, pool_values, pool_words}
use Rattle.image.specs.Build.{buffers_fit, fit_says, build_says, build_labels, build_values, build_words, build_scratch}
use Rattle.keymap.specs.Bits.{sum_below, number, table, pack, bit, unpack}
use Rattle.keymap.specs.Degrees.{unary, sequence, degrees_from}
use Rattle.keymap.specs.Key.{compare_keys, begins_with, extends, common_prefix}
use Rattle.keymap.specs.Map.{lookup}
use Rattle.keymap.specs.Queries.{keep, beginning, longer, is_prefix_in, common_of_all, longest_prefix_in, common_prefix_in, least_above}
use Rattle.keymap.specs.Prefixes.{level, deepest, levels, prefixes}
use Rattle.keymap.specs.Paths.{nodes, is_node, path_of, index_of, node_of}
use Rattle.keymap.specs.Decode.{take_trees, drop_trees, claim, rebuild, rows_from, degrees_in, rows_in, decode, image_map}
use Rattle.image.specs.AcceptTest.{entry_fits, labels_rise, one_fits, childless_fits, bit_fits, passes_from, lengths_fit, ends_fit, image_test}
use Rattle.searches.specs.Exact.{exact_says, is_prefix_says}
use Rattle.searches.specs.CommonPrefixes.{common_says, common_part}
use Rattle.searches.specs.Prefix.{longest_says, longest_out}
use Rattle.places.specs.Places.{value_says, prefix_len_says, prefix_says, prefix_out}
use Rattle.listings.specs.Cursors.{belongs, start_says, step_says}
use Rattle.places.specs.Incremental.{path_says, query_says, query_moves, walkable, follow_says, follow_moves, goto_says, goto_moves}
use Rattle.listings.specs.GivenKey.{key_says, key_out}
use Rattle.theorems.specs.Built.{built_image}
use Rattle.theorems.specs.Worked.{built_says, built, listed_from, says, lines, WorkedLines}

pub worked-lines : WorkedLines
unfolding lines says built_says built built_image listed_from run_says run_pool reset_says reset_pool use_count_says inserted_at inserted has_room tested_says push_says push_pool filled linked entered_at entered entered_all last_entered marked reach_from reach_of missing_labels slot_from slot_of child_at siblings_from forest_below pool_forest pool_map both words_fit record_fits is_child chain_rest record_rest pass_rest root_fits sound_test word put last_record used_count next_record taken list_forest list_tree over sibling_records child_records taken_from level_records record_degree pool_labels pool_values pool_words buffers_fit fit_says build_says build_labels build_values build_words build_scratch sum_below number table pack unary sequence compare_keys begins_with extends common_prefix lookup keep beginning longer is_prefix_in common_of_all longest_prefix_in common_prefix_in level deepest levels prefixes nodes is_node path_of bit unpack degrees_from width take_trees drop_trees claim rebuild rows_from degrees_in rows_in decode image_map entry_fits labels_rise one_fits childless_fits bit_fits passes_from lengths_fit ends_fit image_test exact_says is_prefix_says common_says common_part longest_says longest_out value_says prefix_len_says prefix_says prefix_out index_of node_of least_above belongs start_says step_says path_says query_says query_moves walkable follow_says follow_moves goto_says goto_moves key_says key_out
worked-lines = refl
