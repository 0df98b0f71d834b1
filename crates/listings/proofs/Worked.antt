-- 01's worked lines on listings, one statement over one table: the empty map, A ("ab" 7, "b" 3), and A's slices with one bit more, which are no map's image.
-- What is computed is what the calls' contracts cite: the image test, the map that the image stands for, and the query on it. Assumes nothing.
use mathlib.Core.Path.{◌≡◌, refl}
use Prim.Native.Nat.{ℕ}
use mathlib.Core.List.{List, [], ◌∷◌, map}
use Rattle.keymap.specs.Key.{Key, compare_keys, begins_with, extends}
use Rattle.keymap.specs.Buffers.{over}
use Rattle.keymap.specs.Map.{lookup}
use Rattle.keymap.specs.Queries.{keep, beginning, longer, least_above}
use Rattle.keymap.specs.Prefixes.{level, deepest, levels, prefixes}
use Rattle.keymap.specs.Paths.{nodes, is_node, path_of, index_of, node_of}
use Rattle.keymap.specs.Bits.{bit, table, unpack}
use Rattle.keymap.specs.Degrees.{degrees_from}
use Rattle.keymap.specs.Forest.{list_forest, list_tree, width}
use Rattle.keymap.specs.Image.{Image}
use Rattle.keymap.specs.Decode.{take_trees, drop_trees, claim, rebuild, rows_from, degrees_in, rows_in, decode, image_map}
use Rattle.image.specs.AcceptTest.{entry_fits, labels_rise, one_fits, childless_fits, bit_fits, passes_from, lengths_fit, ends_fit, image_test}
use Rattle.listings.specs.declared.answers.Kind.{Kind}
use Rattle.listings.specs.declared.answers.Kind.TheVariants.{Predictive, Postfix}
use Rattle.listings.specs.declared.answers.Cursor.{Cursor}
use Rattle.listings.specs.declared.answers.Cursor.TheVariants.{Open, Finished}
use Rattle.listings.specs.Cursors.{belongs, start_says, step_says}
use Rattle.listings.specs.GivenKey.{key_says, key_out}

-- a call with what it is asked
pub data Ask : Type 0 where
  key : Cursor → List ℕ → Ask
  key_into : Cursor → List ℕ → Ask
  start : Kind → Key → Ask
  step : Cursor → Ask

unfoldable pub answer : Image → Ask → List ℕ
answer i (key c out) = key_says i c out
answer i (key_into c out) = key_out i c out
answer i (start kind q) = start_says kind i q
answer i (step c) = step_says i c

pub record Line : Type 0 where
  pub lent : Image
  pub ask : Ask
  pub says : List ℕ

unfoldable empty_map : Image
empty_map = record { labels = []; values = []; words = 1 ∷ [] }

unfoldable map_a : Image
map_a = record { labels = 97 ∷ 354 ∷ 354 ∷ []; values = 0 ∷ 3 ∷ 7 ∷ []; words = 45 ∷ [] }

unfoldable damaged : Image
damaged = record { labels = 97 ∷ 354 ∷ 354 ∷ []; values = 0 ∷ 3 ∷ 7 ∷ []; words = 47 ∷ [] }

pub lines : List Line
lines =
    record { lent = map_a; ask = key (Open Predictive 2 4) (0 ∷ 0 ∷ 9 ∷ []); says = 0 ∷ 2 ∷ [] }
    ∷ record { lent = map_a; ask = key_into (Open Predictive 2 4) (0 ∷ 0 ∷ 9 ∷ []); says = 97 ∷ 98 ∷ 9 ∷ [] }
    ∷ record { lent = map_a; ask = key (Open Postfix 2 4) (0 ∷ 9 ∷ []); says = 0 ∷ 1 ∷ [] }
    ∷ record { lent = map_a; ask = key_into (Open Postfix 2 4) (0 ∷ 9 ∷ []); says = 98 ∷ 9 ∷ [] }
    ∷ record { lent = map_a; ask = key (Open Predictive 2 4) (0 ∷ []); says = 8 ∷ [] }
    ∷ record { lent = map_a; ask = key (Open Predictive 2 0) []; says = 7 ∷ [] }
    ∷ record { lent = map_a; ask = key (Open Predictive 3 4) []; says = 7 ∷ [] }
    ∷ record { lent = map_a; ask = key (Open Postfix 4 4) []; says = 7 ∷ [] }
    ∷ record { lent = map_a; ask = key (Finished Postfix) []; says = 7 ∷ [] }
    ∷ record { lent = damaged; ask = key (Finished Postfix) []; says = 6 ∷ [] }
    ∷ record { lent = empty_map; ask = start Predictive []; says = 0 ∷ 0 ∷ [] }
    ∷ record { lent = map_a; ask = start Predictive []; says = 0 ∷ 0 ∷ 1 ∷ 0 ∷ [] }
    ∷ record { lent = map_a; ask = step (Open Predictive 1 0); says = 0 ∷ 4 ∷ 7 ∷ 0 ∷ 1 ∷ 4 ∷ [] }
    ∷ record { lent = map_a; ask = step (Open Predictive 1 4); says = 0 ∷ 3 ∷ 3 ∷ 0 ∷ 1 ∷ 3 ∷ [] }
    ∷ record { lent = map_a; ask = step (Open Predictive 1 3); says = 0 ∷ 0 ∷ 0 ∷ [] }
    ∷ record { lent = map_a; ask = start Predictive (97 ∷ 98 ∷ []); says = 0 ∷ 0 ∷ 4 ∷ 0 ∷ [] }
    ∷ record { lent = map_a; ask = step (Open Predictive 4 0); says = 0 ∷ 4 ∷ 7 ∷ 0 ∷ 4 ∷ 4 ∷ [] }
    ∷ record { lent = map_a; ask = step (Open Predictive 4 4); says = 0 ∷ 0 ∷ 0 ∷ [] }
    ∷ record { lent = map_a; ask = start Postfix (97 ∷ 98 ∷ []); says = 0 ∷ 1 ∷ [] }
    ∷ record { lent = map_a; ask = step (Finished Postfix); says = 0 ∷ 0 ∷ 1 ∷ [] }
    ∷ record { lent = map_a; ask = step (Open Postfix 4 0); says = 0 ∷ 0 ∷ 1 ∷ [] }
    ∷ record { lent = map_a; ask = step (Open Postfix 4 4); says = 7 ∷ [] }
    ∷ record { lent = map_a; ask = step (Open Predictive 1 2); says = 7 ∷ [] }
    ∷ record { lent = map_a; ask = step (Open Predictive 5 0); says = 7 ∷ [] }
    ∷ record { lent = damaged; ask = step (Finished Predictive); says = 6 ∷ [] }
    ∷ []

pub worked-listings : map (λ (l : Line). answer l.lent l.ask) lines ≡ map (λ (l : Line). l.says) lines
unfolding answer empty_map map_a damaged lines compare_keys begins_with extends lookup keep beginning longer level deepest levels prefixes nodes is_node path_of bit table unpack degrees_from list_forest list_tree width take_trees drop_trees claim rebuild rows_from degrees_in rows_in decode image_map entry_fits labels_rise one_fits childless_fits bit_fits passes_from lengths_fit ends_fit image_test index_of node_of least_above belongs start_says step_says key_says key_out over
worked-listings = refl
