-- 01's worked lines on places, one statement over one table: the empty map, A ("ab" 7, "b" 3), "a" 1 with "ab" 2, and A's slices with one bit more, which are no map's image.
-- What is computed is what the calls' contracts cite: the image test, the map that the image stands for, and the answer and the move on it. Then the moves on numbers
-- that the calls make once they have tested, by the rule of a walk: on the same maps, from numbers that are no node's, and on the slices that are no map's image.
-- Assumes nothing.
use mathlib.Core.Path.{◌≡◌, refl}
use Prim.Native.Nat.{ℕ}
use mathlib.Core.List.{List, [], ◌∷◌, map}
use Rattle.keymap.specs.Key.{Key, compare_keys, begins_with, extends, common_prefix}
use Rattle.keymap.specs.Buffers.{over}
use Rattle.keymap.specs.Map.{lookup}
use Rattle.keymap.specs.Queries.{keep, beginning, longer, is_prefix_in, common_of_all}
use Rattle.keymap.specs.Prefixes.{level, deepest, levels, prefixes}
use Rattle.keymap.specs.Paths.{nodes, is_node, path_of, index_of, node_of}
use Rattle.keymap.specs.Bits.{bit, sum_below, table, unpack}
use Rattle.keymap.specs.Degrees.{degrees_from}
use Rattle.keymap.specs.Forest.{list_forest, list_tree, width}
use Rattle.keymap.specs.Image.{Image}
use Rattle.keymap.specs.Decode.{take_trees, drop_trees, claim, rebuild, rows_from, degrees_in, rows_in, decode, image_map}
use Rattle.louds.specs.Rank.{gap}
use Rattle.louds.specs.Select.{kth, onward}
use Rattle.louds.specs.Nodes.{run_from, children_of}
use Rattle.image.specs.AcceptTest.{entry_fits, labels_rise, one_fits, childless_fits, bit_fits, passes_from, lengths_fit, ends_fit, image_test}
use Rattle.walks.specs.Rule.{matches, is_child_by, lowest_by, child_by, value_of_node}
use Rattle.walks.specs.Stands.{is_stand, kids_from, kid_from}
use Rattle.walks.specs.Glide.{goes_through, only_kid, glides, glided_from}
use Rattle.places.specs.Places.{resume_says, value_says, prefix_len_says, prefix_says, prefix_out}
use Rattle.places.specs.Incremental.{said_queried, said_followed, said_gone, path_says, query_says, query_moves, walkable, follow_says, follow_moves, goto_says, goto_moves}
use Rattle.places.specs.Moves.{place_number, answer_by, query_by, follow_from, follow_by, goto_by}

-- a call with what it is asked
pub data Ask : Type 0 where
  resume : ℕ → Ask
  value : ℕ → Ask
  prefix_len : ℕ → Ask
  prefix : ℕ → List ℕ → Ask
  prefix_into : ℕ → List ℕ → Ask
  query : ℕ → ℕ → Ask
  query_to : ℕ → ℕ → Ask
  until : ℕ → Key → Ask
  until_to : ℕ → Key → Ask
  goto : ℕ → Ask
  goto_to : ℕ → Ask

unfoldable pub answer : Image → Ask → List ℕ
answer i (resume k) = resume_says i k
answer i (value k) = value_says i k
answer i (prefix_len k) = prefix_len_says i k
answer i (prefix k out) = prefix_says i k out
answer i (prefix_into k out) = prefix_out i k out
answer i (query k a) = query_says i k a
answer i (query_to k a) = query_moves i k a ∷ []
answer i (until k q) = follow_says i k q
answer i (until_to k q) = follow_moves i k q ∷ []
answer i (goto k) = goto_says i k
answer i (goto_to k) = goto_moves i k ∷ []

pub record Line : Type 0 where
  pub lent : Image
  pub ask : Ask
  pub says : List ℕ

unfoldable empty_map : Image
empty_map = record { labels = []; values = []; words = 1 ∷ [] }

unfoldable map_a : Image
map_a = record { labels = 97 ∷ 354 ∷ 354 ∷ []; values = 0 ∷ 3 ∷ 7 ∷ []; words = 45 ∷ [] }

-- "a" 1, "ab" 2: a key with a single child
unfoldable nested : Image
nested = record { labels = 353 ∷ 354 ∷ []; values = 1 ∷ 2 ∷ []; words = 21 ∷ [] }

unfoldable damaged : Image
damaged = record { labels = 97 ∷ 354 ∷ 354 ∷ []; values = 0 ∷ 3 ∷ 7 ∷ []; words = 47 ∷ [] }

pub lines : List Line
lines =
    record { lent = map_a; ask = resume 4; says = 0 ∷ 4 ∷ [] }
    ∷ record { lent = map_a; ask = resume 5; says = 7 ∷ [] }
    ∷ record { lent = map_a; ask = value 1; says = 0 ∷ [] }
    ∷ record { lent = map_a; ask = prefix_len 1; says = 0 ∷ 0 ∷ [] }
    ∷ record { lent = map_a; ask = prefix 1 []; says = 0 ∷ 0 ∷ [] }
    ∷ record { lent = map_a; ask = value 4; says = 0 ∷ 7 ∷ [] }
    ∷ record { lent = map_a; ask = prefix_into 4 (0 ∷ 0 ∷ 9 ∷ []); says = 97 ∷ 98 ∷ 9 ∷ [] }
    ∷ record { lent = map_a; ask = prefix 4 (0 ∷ []); says = 8 ∷ [] }
    ∷ record { lent = map_a; ask = value 0; says = 7 ∷ [] }
    ∷ record { lent = map_a; ask = prefix 5 []; says = 7 ∷ [] }
    ∷ record { lent = empty_map; ask = goto 1; says = 0 ∷ 0 ∷ 0 ∷ [] }
    ∷ record { lent = empty_map; ask = goto_to 1; says = 1 ∷ [] }
    ∷ record { lent = map_a; ask = goto 1; says = 0 ∷ 1 ∷ 0 ∷ [] }
    ∷ record { lent = map_a; ask = goto_to 1; says = 1 ∷ [] }
    ∷ record { lent = map_a; ask = goto 2; says = 0 ∷ 0 ∷ 1 ∷ [] }
    ∷ record { lent = map_a; ask = goto_to 2; says = 4 ∷ [] }
    ∷ record { lent = map_a; ask = goto 4; says = 0 ∷ 0 ∷ 0 ∷ [] }
    ∷ record { lent = nested; ask = goto 2; says = 0 ∷ 0 ∷ 1 ∷ [] }
    ∷ record { lent = nested; ask = goto_to 2; says = 3 ∷ [] }
    ∷ record { lent = map_a; ask = until 1 (97 ∷ 120 ∷ []); says = 0 ∷ 1 ∷ 1 ∷ [] }
    ∷ record { lent = map_a; ask = until_to 1 (97 ∷ 120 ∷ []); says = 2 ∷ [] }
    ∷ record { lent = map_a; ask = until 1 (97 ∷ 98 ∷ []); says = 0 ∷ 0 ∷ 2 ∷ [] }
    ∷ record { lent = map_a; ask = until 2 []; says = 0 ∷ 1 ∷ 0 ∷ [] }
    ∷ record { lent = map_a; ask = until_to 2 []; says = 2 ∷ [] }
    ∷ record { lent = map_a; ask = query 1 97; says = 0 ∷ 1 ∷ [] }
    ∷ record { lent = map_a; ask = query_to 1 97; says = 2 ∷ [] }
    ∷ record { lent = nested; ask = query 1 97; says = 0 ∷ 3 ∷ [] }
    ∷ record { lent = map_a; ask = query 2 120; says = 0 ∷ [] }
    ∷ record { lent = map_a; ask = query_to 2 120; says = 2 ∷ [] }
    ∷ record { lent = map_a; ask = query 0 97; says = 7 ∷ [] }
    ∷ record { lent = map_a; ask = until 5 []; says = 7 ∷ [] }
    ∷ record { lent = map_a; ask = goto_to 5; says = 5 ∷ [] }
    ∷ record { lent = damaged; ask = goto 0; says = 6 ∷ [] }
    ∷ record { lent = damaged; ask = prefix 0 []; says = 6 ∷ [] }
    ∷ []

pub worked-places : map (λ (l : Line). answer l.lent l.ask) lines ≡ map (λ (l : Line). l.says) lines
unfolding answer empty_map map_a nested damaged lines compare_keys begins_with extends common_prefix lookup keep beginning longer is_prefix_in common_of_all level deepest levels prefixes nodes is_node path_of index_of node_of bit table unpack degrees_from list_forest list_tree width take_trees drop_trees claim rebuild rows_from degrees_in rows_in decode image_map entry_fits labels_rise one_fits childless_fits bit_fits passes_from lengths_fit ends_fit image_test resume_says value_says prefix_len_says prefix_says prefix_out path_says query_says query_moves walkable follow_says follow_moves goto_says goto_moves over
worked-places = refl

-- ---- the moves on numbers

pub data Move : Type 0 where
  step : ℕ → ℕ → Move
  along : ℕ → Key → Move
  down : ℕ → Move

-- where the move ends, and what it answers
unfoldable pub moved : Image → Move → List ℕ
moved i (step k a) = (query_by i k a).node ∷ said_queried (query_by i k a).answer
moved i (along k q) = (follow_by i k q).node ∷ said_followed (follow_by i k q).answer
moved i (down k) = (goto_by i k).node ∷ said_gone (goto_by i k).answer

pub record Made : Type 0 where
  pub lent : Image
  pub move : Move
  pub says : List ℕ

pub moves : List Made
moves =
    record { lent = map_a; move = step 1 97; says = 2 ∷ 0 ∷ 1 ∷ [] }
    ∷ record { lent = map_a; move = step 1 98; says = 3 ∷ 0 ∷ 2 ∷ [] }
    ∷ record { lent = nested; move = step 1 97; says = 2 ∷ 0 ∷ 3 ∷ [] }
    ∷ record { lent = map_a; move = step 2 120; says = 2 ∷ 0 ∷ [] }
    ∷ record { lent = map_a; move = along 1 (97 ∷ []); says = 2 ∷ 0 ∷ 0 ∷ 1 ∷ [] }
    ∷ record { lent = map_a; move = along 1 (97 ∷ 98 ∷ []); says = 4 ∷ 0 ∷ 0 ∷ 2 ∷ [] }
    ∷ record { lent = map_a; move = along 1 (97 ∷ 120 ∷ []); says = 2 ∷ 0 ∷ 1 ∷ 1 ∷ [] }
    ∷ record { lent = map_a; move = along 2 []; says = 2 ∷ 0 ∷ 1 ∷ 0 ∷ [] }
    ∷ record { lent = map_a; move = down 1; says = 1 ∷ 0 ∷ 1 ∷ 0 ∷ [] }
    ∷ record { lent = map_a; move = down 2; says = 4 ∷ 0 ∷ 0 ∷ 1 ∷ [] }
    ∷ record { lent = map_a; move = down 4; says = 4 ∷ 0 ∷ 0 ∷ 0 ∷ [] }
    ∷ record { lent = nested; move = down 2; says = 3 ∷ 0 ∷ 0 ∷ 1 ∷ [] }
    ∷ record { lent = map_a; move = step 0 97; says = 0 ∷ 0 ∷ [] }
    ∷ record { lent = map_a; move = along 9 (97 ∷ []); says = 9 ∷ 0 ∷ 1 ∷ 0 ∷ [] }
    ∷ record { lent = map_a; move = down 5; says = 5 ∷ 0 ∷ 0 ∷ 0 ∷ [] }
    -- a number of 33 bits is no place's
    ∷ record { lent = map_a; move = along 4294967296 []; says = 0 ∷ 0 ∷ 1 ∷ 0 ∷ [] }
    -- the only child of node 1 would have number 5, and does not count
    ∷ record { lent = damaged; move = step 1 97; says = 1 ∷ 0 ∷ [] }
    ∷ record { lent = damaged; move = down 1; says = 5 ∷ 0 ∷ 1 ∷ 1 ∷ [] }
    ∷ []

pub worked-moves : map (λ (x : Made). moved x.lent x.move) moves ≡ map (λ (x : Made). x.says) moves
unfolding moved moves map_a nested damaged place_number answer_by query_by follow_from goto_by bit sum_below gap kth onward run_from children_of matches is_child_by lowest_by child_by value_of_node is_stand kids_from kid_from goes_through only_kid glides glided_from
worked-moves = refl
