-- 01's worked lines on these searches, one statement over one table: the empty map, A ("ab" 7, "b" 3), and A's slices with one bit more, which are no map's image.
-- What is computed is what the calls' contracts cite: the image test, the map that the image stands for, and the query on it. Assumes nothing.
use mathlib.Core.Path.{◌≡◌, refl}
use Prim.Native.Nat.{ℕ}
use mathlib.Core.List.{List, [], ◌∷◌, map}
use Rattle.keymap.specs.Key.{Key, compare_keys, begins_with, extends, common_prefix}
use Rattle.keymap.specs.Buffers.{over}
use Rattle.keymap.specs.Map.{lookup}
use Rattle.keymap.specs.Queries.{keep, beginning, longer, is_prefix_in, common_of_all, longest_prefix_in, common_prefix_in}
use Rattle.keymap.specs.Bits.{bit, table, unpack}
use Rattle.keymap.specs.Forest.{list_forest, list_tree, width}
use Rattle.keymap.specs.Image.{Image}
use Rattle.keymap.specs.Decode.{take_trees, drop_trees, claim, rebuild, rows_from, degrees_in, rows_in, decode, image_map}
use Rattle.keymap.specs.Degrees.{degrees_from}
use Rattle.image.specs.AcceptTest.{entry_fits, labels_rise, one_fits, childless_fits, bit_fits, passes_from, lengths_fit, ends_fit, image_test}
use Rattle.searches.specs.Exact.{exact_says, is_prefix_says}
use Rattle.searches.specs.CommonPrefixes.{common_says, common_part}
use Rattle.searches.specs.Prefix.{longest_says, longest_out}

-- a call with what it is asked
pub data Ask : Type 0 where
  exact : Key → Ask
  is_prefix : Key → Ask
  common : Key → ℕ → Ask
  part : Key → ℕ → Ask
  longest : Key → List ℕ → Ask
  longest_into : Key → List ℕ → Ask

unfoldable pub answer : Image → Ask → List ℕ
answer i (exact q) = exact_says i q
answer i (is_prefix q) = is_prefix_says i q
answer i (common q seen) = common_says i q seen
answer i (part q seen) = common_part i q seen
answer i (longest q out) = longest_says i q out
answer i (longest_into q out) = longest_out i q out

pub record Line : Type 0 where
  pub lent : Image
  pub ask : Ask
  pub says : List ℕ

unfoldable empty_map : Image
empty_map = record { labels = []; values = []; words = 1 ∷ [] }

unfoldable map_a : Image
map_a = record { labels = 97 ∷ 354 ∷ 354 ∷ []; values = 0 ∷ 3 ∷ 7 ∷ []; words = 45 ∷ [] }

unfoldable damaged : Image
damaged = record { labels = 97 ∷ 354 ∷ 354 ∷ []; values = 0 ∷ 3 ∷ 7 ∷ []; words = 47 ∷ [] }

pub lines : List Line
lines =
    record { lent = empty_map; ask = is_prefix []; says = 0 ∷ [] }
    ∷ record { lent = map_a; ask = is_prefix []; says = 0 ∷ 1 ∷ [] }
    ∷ record { lent = map_a; ask = is_prefix (97 ∷ 98 ∷ []); says = 0 ∷ [] }
    ∷ record { lent = map_a; ask = exact []; says = 0 ∷ [] }
    ∷ record { lent = map_a; ask = exact (97 ∷ []); says = 0 ∷ [] }
    ∷ record { lent = map_a; ask = exact (97 ∷ 98 ∷ []); says = 0 ∷ 7 ∷ [] }
    ∷ record { lent = map_a; ask = exact (98 ∷ []); says = 0 ∷ 3 ∷ [] }
    ∷ record { lent = map_a; ask = common (97 ∷ 98 ∷ 99 ∷ []) 0; says = 0 ∷ 2 ∷ 7 ∷ [] }
    ∷ record { lent = map_a; ask = common (97 ∷ 98 ∷ 99 ∷ []) 2; says = 0 ∷ [] }
    ∷ record { lent = map_a; ask = part (97 ∷ 98 ∷ 99 ∷ []) 0; says = 97 ∷ 98 ∷ [] }
    ∷ record { lent = map_a; ask = part (97 ∷ 98 ∷ 99 ∷ []) 2; says = [] }
    ∷ record { lent = map_a; ask = longest [] []; says = 0 ∷ [] }
    ∷ record { lent = map_a; ask = longest (97 ∷ []) (0 ∷ 0 ∷ 9 ∷ []); says = 0 ∷ 2 ∷ [] }
    ∷ record { lent = map_a; ask = longest_into (97 ∷ []) (0 ∷ 0 ∷ 9 ∷ []); says = 97 ∷ 98 ∷ 9 ∷ [] }
    ∷ record { lent = map_a; ask = longest (97 ∷ []) (0 ∷ []); says = 8 ∷ [] }
    ∷ record { lent = map_a; ask = longest_into (97 ∷ []) (0 ∷ []); says = 0 ∷ [] }
    ∷ record { lent = map_a; ask = longest (97 ∷ 99 ∷ []) []; says = 0 ∷ [] }
    ∷ record { lent = damaged; ask = longest [] []; says = 6 ∷ [] }
    ∷ record { lent = damaged; ask = exact []; says = 6 ∷ [] }
    ∷ record { lent = damaged; ask = common [] 0; says = 6 ∷ [] }
    ∷ []

pub worked-searches : map (λ (l : Line). answer l.lent l.ask) lines ≡ map (λ (l : Line). l.says) lines
unfolding answer empty_map map_a damaged lines compare_keys begins_with extends common_prefix lookup keep beginning longer is_prefix_in common_of_all longest_prefix_in common_prefix_in bit table unpack degrees_from list_forest list_tree width take_trees drop_trees claim rebuild rows_from degrees_in rows_in decode image_map entry_fits labels_rise one_fits childless_fits bit_fits passes_from lengths_fit ends_fit image_test exact_says is_prefix_says common_says common_part longest_says longest_out over
worked-searches = refl
