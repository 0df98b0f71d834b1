-- The image of a map (01, "The image"): its trie's nodes in breadth-first order, as label entries, values and
-- level-order bits.
-- A node is the prefix that its path spells, the root the empty one; node m of 2 or more is the prefix at index m - 2
-- and has entry m - 2.
-- The map "ab" 7, "b" 3 has the nodes "a", "b", "ab"; its bits are 1 0 110 10 0 0, which are the word 45.
--
--     children_in    the children of a node
--     image_bits     1, 0, then for each node in breadth-first order one 1 per child and a 0
--     image_labels   for each node but the root its label, plus 256 if it has a value
--     image_values   for each node but the root its value, 0 if none
--     image          the three slices of the image
-- Assumes nothing.
use Rattle.std.specs.Prelude.{ℕ, suc, ◌+◌, ◌*◌, List, [], ◌∷◌, map, length}
use Rattle.keymap.specs.Key.{Key, begins_with, last_byte}
use Rattle.keymap.specs.Map.{Map, lookup}
use Rattle.keymap.specs.Queries.{keep}
use Rattle.keymap.specs.Prefixes.{level, prefixes}
use Rattle.keymap.specs.Label.{label_entry, value_word}
use Rattle.keymap.specs.Bits.{pack}
use Rattle.keymap.specs.Degrees.{sequence}

pub record Image : Type 0 where
  pub labels : List ℕ
  pub values : List ℕ
  pub words : List ℕ

-- the bits of an image of n nodes besides the root: n + 1 ones and n + 2 zeros
abbrev pub bits_for : ℕ → ℕ
bits_for n = 2 * n + 3

-- the prefixes that are one byte longer and begin with it
unfoldable pub children_in : Map → Key → List Key
children_in m p = keep (begins_with p) (level (suc (length p)) m)

unfoldable pub degree : Map → Key → ℕ
degree m p = length (children_in m p)

unfoldable pub image_bits : Map → List ℕ
image_bits m = sequence (map (degree m) ([] ∷ prefixes m))

unfoldable pub image_labels : Map → List ℕ
image_labels m = map (λ (p : Key). label_entry (last_byte p) (lookup p m)) (prefixes m)

unfoldable pub image_values : Map → List ℕ
image_values m = map (λ (p : Key). value_word (lookup p m)) (prefixes m)

unfoldable pub image : Map → Image
image m = record { labels = image_labels m; values = image_values m; words = pack (image_bits m) }
