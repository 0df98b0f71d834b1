-- 01's worked lines on images, one statement over one table: the empty map, A ("ab" 7, "b" 3), B (the same pushes the other way round), A with "ab" pushed twice,
-- and the five fruit keys of `src/map/trie.rs` ("a" 0, "app" 1, "apple" 2, "better" 3, "application" 4), whose 18 nodes have 39 bits and whose "a" has the value 0. Assumes nothing.
use mathlib.Core.Path.{◌≡◌, refl}
use Prim.Native.Nat.{ℕ}
use mathlib.Core.List.{List, [], ◌∷◌, map}
use Rattle.keymap.specs.Map.{Entry, insert_all, insert, lookup}
use Rattle.keymap.specs.Key.{compare_keys, begins_with}
use Rattle.keymap.specs.Queries.{keep}
use Rattle.keymap.specs.Prefixes.{level, deepest, levels, prefixes}
use Rattle.keymap.specs.Bits.{sum_below, number, table, pack}
use Rattle.keymap.specs.Degrees.{unary, sequence}
use Rattle.keymap.specs.Image.{Image, children_in, degree, image_bits, image_labels, image_values, image}

pub record Line : Type 0 where
  pub pushes : List Entry
  pub has : Image

ab : List ℕ
ab = 97 ∷ 98 ∷ []

b : List ℕ
b = 98 ∷ []

image_a : Image
image_a = record { labels = 97 ∷ 354 ∷ 354 ∷ []; values = 0 ∷ 3 ∷ 7 ∷ []; words = 45 ∷ [] }

-- 97 is "a"
fruit : List Entry
fruit =
    (97 ∷ [], 0)
    ∷ (97 ∷ 112 ∷ 112 ∷ [], 1)
    ∷ (97 ∷ 112 ∷ 112 ∷ 108 ∷ 101 ∷ [], 2)
    ∷ (98 ∷ 101 ∷ 116 ∷ 116 ∷ 101 ∷ 114 ∷ [], 3)
    ∷ (97 ∷ 112 ∷ 112 ∷ 108 ∷ 105 ∷ 99 ∷ 97 ∷ 116 ∷ 105 ∷ 111 ∷ 110 ∷ [], 4)
    ∷ []

image_fruit : Image
image_fruit = record {
  labels = 353 ∷ 98 ∷ 112 ∷ 101 ∷ 368 ∷ 116 ∷ 108 ∷ 116 ∷ 357 ∷ 105 ∷ 101 ∷ 99 ∷ 370 ∷ 97 ∷ 116 ∷ 105 ∷ 111 ∷ 366 ∷ [];
  values = 0 ∷ 0 ∷ 0 ∷ 0 ∷ 1 ∷ 0 ∷ 0 ∷ 0 ∷ 2 ∷ 0 ∷ 0 ∷ 0 ∷ 3 ∷ 0 ∷ 0 ∷ 0 ∷ 0 ∷ 4 ∷ [];
  words = 91445701293 ∷ [];
}

pub lines : List Line
lines =
    record { pushes = []; has = record { labels = []; values = []; words = 1 ∷ [] } }
    ∷ record { pushes = (ab, 7) ∷ (b, 3) ∷ []; has = image_a }
    ∷ record { pushes = (b, 3) ∷ (ab, 7) ∷ []; has = image_a }
    ∷ record { pushes = (ab, 1) ∷ (b, 3) ∷ (ab, 7) ∷ []; has = image_a }
    ∷ record { pushes = fruit; has = image_fruit }
    ∷ []

pub worked-images : map (λ (l : Line). image (insert_all l.pushes [])) lines ≡ map (λ (l : Line). l.has) lines
unfolding lines ab b image_a fruit image_fruit insert_all insert lookup compare_keys begins_with keep level deepest levels prefixes sum_below number table pack unary sequence children_in degree image_bits image_labels image_values image
worked-images = refl
