-- What the uses are about: the map that A's pushes ("ab" 7, "b" 3) and B's ("b" 3, "ab" 7) leave, pools of different lengths, buffers, and three slices that no map has.
-- Assumes nothing.
use Prim.Native.Nat.{ℕ, zero, suc, ◌+◌, ◌*◌, ◌≤◌, ◌<◌, ◌^◌}
use mathlib.Core.Path.{◌≡◌, refl}
use mathlib.Core.Bool.{Bool, true, ◌&&◌, and-eq-true_iff}
use mathlib.Core.List.{List, [], ◌∷◌, cons-ne-nil}
use native.Mathlib.Omega.{arith}
use lib.ListN.{length, replicate, get_or}
use lib.Dec.{ltb}
use borrow.Author.Tests.{ltb-true}
use Rattle.keymap.specs.Limits.{value_limit, word_bits}
use Rattle.keymap.specs.Key.{Key, compare_keys, begins_with}
use Rattle.keymap.specs.Map.{Map, Catalogue, insert, lookup}
use Rattle.keymap.specs.Queries.{keep, beginning}
use Rattle.keymap.specs.Prefixes.{level, deepest, levels, prefixes}
use Rattle.keymap.specs.Bits.{sum_below, table, number, pack}
use Rattle.keymap.specs.Degrees.{unary, sequence}
use Rattle.keymap.specs.Forest.{list_forest, list_tree}
use Rattle.keymap.specs.Paths.{nodes}
use Rattle.keymap.specs.Image.{Image, children_in, degree, image_bits, image_labels, image_values, image}
use Rattle.records.specs.Words.{Pool, Bounded, record_words, word, last_record, used_count}
use Rattle.records.specs.Sound.{Sound}
use Rattle.records.specs.SoundTest.{both, words_fit, record_fits, is_child, chain_rest, record_rest, pass_rest, root_fits, sound_test}
use Rattle.records.specs.Meaning.{siblings_from, forest_below, pool_forest, pool_map}
use Rattle.records.proofs.Laws.SoundTest.{test-sound}
use Rattle.pool.specs.History as pools
use Rattle.pool.specs.History.{AllLent, map_run}
use Rattle.image.specs.Accept.{LentSlices}
use Rattle.image.specs.History.{Call, pool_calls}
use Rattle.theorems.specs.Built.{map_after}

abbrev pub a : Key
a = 97 ∷ []

abbrev pub ab : Key
ab = 97 ∷ 98 ∷ []

abbrev pub abc : Key
abc = 97 ∷ 98 ∷ 99 ∷ []

abbrev pub ac : Key
ac = 97 ∷ 99 ∷ []

abbrev pub ax : Key
ax = 97 ∷ 120 ∷ []

abbrev pub b : Key
b = 98 ∷ []

abbrev pub c : Key
c = 99 ∷ []

-- ---- the map and its image

abbrev pub map_a : Map
map_a = (ab, 7) ∷ (b, 3) ∷ []

pub catalogue_a : Catalogue map_a
unfolding compare_keys
catalogue_a = record {
  rising = (refl, (tt, tt));
  proper = (cons-ne-nil 97 b, (omega arith, (omega arith, tt)), omega arith, (cons-ne-nil 98 [], (omega arith, tt), omega arith, tt));
}

pub prefixes_a : length (prefixes map_a) ≡ 3
unfolding prefixes levels level deepest compare_keys
prefixes_a = refl

-- three nodes besides the root
abbrev pub image_a : Image
image_a = record { labels = 97 ∷ 354 ∷ 354 ∷ []; values = 0 ∷ 3 ∷ 7 ∷ []; words = 45 ∷ [] }

pub image_a-is : image map_a ≡ image_a
unfolding image image_labels image_values image_bits degree children_in nodes prefixes levels level deepest compare_keys lookup begins_with beginning keep pack number table sum_below unary sequence
image_a-is = refl

-- the first bit is 0
abbrev pub damaged : Image
damaged = record { labels = []; values = []; words = 0 ∷ [] }

-- every number of a list is below n
unfoldable all_below : ℕ → List ℕ → Bool
all_below n [] = true
all_below n (x ∷ xs) = ltb x n && all_below n xs

below_at : (n : ℕ) → 0 < n → (xs : List ℕ) → all_below n xs ≡ true → (i : ℕ) → get_or xs i 0 < n
unfolding all_below
below_at n z [] h i = z
below_at n z (x ∷ xs) h zero = ltb-true _ _ ((and-eq-true_iff (ltb x n) (all_below n xs)).0 h).0
below_at n z (x ∷ xs) h (suc i) = below_at n z xs ((and-eq-true_iff (ltb x n) (all_below n xs)).0 h).1 i

pub lent_a : LentSlices image_a
unfolding all_below
lent_a = record { words-wide = below_at (2 ^ word_bits) (omega arith) (45 ∷ []) refl; values-wide = below_at value_limit (omega arith) (0 ∷ 3 ∷ 7 ∷ []) refl }

pub damaged-lent : LentSlices damaged
unfolding all_below
damaged-lent = record { words-wide = below_at (2 ^ word_bits) (omega arith) (0 ∷ []) refl; values-wide = below_at value_limit (omega arith) [] refl }

-- ---- pools and calls

-- capacity 3, and three words of surplus
abbrev pub pool_a : Pool
pool_a = replicate 23 9

-- capacity 5
abbrev pub pool_b : Pool
pool_b = replicate 31 5

-- the words that A's pushes leave in a pool of capacity 3
abbrev pub words_a : Pool
words_a = 3 ∷ 0 ∷ 1 ∷ 0 ∷ 0 ∷ 97 ∷ 0 ∷ 2 ∷ 3 ∷ 0 ∷ 354 ∷ 7 ∷ 0 ∷ 0 ∷ 1 ∷ 354 ∷ 3 ∷ 0 ∷ 0 ∷ 0 ∷ []

abbrev pub push : Key → ℕ → Call
push k v = Call.on_pool (pools.PoolCall.push k v)

abbrev pub use_count : Call
use_count = Call.on_pool pools.PoolCall.use_count

abbrev pub calls_a : List Call
calls_a = push ab 7 ∷ push b 3 ∷ []

abbrev pub calls_b : List Call
calls_b = push b 3 ∷ push ab 7 ∷ []

pub calls_a-lent : AllLent (pool_calls calls_a)
unfolding pool_calls
calls_a-lent = (((omega arith, (omega arith, tt)), omega arith), (((omega arith, tt), omega arith), tt))

pub calls_b-lent : AllLent (pool_calls calls_b)
unfolding pool_calls
calls_b-lent = (((omega arith, tt), omega arith), (((omega arith, (omega arith, tt)), omega arith), tt))

pub rooted_a : record_words ≤ length pool_a
rooted_a = omega arith

pub rooted_b : record_words ≤ length pool_b
rooted_b = omega arith

-- both leave one map
pub map_after_a : map_after pool_a calls_a ≡ map_a
unfolding pool_calls map_run insert compare_keys prefixes levels level deepest
map_after_a = refl

pub map_after_b : map_after pool_b calls_b ≡ map_a
unfolding pool_calls map_run insert compare_keys prefixes levels level deepest
map_after_b = refl

pub words_a-bounded : Bounded words_a
unfolding word all_below
words_a-bounded c k = below_at value_limit (omega arith) words_a refl (record_words * c + k)

pub words_a-sound : Sound words_a
unfolding sound_test root_fits pass_rest record_rest chain_rest is_child record_fits words_fit both word last_record used_count
words_a-sound = test-sound words_a refl

pub words_a-map : pool_map words_a ≡ map_a
unfolding pool_map pool_forest forest_below siblings_from list_tree list_forest word last_record
words_a-map = refl

-- buffers for three nodes and more, which held other things
abbrev pub four : List ℕ
four = replicate 4 9

abbrev pub two : List ℕ
two = replicate 2 9
