-- What a history leaves, by the pool's words and by the map, and the image that a build leaves in the lent buffers.
-- Assumes nothing.
use Rattle.std.specs.Prelude.{ℕ, List, [], take}
use Rattle.keymap.specs.Map.{Map}
use Rattle.keymap.specs.Bits.{words_for}
use Rattle.keymap.specs.Image.{Image, bits_for}
use Rattle.records.specs.Words.{Pool, capacity}
use Rattle.pool.specs.Reset.{reset_pool}
use Rattle.pool.specs.History.{run_pool, map_run}
use Rattle.image.specs.History.{Call, pool_calls}
use Rattle.image.specs.Build.{build_labels, build_values, build_words}

-- the pool p after a reset and then the calls
abbrev pub pool_after : Pool → List Call → Pool
pool_after p cs = run_pool (reset_pool p) (pool_calls cs)

-- the keys that were accepted since the last reset, each with its last value
abbrev pub map_after : Pool → List Call → Map
map_after p cs = map_run (capacity p) [] (pool_calls cs)

-- the leading parts of the buffers that a build with n nodes leaves: n label entries, n values and the words of 2n + 3
-- bits
unfoldable pub built_image : ℕ → Pool → (labels values words scratch : List ℕ) → Image
built_image n p ls vs ws qs = record {
  labels = take n (build_labels p ls vs ws qs);
  values = take n (build_values p ls vs ws qs);
  words = take (words_for (bits_for n)) (build_words p ls vs ws qs);
}
