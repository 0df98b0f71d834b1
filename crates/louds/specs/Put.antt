-- Setting one bit of some words (01, "The image": bit i has weight 2^(i mod 64) in word i/64).
-- Assumes nothing.
use Rattle.std.specs.Prelude.{ℕ, ◌/◌, ◌%◌, ◌^◌, List, bit_or, slice_index, slice_set}
use Rattle.keymap.specs.Limits.{word_bits}

-- the words with bit p a one; unchanged where p is beyond the last word
unfoldable pub with_one : List ℕ → ℕ → List ℕ
with_one ws p = slice_set ws (p / word_bits) (bit_or (slice_index ws (p / word_bits)) (2 ^ (p % word_bits)))
