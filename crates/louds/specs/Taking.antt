-- Ones taken away from the bottom of a word, as the code does it for any numbers handed in; proofs/Laws/Taking has what
-- it is where the sums are the word's own.
--
--     cleared      a word without its n lowest ones
--     ones_from    and without those before its j-th, by its ones up to the end of each byte
-- Assumes nothing.
use Rattle.std.specs.Prelude.{ℕ, zero, suc, ◌+◌, ◌-◌, ◌*◌, ◌/◌, ◌%◌, ◌^◌, bit_and}
use Rattle.std.specs.Int.Count.{count_trailing_zeros}
use Rattle.keymap.specs.Limits.{word_bits}
use Rattle.louds.specs.Digits.{complement, above}

-- the lowest bit of each byte of a word, the highest, and 127 in each byte less the complement of 0
abbrev pub low_bits : ℕ
low_bits = 72340172838076673

abbrev pub top_bits : ℕ
top_bits = 9259542123273814144

abbrev pub most_less : ℕ
most_less = 9187201950435737472

unfoldable pub cleared : ℕ → ℕ → ℕ
cleared zero x = x
cleared (suc n) x = cleared n (bit_and x (x - 1))

-- 127, less the ones before each byte, and j, in that byte
abbrev pub fewer_by : ℕ → ℕ → ℕ
fewer_by sums j =
    ((complement (sums * 2 ^ 8 % 2 ^ word_bits) + most_less) % 2 ^ word_bits + j % 256 * low_bits) % 2 ^ word_bits

-- where the byte before the first begins that has j ones before it, or the last
abbrev pub byte_start : ℕ → ℕ
byte_start fewer = bit_and (count_trailing_zeros word_bits (bit_and (complement fewer) top_bits) + 56) 56

unfoldable pub ones_from : ℕ → ℕ → ℕ → ℕ
ones_from x sums j =
    cleared (fewer_by sums j / 2 ^ byte_start (fewer_by sums j) % 128)
    (above x (byte_start (fewer_by sums j)) % 2 ^ word_bits)
