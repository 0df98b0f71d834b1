-- The digits of a word: digit t is the bit at place t, counted from the lowest.
--
--     complement   a word with every bit the other way
--     above        a word without its q lowest digits
-- Assumes nothing.
use Rattle.std.specs.Prelude.{ℕ, ◌-◌, ◌*◌, ◌/◌, ◌%◌, ◌^◌}
use Rattle.keymap.specs.Limits.{word_bits}

abbrev pub digit : ℕ → ℕ → ℕ
digit x t = x / 2 ^ t % 2

abbrev pub complement : ℕ → ℕ
complement x = 2 ^ word_bits - 1 - x

abbrev pub above : ℕ → ℕ → ℕ
above x q = x / 2 ^ q * 2 ^ q
