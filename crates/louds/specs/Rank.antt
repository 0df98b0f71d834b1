-- Ranks (01, "The image"): how many ones, and how many zeros, stand before a place.
-- Bits are a function b from places to 0 or 1: `bit ws` for the bits of some words.
-- Assumes nothing.
use Rattle.std.specs.Prelude.{ℕ, ◌-◌}
use Rattle.keymap.specs.Bits.{sum_below}

-- 1 where there is a zero
unfoldable pub gap : (ℕ → ℕ) → ℕ → ℕ
gap b i = 1 - b i

abbrev pub ones_before : (ℕ → ℕ) → ℕ → ℕ
ones_before b i = sum_below b i

abbrev pub zeros_before : (ℕ → ℕ) → ℕ → ℕ
zeros_before b i = sum_below (gap b) i
