-- Bits in words (01, "The image"): bit i of a sequence has weight 2^(i mod 64) in word i/64, and the bits that the last
-- word does not use are 0.
-- A bit is the number 0 or 1.
--
--     bit           the bit of some words at a place
--     sum_below     f 0 + f 1 + .. + f (n - 1)
--     table         f from an index on, as a list
--     pack          the words of a list of bits
-- Assumes nothing.
use Rattle.std.specs.Prelude.{ℕ, zero, suc, ◌+◌, ◌*◌, ◌/◌, ◌%◌, ◌^◌, ◌-◌, List, [], ◌∷◌, length, get_or}
use Rattle.keymap.specs.Limits.{word_bits}

-- beyond the last word every bit is 0
unfoldable pub bit : List ℕ → ℕ → ℕ
bit ws i = get_or ws (i / word_bits) 0 / 2 ^ (i % word_bits) % 2

unfoldable pub sum_below : (ℕ → ℕ) → ℕ → ℕ
sum_below f zero = zero
sum_below f (suc n) = sum_below f n + f n

unfoldable pub table : (ℕ → ℕ) → ℕ → ℕ → List ℕ
table f i zero = []
table f i (suc n) = f i ∷ table f (suc i) n

-- the number whose lowest d binary digits are b 0, b 1, ..
unfoldable pub number : (ℕ → ℕ) → ℕ → ℕ
number b d = sum_below (λ j. b j * 2 ^ j) d

-- how many words some bits take
abbrev pub words_for : ℕ → ℕ
words_for n = (n + (word_bits - 1)) / word_bits

unfoldable pub pack : List ℕ → List ℕ
pack xs = table (λ w. number (λ j. get_or xs (w * word_bits + j) 0) word_bits) 0 (words_for (length xs))

-- the first n bits of some words
unfoldable pub unpack : ℕ → List ℕ → List ℕ
unpack n ws = table (bit ws) 0 n
