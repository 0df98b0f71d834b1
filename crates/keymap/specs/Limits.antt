-- The numbers of 01, each once.
-- Assumes nothing.
use Rattle.std.specs.Prelude.{ℕ, ◌^◌}

-- a byte, and so a label, is below this
abbrev pub byte_limit : ℕ
byte_limit = 256

-- a value is below this
abbrev pub value_limit : ℕ
value_limit = 2 ^ 32

-- the bits of one word of an image
abbrev pub word_bits : ℕ
word_bits = 64

-- records besides the root in a pool, and nodes besides the root in an image, are at most this many
abbrev pub most_records : ℕ
most_records = 4096
