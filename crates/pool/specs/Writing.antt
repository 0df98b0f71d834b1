-- Words that are written: "linked among siblings in label order, and sets the last record's value and mark" (01).
--
--     Inside        all of a record lies in the pool
--     filled        a record with all five words written
--     linked        a record hooked in among siblings
--     marked        a record given its mark and a value
-- Assumes nothing.
use Rattle.std.specs.Prelude.{ℕ, ◌+◌, ◌*◌, ◌<◌, cond, length, eqb}
use Rattle.keymap.specs.Label.{mark}
use Rattle.records.specs.Words.{Pool, record_words, put, label}

abbrev pub Inside : Pool → ℕ → Type 0
Inside p c = record_words * c + 4 < length p

-- label b and no value, no child, next sibling x, parent i
unfoldable pub filled : Pool → (c b x i : ℕ) → Pool
filled p c b x i = put (put (put (put (put p c 0 b) c 1 0) c 2 0) c 3 x) c 4 i

-- m is the sibling after a or, where a is 0, the first child of i
unfoldable pub linked : Pool → (i a m : ℕ) → Pool
linked p i a m = cond (eqb a 0) (put p i 2 m) (put p a 3 m)

-- the label stays
unfoldable pub marked : Pool → (c v : ℕ) → Pool
marked p c v = put (put p c 0 (label p c + mark)) c 1 v
