-- The words of a pool (01, "The pool"): five to the record, record 0 the root. Words beyond the last whole record are
-- surplus.
--
--     word                     of a record in use                 of the root
--     0      label, plus 256 if it has a value  the number n of other records in use
--     1      value, 0 if none  0
--     2      first child, 0 if none  first child, 0 if none
--     3      next sibling, 0 if none  0
--     4      parent            0
--
--     word, put     a word of a record; the pool with another word there
--     last_record   the highest record that may be in use; records above it may hold anything
--     used_count    how many records are in use, the root left out
--     InUse         a record is in use
--     Node          a record is the root or in use
--     next_record   the record that is taken next
--     taken         the pool with the root's words brought up to date: a record is taken
--     Bounded       every word is of 32 bits
--     capacity      how many records besides the root there may be
-- Assumes nothing.
use Rattle.std.specs.Prelude.{ℕ, ◌+◌, ◌-◌, ◌*◌, ◌/◌, ◌<◌, ◌≤◌, min, ◌≡◌, ◌⊎◌, List, length, get_or, set, Option}
use Rattle.keymap.specs.Limits.{most_records, value_limit}
use Rattle.keymap.specs.Label.{label_in, value_in}

abbrev pub Pool : Type 0
Pool = List ℕ

-- how many words a record has
abbrev pub record_words : ℕ
record_words = 5

-- word k of record c; beyond the pool's end every word is 0
unfoldable pub word : Pool → ℕ → ℕ → ℕ
word p c k = get_or p (record_words * c + k) 0

unfoldable pub put : Pool → (c k v : ℕ) → Pool
put p c k v = set p (record_words * c + k) v

-- the label, plus 256 if the record has a value
abbrev pub entry : Pool → ℕ → ℕ
entry p c = word p c 0

abbrev pub label : Pool → ℕ → ℕ
label p c = label_in (entry p c)

-- the value word; that it is 0 does not tell that there is no value
abbrev pub value : Pool → ℕ → ℕ
value p c = word p c 1

-- the value, if the record is marked as having one
abbrev pub record_value : Pool → ℕ → Option ℕ
record_value p c = value_in (entry p c) (value p c)

abbrev pub first_child : Pool → ℕ → ℕ
first_child p c = word p c 2

abbrev pub next_sibling : Pool → ℕ → ℕ
next_sibling p c = word p c 3

abbrev pub parent : Pool → ℕ → ℕ
parent p c = word p c 4

unfoldable pub last_record : Pool → ℕ
last_record p = word p 0 0

-- records are taken in order and never given back
unfoldable pub used_count : Pool → ℕ
used_count p = last_record p

abbrev pub InUse : Pool → ℕ → Type 0
InUse p c = (0 < c) × (c ≤ last_record p)

abbrev pub Node : Pool → ℕ → Type 0
Node p c = (c ≡ 0) ⊎ InUse p c

unfoldable pub next_record : Pool → ℕ
next_record p = last_record p + 1

unfoldable pub taken : Pool → ℕ → Pool
taken p m = put p 0 0 m

-- every word is of 32 bits, as the words of a lent slice are
abbrev pub Bounded : Pool → Type 0
Bounded p = (c k : ℕ) → word p c k < value_limit

-- the smaller of 4,096 and (length / 5, rounded down) - 1
abbrev pub capacity : Pool → ℕ
capacity p = min most_records (length p / record_words - 1)
