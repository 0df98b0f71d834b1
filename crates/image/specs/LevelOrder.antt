-- The records of a pool in level order, by a queue: the children of the root, then the children of each of these in
-- turn (01, "in breadth-first order").
--
--     child_records     the children of a record, along their chain
--     level_records     the records in use in level order: node j + 2 is the record at index j
--     pool_labels       the label entry of each
--     pool_values       the value of each
--     pool_words        the words of the root's degree and of theirs
--     pool_image        the three as an image
-- Assumes nothing.
use Rattle.std.specs.Prelude.{ℕ, zero, suc, cond, List, [], ◌∷◌, ◌++◌, map, length, eqb}
use Rattle.keymap.specs.Bits.{pack}
use Rattle.keymap.specs.Degrees.{sequence}
use Rattle.keymap.specs.Image.{Image}
use Rattle.records.specs.Words.{Pool, entry, value, first_child, next_sibling, used_count}

-- the siblings from record x on, within f steps
unfoldable pub sibling_records : Pool → (f x : ℕ) → List ℕ
sibling_records p zero x = []
sibling_records p (suc f) x = cond (eqb x 0) [] (x ∷ sibling_records p f (next_sibling p x))

unfoldable pub child_records : Pool → ℕ → List ℕ
child_records p c = sibling_records p (used_count p) (first_child p c)

-- the first m that a queue of records gives: the first of it is taken, and its children are put behind the others
unfoldable pub taken_from : Pool → ℕ → List ℕ → List ℕ
taken_from p zero q = []
taken_from p (suc m) [] = []
taken_from p (suc m) (c ∷ q) = c ∷ taken_from p m (q ++ child_records p c)

unfoldable pub level_records : Pool → List ℕ
level_records p = taken_from p (used_count p) (child_records p 0)

unfoldable pub record_degree : Pool → ℕ → ℕ
record_degree p c = length (child_records p c)

unfoldable pub pool_labels : Pool → List ℕ
pool_labels p = map (entry p) (level_records p)

unfoldable pub pool_values : Pool → List ℕ
pool_values p = map (value p) (level_records p)

unfoldable pub pool_words : Pool → List ℕ
pool_words p = pack (sequence (map (record_degree p) (0 ∷ level_records p)))

abbrev pub pool_image : Pool → Image
pool_image p = record { labels = pool_labels p; values = pool_values p; words = pool_words p }
