-- The map that a sound pool holds, also one that was not reset here: "the keys its marked records spell, with their
-- values" (01).
--
--     forest_below   what hangs below a record: its children with what hangs below them
--     pool_forest    the forest that the records represent
--     pool_map       the map
--     Holds          a key is in it with a value, read off the records
-- Assumes nothing.
use Rattle.std.specs.Prelude.{ℕ, zero, suc, ◌≡◌, cond, eqb, None, Some}
use Rattle.keymap.specs.Key.{Key}
use Rattle.keymap.specs.Map.{Map}
use Rattle.keymap.specs.Forest.{Forest, empty, node, list_tree}
use Rattle.records.specs.Words.{Pool, label, record_value, first_child, next_sibling, last_record, InUse}
use Rattle.records.specs.Spelling.{Spells}

-- the siblings from record x on, within f steps, each with what `below` has under it
unfoldable pub siblings_from : Pool → (ℕ → Forest) → (f x : ℕ) → Forest
siblings_from p below zero x = empty
siblings_from p below (suc f) x =
    cond (eqb x 0) empty (node (label p x) (record_value p x) (below x) (siblings_from p below f (next_sibling p x)))

-- within f levels
unfoldable pub forest_below : ℕ → Pool → ℕ → Forest
forest_below zero p c = empty
forest_below (suc f) p c = siblings_from p (forest_below f p) (last_record p) (first_child p c)

unfoldable pub pool_forest : Pool → Forest
pool_forest p = forest_below (last_record p) p 0

unfoldable pub pool_map : Pool → Map
pool_map p = list_tree (None, pool_forest p)

pub record Holds (p : Pool) (k : Key) (v : ℕ) : Type 0 where
  pub at : ℕ
  pub used : InUse p at
  pub spelled : Spells p 0 k at
  pub valued : record_value p at ≡ Some v
