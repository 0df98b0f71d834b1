-- How far a key leads down the records: "Push walks the key" (01).
--
--     reach_of         the record that is reached, and how many bytes led there
--     missing_labels   how many of the key's prefixes are not yet present
-- Assumes nothing.
use Rattle.std.specs.Prelude.{ℕ, ◌+◌, ◌-◌, [], ◌∷◌, length, Option, None, Some}
use Rattle.keymap.specs.Key.{Key}
use Rattle.records.specs.Words.{Pool}
use Rattle.pool.specs.declared.path.Reach.{Reach}
use Rattle.pool.specs.Siblings.{child_at}

abbrev pub reach_at : ℕ → ℕ → Reach
reach_at i d = record { at = i; depth = d }

-- on from a child, or the end where there is none
abbrev pub on_child : Option ℕ → (ℕ → Reach) → Reach → Reach
on_child None on end = end
on_child (Some c) on end = on c

-- from record i on, which d bytes led to
unfoldable pub reach_from : Pool → (i d : ℕ) → Key → Reach
reach_from p i d [] = reach_at i d
reach_from p i d (b ∷ bs) = on_child (child_at p i b) (λ c. reach_from p c (d + 1) bs) (reach_at i d)

unfoldable pub reach_of : Pool → Key → Reach
reach_of p key = reach_from p 0 0 key

unfoldable pub missing_labels : Pool → Key → ℕ
missing_labels p key = length key - (reach_of p key).depth
