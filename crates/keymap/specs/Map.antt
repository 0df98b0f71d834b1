-- A map: its entries, each a key with its value, keys strictly rising in byte order. Two maps with the same look-ups
-- are one list.
--
--     Rising        the keys strictly rise
--     Proper        the keys are nonempty and of bytes, the values of 32 bits
--     Catalogue     both; a pool or an image holds it if its distinct prefixes are at most `most_records` besides
--     insert        the map with a key's value set, whether it was there or not
--     insert_all    the same for entries in turn: of one key the last value stays
--     lookup        the value of a key
-- Assumes nothing.
use Rattle.std.specs.Prelude.{ℕ, ◌<◌, ◌≡◌, List, [], ◌∷◌, Option, None, Some}
use Rattle.keymap.specs.Key.{Key, Bytes, Below, compare_keys, pick}
use Rattle.keymap.specs.Limits.{value_limit}

abbrev pub Entry : Type 0
Entry = Key × ℕ

abbrev pub Map : Type 0
Map = List Entry

-- the first entry's key stands below the second's
abbrev pub Under : Entry → Entry → Type 0
Under e d = Below e.0 d.0

-- k stands before the first key of m
abbrev pub Before : Key → Map → Type 0
Before k [] = Unit {0}
Before k (e ∷ m) = Below k e.0

abbrev pub Rising : Map → Type 0
Rising [] = Unit {0}
Rising (e ∷ m) = Before e.0 m × Rising m

abbrev pub Proper : Map → Type 0
Proper [] = Unit {0}
Proper (e ∷ m) = (¬ (e.0 ≡ [])) × Bytes e.0 × (e.1 < value_limit) × Proper m

pub record Catalogue (m : Map) : Type 0 where
  pub rising : Rising m
  pub proper : Proper m

unfoldable pub insert : Key → ℕ → Map → Map
insert k v [] = (k, v) ∷ []
insert k v (e ∷ m) = pick (compare_keys k e.0) ((k, v) ∷ e ∷ m) ((k, v) ∷ m) (e ∷ insert k v m)

unfoldable pub insert_all : List Entry → Map → Map
insert_all [] m = m
insert_all (e ∷ es) m = insert_all es (insert e.0 e.1 m)

unfoldable pub lookup : Key → Map → Option ℕ
lookup k [] = None
lookup k (e ∷ m) = pick (compare_keys k e.0) None (Some e.1) (lookup k m)
