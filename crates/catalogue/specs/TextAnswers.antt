-- What a text is answered, by the text and the pool's capacity alone (01, module 8): "A line that breaks the rule is 9
-- and is never pushed, so 9 comes before 3 and 4 here. The first refusal stops it". What is pushed so far is told by
-- its map; a line is 3 for the empty key, and 4 exactly when the distinct nonempty prefixes, its own counted in, would
-- exceed the capacity.
--
--     map_line_says, map_line_after  one line, by its entry: the refusal's number, or 0, and the map with the entry
--                                    inserted
--     text_from                      lines in turn, the first of them with a given number, after lines that left a
--                                    given map
--     text_says                      a text of any length, its lines numbered from 1, in an empty pool
--     entries_in                     the entries of lines, and `AllEntries`: each has one, and of a nonempty key
--     text_map                       the map of a text's entries
-- Assumes nothing.
use Rattle.std.specs.Prelude.{ℕ, suc, ◌≡◌, cond, List, [], ◌∷◌, ◌++◌, length, ltb, Option, None, Some}
use Rattle.keymap.specs.Map.{Entry, Map, insert, insert_all}
use Rattle.keymap.specs.Refusals.{refuses}
use Rattle.keymap.specs.declared.refusals.Refusal.{Refusal}
use Rattle.pool.specs.Answers.{accepted}
use Rattle.pool.specs.History.{PoolCall, map_says}
use Rattle.lines.specs.TabLine.{tab_entry}
use Rattle.lines.specs.Text.{entry_lines}
use Rattle.catalogue.specs.Limits.{file_limit}

-- where there is room for `most` records
abbrev pub map_line_says : ℕ → Map → Option Entry → List ℕ
map_line_says most m None = refuses Refusal.BadLine
map_line_says most m (Some e) = map_says most m (PoolCall.push e.0 e.1)

abbrev pub map_line_after : Map → Option Entry → Map
map_line_after m None = m
map_line_after m (Some e) = insert e.0 e.1 m

unfoldable pub text_from : (most n : ℕ) → Map → List (List ℕ) → List ℕ
text_from most n m [] = 0 ∷ []
text_from most n m (l ∷ ls) =
    cond (accepted (map_line_says most m (tab_entry l))) (text_from most (suc n) (map_line_after m (tab_entry l)) ls)
    (map_line_says most m (tab_entry l) ++ (n ∷ []))

unfoldable pub text_says : ℕ → List ℕ → List ℕ
text_says most text = cond (ltb file_limit (length text)) [] (text_from most 1 [] (entry_lines text))

-- ---- the map of a text

-- a line that breaks the rule has none
abbrev pub with_entry : Option Entry → List Entry → List Entry
with_entry None es = es
with_entry (Some e) es = e ∷ es

unfoldable pub entries_in : List (List ℕ) → List Entry
entries_in [] = []
entries_in (l ∷ ls) = with_entry (tab_entry l) (entries_in ls)

-- every line is an entry, and of a key that is not empty
abbrev pub AllEntries : List (List ℕ) → Type 0
AllEntries [] = Unit {0}
AllEntries (l ∷ ls) = ((e : Entry) × (tab_entry l ≡ Some e) × (¬ (e.0 ≡ []))) × AllEntries ls

-- each key with its last value
abbrev pub text_map : List ℕ → Map
text_map text = insert_all (entries_in (entry_lines text)) []
