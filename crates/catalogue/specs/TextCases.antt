-- When a text is answered what (01, module 8), by the text and the pool's capacity alone.
--
--     Cause           why a line is refused behind lines that left a map, with the number: "A line that breaks the rule
--                     is 9 and is never pushed, so 9 comes before 3 and 4"
--     Whole           a text whose lines are all pushed
--     FirstRefusal    "The first refusal stops it": a line that has a cause, behind lines that are all pushed
-- Assumes nothing.
use Rattle.std.specs.Prelude.{ℕ, ◌≤◌, ◌<◌, ◌≡◌, List, [], ◌∷◌, ◌++◌, length, None, Some}
use Rattle.keymap.specs.Map.{Entry, Map, insert, insert_all}
use Rattle.keymap.specs.Prefixes.{prefixes}
use Rattle.keymap.specs.Refusals.{refusal_number}
use Rattle.keymap.specs.declared.refusals.Refusal.{Refusal}
use Rattle.lines.specs.TabLine.{tab_entry}
use Rattle.lines.specs.Text.{entry_lines}
use Rattle.catalogue.specs.Limits.{file_limit}
use Rattle.catalogue.specs.TextAnswers.{entries_in, AllEntries, text_map}

pub data Cause (most : ℕ) (m : Map) (l : List ℕ) (number : ℕ) : Type 0 where
  bad : tab_entry l ≡ None → number ≡ refusal_number Refusal.BadLine → Cause most m l number
  empty_key : (e : Entry) → tab_entry l ≡ Some e → e.0 ≡ [] → number ≡ refusal_number Refusal.EmptyKey
      → Cause most m l number
  no_room : (e : Entry) → tab_entry l ≡ Some e → ¬ (e.0 ≡ []) → most < length (prefixes (insert e.0 e.1 m))
      → number ≡ refusal_number Refusal.NoRoom
      → Cause most m l number

pub record Whole (most : ℕ) (text : List ℕ) : Type 0 where
  pub short : length text ≤ file_limit
  pub entries : AllEntries (entry_lines text)
  pub few : length (prefixes (text_map text)) ≤ most

pub record FirstRefusal (most : ℕ) (text : List ℕ) : Type 0 where
  pub short : length text ≤ file_limit
  pub before : List (List ℕ)
  pub line : List ℕ
  pub after : List (List ℕ)
  pub cut : entry_lines text ≡ before ++ (line ∷ after)
  pub entries : AllEntries before
  pub few : length (prefixes (insert_all (entries_in before) [])) ≤ most
  pub number : ℕ
  pub cause : Cause most (insert_all (entries_in before) []) line number
