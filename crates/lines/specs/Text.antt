-- The lines of a text (01, module 8): "Lines end at LF; the last LF may be absent, and an empty rest after the last LF
-- is no line."
--
--     lines_of        the lines, without their LF
--     entry_lines     those that are entries
--     entries_of      their entries, none for a line that breaks the rule
--     next_line_says  what `next_line` answers: where the line at a position ends and where the next one begins, or
--                     that there is none
-- Assumes nothing.
use Rattle.std.specs.Prelude.{ℕ, suc, ◌+◌, min, cond, List, [], ◌∷◌, map, length, drop, eqb, Option}
use Rattle.keymap.specs.Map.{Entry}
use Rattle.lines.specs.Bytes.{line_feed}
use Rattle.lines.specs.TabLine.{tab_entry}

-- a byte that is no LF belongs to the first line of what follows, and is a line of its own where nothing follows
abbrev pub in_first : ℕ → List (List ℕ) → List (List ℕ)
in_first b [] = (b ∷ []) ∷ []
in_first b (l ∷ ls) = (b ∷ l) ∷ ls

unfoldable pub lines_of : List ℕ → List (List ℕ)
lines_of [] = []
lines_of (b ∷ t) = cond (eqb b line_feed) ([] ∷ lines_of t) (in_first b (lines_of t))

-- "Every line is an entry"
unfoldable pub entry_lines : List ℕ → List (List ℕ)
entry_lines text = lines_of text

unfoldable pub entries_of : List ℕ → List (Option Entry)
entries_of text = map tab_entry (entry_lines text)

-- behind a line stands its LF, unless the text ends there: then the next line would begin at the text's end, where
-- there is none
abbrev pub first_says : ℕ → ℕ → List (List ℕ) → List ℕ
first_says len at [] = 0 ∷ []
first_says len at (l ∷ ls) = 0 ∷ (at + length l) ∷ min (suc (at + length l)) len ∷ []

unfoldable pub next_line_says : List ℕ → ℕ → List ℕ
next_line_says text at = first_says (length text) at (lines_of (drop at text))
