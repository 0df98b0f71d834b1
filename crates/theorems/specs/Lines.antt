-- Catalogue lines (01, module 8): when a line is refused 9 and what is read of any other, what is written of an entry,
-- and which lines a text has.
--
--     EveryNumber                      a text that obeys the rule of numbers is the decimal of the number that it
--                                      stands for, and the other way round
--     LineCases                        a line that obeys the rule, and one that does not
--     WrittenLine                      an entry that is written to a buffer
--     EveryLine, EveryWrite, EveryCut  any bytes, any entry and buffer, any position in any text
--     ReadBack                         the text of entries is read as these entries
-- Assumes nothing.
use Rattle.std.specs.Prelude.{ℕ, ◌-◌, ◌≤◌, ◌<◌, ◌≡◌, true, ◌↔◌, List, [], ◌∷◌, ◌++◌, map, length, take, drop, Some}
use Rattle.keymap.specs.Limits.{value_limit}
use Rattle.keymap.specs.Refusals.{refuses}
use Rattle.keymap.specs.declared.refusals.Refusal.{Refusal}
use Rattle.keymap.specs.Map.{Entry}
use Rattle.lines.specs.Decimal.{decimal, value_after, is_decimal}
use Rattle.lines.specs.TabLine.{tab_line_says, tab_line_key}
use Rattle.lines.specs.Text.{lines_of, entries_of, next_line_says}
use Rattle.lines.specs.Writing.{tab_line, tab_text, map_text, Plain, AllPlain, write_line_says, write_line_out}

-- "one decimal of 1 to 10 digits, at most 4,294,967,295, no leading zero but "0" itself"
abbrev pub EveryNumber : Type 0
EveryNumber =
    (t : List ℕ) (v : ℕ) → ((is_decimal t ≡ true) × (value_after 0 t ≡ v)) ↔ ((v < value_limit) × (t ≡ decimal v))

pub record LineCases (line : List ℕ) : Type 0 where
  -- "A line is key (no TAB or LF, maybe empty), one TAB, one decimal": such a line is read as its key and its number
  pub reads : (e : Entry)
      → ((tab_line_says line ≡ 0 ∷ length e.0 ∷ e.1 ∷ []) × (tab_line_key line ≡ e.0)) ↔ (Plain e × (line ≡ tab_line e))
  -- "BadLine: catalogue line breaks the line rule"
  pub refusal : (tab_line_says line ≡ refuses Refusal.BadLine) ↔ ((e : Entry) → Plain e → line ≡ tab_line e → ⊥)

abbrev pub EveryLine : Type 0
EveryLine = (line : List ℕ) → LineCases line

-- "KeyRoom", of a line as of a key; else the entry's text, and what lies behind it stays
pub record WrittenLine (e : Entry) (out : List ℕ) : Type 0 where
  pub refusal : (write_line_says e out ≡ refuses Refusal.KeyRoom) ↔ (length out < length (tab_text e))
  pub writes : length (tab_text e) ≤ length out
      → (write_line_says e out ≡ 0 ∷ length (tab_text e) ∷ [])
      × (write_line_out e out ≡ tab_text e ++ drop (length (tab_text e)) out)

abbrev pub EveryWrite : Type 0
EveryWrite = (e : Entry) (out : List ℕ) → WrittenLine e out

-- the lines of a text from a position on: none is left, or one is cut and those from the next on are the others
pub record CutLine (text : List ℕ) (at : ℕ) : Type 0 where
  pub ends : (next_line_says text at ≡ 0 ∷ []) ↔ (lines_of (drop at text) ≡ [])
  pub cuts : (end next : ℕ) → next_line_says text at ≡ 0 ∷ end ∷ next ∷ []
      → (at < next) × (next ≤ length text)
      × (lines_of (drop at text) ≡ take (end - at) (drop at text) ∷ lines_of (drop next text))

abbrev pub EveryCut : Type 0
EveryCut = (text : List ℕ) (at : ℕ) → CutLine text at

-- "writes the listing in the same form": what is written of entries that lines can hold is read as these
abbrev pub ReadBack : Type 0
ReadBack = (m : List Entry) → AllPlain m → entries_of (map_text m) ≡ map (λ (e : Entry). Some e) m
