-- A line and its entry (01, module 8): "A line is key (no TAB or LF, maybe empty), one TAB, one decimal". A line that
-- breaks this has none.
--
--     tab_entry       the entry of a line
--     tab_line_says   what `tab_line` answers: the key's length and the number, or the refusal
--     tab_line_key    the part that `tab_line_key` hands back: the key, empty where the first call refuses
-- Assumes nothing.
use Rattle.std.specs.Prelude.{ℕ, suc, cond, not, ◌&&◌, List, [], ◌∷◌, length, take, drop, Option, None, Some}
use Rattle.keymap.specs.Key.{Key}
use Rattle.keymap.specs.Map.{Entry}
use Rattle.keymap.specs.Refusals.{refuses}
use Rattle.keymap.specs.declared.refusals.Refusal.{Refusal}
use Rattle.lines.specs.Bytes.{tab, line_feed, holds, stretch}
use Rattle.lines.specs.Decimal.{number_in}

-- what stands before the first TAB
unfoldable pub key_part : List ℕ → Key
key_part line = take (stretch tab line) line

-- what stands behind it
unfoldable pub number_part : List ℕ → List ℕ
number_part line = drop (suc (stretch tab line)) line

abbrev pub with_number : Key → Option ℕ → Option Entry
with_number k None = None
with_number k (Some v) = Some (k, v)

unfoldable pub tab_entry : List ℕ → Option Entry
tab_entry line =
    cond (holds tab line && not (holds line_feed (key_part line)))
    (with_number (key_part line) (number_in (number_part line))) None

abbrev pub entry_says : Option Entry → List ℕ
entry_says None = refuses Refusal.BadLine
entry_says (Some e) = 0 ∷ length e.0 ∷ e.1 ∷ []

abbrev pub entry_key : Option Entry → Key
entry_key None = []
entry_key (Some e) = e.0

unfoldable pub tab_line_says : List ℕ → List ℕ
tab_line_says line = entry_says (tab_entry line)

unfoldable pub tab_line_key : List ℕ → Key
tab_line_key line = entry_key (tab_entry line)
