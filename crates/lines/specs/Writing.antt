-- The text of an entry and of a map (01, module 8: "the listing in the same form, each line with LF"). It is defined
-- for every key.
--
--     tab_line       the line of an entry, without LF
--     tab_text       the same with LF
--     map_text       the text of entries, one after the other
--     Plain          an entry that a line can hold: no TAB or LF in its key, a value of 32 bits
--     write_line_says what `write_line` answers: the length, or the refusal
--     write_line_out  what it leaves in the buffer: bytes past the line stay
-- Assumes nothing.
use Rattle.std.specs.Prelude.{◌≡◌, ℕ, ◌<◌, false, cond, List, [], ◌∷◌, ◌++◌, length, ltb}
use Rattle.keymap.specs.Limits.{value_limit}
use Rattle.keymap.specs.Map.{Entry}
use Rattle.keymap.specs.Refusals.{refuses}
use Rattle.keymap.specs.declared.refusals.Refusal.{Refusal}
use Rattle.keymap.specs.Buffers.{over}
use Rattle.lines.specs.Bytes.{tab, line_feed, holds}
use Rattle.lines.specs.Decimal.{decimal}

unfoldable pub tab_line : Entry → List ℕ
tab_line e = e.0 ++ (tab ∷ decimal e.1)

unfoldable pub tab_text : Entry → List ℕ
tab_text e = tab_line e ++ (line_feed ∷ [])

unfoldable pub map_text : List Entry → List ℕ
map_text [] = []
map_text (e ∷ m) = tab_text e ++ map_text m

pub record Plain (e : Entry) : Type 0 where
  pub no-tab : holds tab e.0 ≡ false
  pub no-lf : holds line_feed e.0 ≡ false
  pub value : e.1 < value_limit

abbrev pub AllPlain : List Entry → Type 0
AllPlain [] = Unit {0}
AllPlain (e ∷ m) = Plain e × AllPlain m

unfoldable pub write_line_says : Entry → List ℕ → List ℕ
write_line_says e out =
    cond (ltb (length out) (length (tab_text e))) (refuses Refusal.KeyRoom) (0 ∷ length (tab_text e) ∷ [])

unfoldable pub write_line_out : Entry → List ℕ → List ℕ
write_line_out e out = cond (ltb (length out) (length (tab_text e))) out (over (tab_text e) out)
