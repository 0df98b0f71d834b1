-- Lines, texts and numbers computed: a statement for each call, over one table. Assumes nothing.
use mathlib.Core.Path.{◌≡◌, refl}
use Prim.Native.Nat.{ℕ}
use Prim.Native.Char.{code}
use Prim.Native.String.{String, [] as []ˢ, ◌∷◌ as ◌∷ˢ◌}
use mathlib.Core.List.{List, [], ◌∷◌, map}
use lib.ListN.{replicate}
use Rattle.keymap.specs.Map.{Entry}
use Rattle.keymap.specs.Buffers.{over}
use Rattle.lines.specs.Bytes.{holds, stretch}
use Rattle.lines.specs.Decimal.{decimal_from, decimal, are_digits, value_after, leading_zero, is_decimal, number_in}
use Rattle.lines.specs.TabLine.{key_part, number_part, tab_entry, tab_line_says, tab_line_key}
use Rattle.lines.specs.Text.{lines_of, next_line_says}
use Rattle.lines.specs.Writing.{tab_line, tab_text, map_text, write_line_says, write_line_out}

-- the bytes of a text in ASCII
unfoldable pub ascii : String → List ℕ
ascii []ˢ = []
ascii (c ∷ˢ s) = code c ∷ ascii s

-- a line, what `tab_line` answers (the key's length and the number, or refusal 9) and the key that is handed back
abbrev Line : Type 0
Line = String × List ℕ × String

abbrev entry : ℕ → ℕ → List ℕ
entry l v = 0 ∷ l ∷ v ∷ []

abbrev bad_line : List ℕ
bad_line = 9 ∷ []

abbrev lines : List Line
lines =
    ("ab\t7", entry 2 7, "ab")
    ∷ ("b\t3", entry 1 3, "b")
    ∷ ("\t0", entry 0 0, "")
    ∷ ("x\t4294967295", entry 1 4294967295, "x")
    ∷ ("x \r\0\t10", entry 4 10, "x \r\0")
    ∷ ("x\t4294967296", bad_line, "")
    ∷ ("x\t12345678901", bad_line, "")
    ∷ ("x\t01", bad_line, "")
    ∷ ("x\t00", bad_line, "")
    ∷ ("", bad_line, "")
    ∷ ("x", bad_line, "")
    ∷ ("x\t", bad_line, "")
    ∷ ("x\ty", bad_line, "")
    ∷ ("x\t+7", bad_line, "")
    ∷ ("x\t 7", bad_line, "")
    ∷ ("x\t7 ", bad_line, "")
    ∷ ("x\t7\t", bad_line, "")
    ∷ ("x\t7\r", bad_line, "")
    ∷ ("x\t7\n", bad_line, "")
    ∷ ("x\ny\t7", bad_line, "")
    ∷ ("x\ty\t7", bad_line, "")
    ∷ []

-- two answers, or an answer and what is left
abbrev Told : Type 0
Told = List ℕ × List ℕ

pub worked-lines : map {B = Told} (λ (l : Line). (tab_line_says (ascii l.0), tab_line_key (ascii l.0))) lines ≡ map (λ (l : Line). (l.1, ascii l.2)) lines
unfolding ascii holds stretch are_digits value_after leading_zero is_decimal number_in key_part number_part tab_entry tab_line_says tab_line_key
worked-lines = refl

-- a text and its lines
abbrev Text : Type 0
Text = String × List String

abbrev texts : List Text
texts =
    ("", [])
    ∷ ("\n", "" ∷ [])
    ∷ ("a", "a" ∷ [])
    ∷ ("a\n", "a" ∷ [])
    ∷ ("a\n\n", "a" ∷ "" ∷ [])
    ∷ ("a\n\nb", "a" ∷ "" ∷ "b" ∷ [])
    ∷ ("a\r\nb\r\n", "a\r" ∷ "b\r" ∷ [])
    ∷ ("b\t3\nab\t7\n", "b\t3" ∷ "ab\t7" ∷ [])
    ∷ []

pub worked-texts : map (λ (t : Text). lines_of (ascii t.0)) texts ≡ map (λ (t : Text). map ascii t.1) texts
unfolding ascii lines_of
worked-texts = refl

-- a text, a position and what `next_line` answers
abbrev Cut : Type 0
Cut = String × ℕ × List ℕ

abbrev cuts : List Cut
cuts =
    ("b\t3\nab\t7", 0, 0 ∷ 3 ∷ 4 ∷ [])
    ∷ ("b\t3\nab\t7", 4, 0 ∷ 8 ∷ 8 ∷ [])
    ∷ ("b\t3\nab\t7", 8, 0 ∷ [])
    ∷ ("b\t3\nab\t7", 9, 0 ∷ [])
    ∷ ("a\n\nb\n", 2, 0 ∷ 2 ∷ 3 ∷ [])
    ∷ ("a\n\nb\n", 3, 0 ∷ 4 ∷ 5 ∷ [])
    ∷ ("a\n\nb\n", 5, 0 ∷ [])
    ∷ ("", 0, 0 ∷ [])
    ∷ []

pub worked-cuts : map (λ (c : Cut). next_line_says (ascii c.0) c.1) cuts ≡ map (λ (c : Cut). c.2) cuts
unfolding ascii lines_of next_line_says
worked-cuts = refl

pub worked-listing : map_text ((ascii "ab", 7) ∷ (ascii "b", 3) ∷ []) ≡ ascii "ab\t7\nb\t3\n"
unfolding ascii decimal_from decimal tab_line tab_text map_text
worked-listing = refl

-- an entry, how many bytes of 1 the buffer has, what `write_line` answers and what it leaves
abbrev Written : Type 0
Written = Entry × ℕ × List ℕ × String

abbrev writes : List Written
writes =
    ((ascii "ab", 7), 5, 0 ∷ 5 ∷ [], "ab\t7\n")
    ∷ ((ascii "ab", 7), 7, 0 ∷ 5 ∷ [], "ab\t7\n\u{1}\u{1}")
    ∷ ((ascii "ab", 7), 4, 8 ∷ [], "\u{1}\u{1}\u{1}\u{1}")
    ∷ ((ascii "", 0), 3, 0 ∷ 3 ∷ [], "\t0\n")
    ∷ ((ascii "x", 4294967295), 13, 0 ∷ 13 ∷ [], "x\t4294967295\n")
    ∷ []

pub worked-writes : map {B = Told} (λ (w : Written). (write_line_says w.0 (replicate w.1 1), write_line_out w.0 (replicate w.1 1))) writes ≡ map (λ (w : Written). (w.2, ascii w.3)) writes
unfolding ascii over decimal_from decimal tab_line tab_text write_line_says write_line_out
worked-writes = refl
