-- What the program writes, computed, and its limits with their numbers written out. Assumes nothing.
use mathlib.Core.Path.{◌≡◌, refl}
use Prim.Native.Nat.{ℕ, ◌≤◌}
use mathlib.Core.List.{List, [], ◌∷◌, map}
use Rattle.std.specs.Prelude.{Option, None, Some}
use Prim.Native.String.{String}
use native.Mathlib.Omega.{arith}
use lib.ListN.{length}
use borrow.Author.Tests.{lt-ltb, le-ltb}
use Rattle.keymap.specs.Key.{compare_keys}
use Rattle.keymap.specs.Map.{insert, insert_all}
use Rattle.keymap.specs.Prefixes.{level, deepest, levels, prefixes}
use Rattle.lines.specs.Bytes.{holds, stretch}
use Rattle.lines.specs.Decimal.{decimal_from, decimal, are_digits, value_after, leading_zero, is_decimal, number_in}
use Rattle.lines.specs.TabLine.{key_part, number_part, tab_entry}
use Rattle.lines.specs.Text.{lines_of, entry_lines}
use Rattle.lines.specs.Writing.{tab_line, tab_text, map_text}
use Rattle.lines.proofs.Worked.{ascii}
use Rattle.catalogue.specs.declared.reading.Reading.{Reading}
use Rattle.catalogue.specs.declared.reading.Stage.{Stage}
use Rattle.catalogue.specs.TextAnswers.{text_from, text_says, entries_in, text_map}
use Rattle.catalogue.specs.Program.{refused_text, answer_text, program_text}
use Rattle.catalogue.specs.Reading.{nothing_read, take_read}

-- a file's text and what is written
abbrev Text : Type 0
Text = String × String

abbrev texts : List Text
texts =
    ("b\t3\nab\t7\n", "ab\t7\nb\t3\n")
    ∷ ("b\t3\nab\t7", "ab\t7\nb\t3\n")
    ∷ ("", "")
    ∷ ("a\t1\nb\t2\na\t0\n", "a\t0\nb\t2\n")
    ∷ ("a\t4294967295\n", "a\t4294967295\n")
    ∷ ("a\t1\nb\t4294967296\n", "refused 9 line 2\n")
    ∷ ("a\t01\n", "refused 9 line 1\n")
    ∷ ("a\t1\n\nb\t2\n", "refused 9 line 2\n")
    ∷ ("a\t1\nb\t2\n\t3\n", "refused 3 line 3\n")
    ∷ ("\t03\n", "refused 9 line 1\n")
    ∷ []

pub worked-texts : map (λ (t : Text). program_text (Some (ascii t.0))) texts ≡ map (λ (t : Text). ascii t.1) texts
unfolding ascii compare_keys insert insert_all level deepest levels prefixes holds stretch decimal_from decimal are_digits value_after leading_zero is_decimal number_in key_part number_part tab_entry lines_of entry_lines tab_line tab_text map_text text_from text_says entries_in refused_text program_text
worked-texts = refl

pub worked-no-file : program_text None ≡ ascii "no file\n"
unfolding ascii program_text
worked-no-file = refl

pub worked-no-room : refused_text 4 65536 ≡ ascii "refused 4 line 65536\n"
unfolding ascii decimal_from decimal refused_text
worked-no-room = refl

-- 65,537 bytes are too long
pub worked-too-long : (text : List ℕ) → 65537 ≤ length text → program_text (Some text) ≡ ascii "too long\n"
unfolding ascii text_says program_text
worked-too-long text h = rw (lt-ltb 65536 (length text) (omega (arith, h)))

-- 65,536 are not, and what is said of them is said of room for 2,048 records
pub worked-limits : (text : List ℕ) → length text ≤ 65536 → program_text (Some text) ≡ answer_text (text_map text) (text_from 2048 1 [] (entry_lines text))
unfolding text_says program_text
worked-limits text h = rw (le-ltb 65536 (length text) h)

-- what reads gave in turn, none where one failed, how far the file is read, and what is known of it
abbrev Reads : Type 0
Reads = List (Option ℕ) × Reading

abbrev readings : List Reads
readings =
    ([], record { done = 0; stage = Stage.Open })
    ∷ (Some 0 ∷ [], record { done = 0; stage = Stage.Whole })
    ∷ (None ∷ [], record { done = 0; stage = Stage.Failed })
    ∷ (Some 9 ∷ [], record { done = 9; stage = Stage.Open })
    ∷ (Some 9 ∷ Some 0 ∷ [], record { done = 9; stage = Stage.Whole })
    ∷ (Some 9 ∷ None ∷ [], record { done = 9; stage = Stage.Failed })
    ∷ (Some 65536 ∷ Some 0 ∷ [], record { done = 65536; stage = Stage.Whole })
    ∷ (Some 65536 ∷ Some 1 ∷ [], record { done = 65537; stage = Stage.Whole })
    ∷ (Some 65537 ∷ None ∷ [], record { done = 65537; stage = Stage.Whole })
    ∷ []

abbrev after : Reading → List (Option ℕ) → Reading
after r [] = r
after r (read ∷ reads) = after (take_read r read) reads

pub worked-readings : map (λ (t : Reads). after nothing_read t.0) readings ≡ map (λ (t : Reads). t.1) readings
worked-readings = refl
