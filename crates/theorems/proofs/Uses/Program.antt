-- Uses of the statement on the program: 01's file, a leading zero, and what follows for any file. Assumes nothing.
use Prim.Native.Nat.{ℕ, suc, ◌+◌, ◌≤◌, ◌<◌}
use mathlib.Core.Path.{◌≡◌, refl, ap}
use mathlib.Core.Logic.{◌⊎◌, inl, inr}
use mathlib.Core.List.{List, [], ◌∷◌, ◌++◌, cons-ne-nil}
use Rattle.std.specs.Prelude.{None, Some}
use native.Mathlib.Omega.{arith}
use lib.ListN.{length}
use Rattle.keymap.specs.Key.{compare_keys}
use Rattle.keymap.specs.Map.{Entry, insert, insert_all}
use Rattle.keymap.specs.Prefixes.{level, deepest, levels, prefixes}
use Rattle.lines.specs.Bytes.{holds, stretch}
use Rattle.lines.specs.Decimal.{decimal_from, decimal, are_digits, value_after, leading_zero, is_decimal, number_in}
use Rattle.lines.specs.TabLine.{key_part, number_part, tab_entry}
use Rattle.lines.specs.Text.{lines_of, entry_lines}
use Rattle.lines.specs.Writing.{tab_line, tab_text, map_text}
use Rattle.lines.proofs.Worked.{ascii}
use Rattle.catalogue.specs.Limits.{file_limit, program_capacity}
use Rattle.catalogue.specs.TextAnswers.{entries_in, AllEntries, text_map}
use Rattle.catalogue.specs.TextCases.{bad, empty_key, no_room, Whole, FirstRefusal}
use Rattle.catalogue.specs.Program.{too_long_text, refused_text, program_text}
use Rattle.theorems.proofs.Program.{program-writes}
use Rattle.theorems.proofs.Uses.Values.{a, ab, b}

-- "File `b`TAB`3`LF`ab`TAB`7`LF"
abbrev file : List ℕ
file = 98 ∷ 9 ∷ 51 ∷ 10 ∷ 97 ∷ 98 ∷ 9 ∷ 55 ∷ 10 ∷ []

whole : Whole program_capacity file
unfolding compare_keys insert insert_all level deepest levels prefixes holds stretch are_digits value_after leading_zero is_decimal number_in key_part number_part tab_entry lines_of entry_lines entries_in
whole = record {
  short = omega arith;
  entries = (((b, 3), refl, λ e. let z : suc 0 ≡ 0 = ap length e in omega arith), (((ab, 7), refl, λ e. let z : suc 1 ≡ 0 = ap length e in omega arith), tt));
  few = omega arith;
}

-- "gives exactly `ab`TAB`7`LF`b`TAB`3`LF"
pub listed : program_text (Some file) ≡ ascii "ab\t7\nb\t3\n"
unfolding ascii compare_keys insert insert_all holds stretch decimal_from decimal are_digits value_after leading_zero is_decimal number_in key_part number_part tab_entry lines_of entry_lines entries_in tab_line tab_text map_text
listed = program-writes.listed file whole

-- "a", TAB, "01"
abbrev leading : List ℕ
leading = 97 ∷ 9 ∷ 48 ∷ 49 ∷ []

unfoldable stops : FirstRefusal program_capacity leading
unfolding insert_all level deepest levels prefixes holds stretch are_digits value_after leading_zero is_decimal number_in key_part number_part tab_entry lines_of entry_lines entries_in
stops = record {
  short = omega arith;
  before = [];
  line = leading;
  after = [];
  cut = refl;
  entries = tt;
  few = omega arith;
  number = 9;
  cause = bad refl refl;
}

pub refused : program_text (Some leading) ≡ ascii "refused 9 line 1\n"
unfolding ascii decimal_from decimal refused_text stops
refused = program-writes.refused leading stops

-- "a", TAB, "1", LF, "b", TAB, "2", LF, TAB, "3", LF: a line of the empty key behind two that are pushed
abbrev third : List ℕ
third = 97 ∷ 9 ∷ 49 ∷ 10 ∷ 98 ∷ 9 ∷ 50 ∷ 10 ∷ 9 ∷ 51 ∷ 10 ∷ []

unfoldable stops-third : FirstRefusal program_capacity third
unfolding compare_keys insert insert_all level deepest levels prefixes holds stretch are_digits value_after leading_zero is_decimal number_in key_part number_part tab_entry lines_of entry_lines entries_in
stops-third = record {
  short = omega arith;
  before = (97 ∷ 9 ∷ 49 ∷ []) ∷ (98 ∷ 9 ∷ 50 ∷ []) ∷ [];
  line = 9 ∷ 51 ∷ [];
  after = [];
  cut = refl;
  entries = (((a, 1), refl, cons-ne-nil 97 []), (((b, 2), refl, cons-ne-nil 98 []), tt));
  few = omega arith;
  number = 3;
  cause = empty_key ([], 3) refl refl refl;
}

pub refused-empty : program_text (Some third) ≡ ascii "refused 3 line 3\n"
unfolding ascii decimal_from decimal refused_text stops-third
refused-empty = program-writes.refused third stops-third

-- of any file: a key that would be the record 2,049 and more is refused 4, with the number of its line
pub refused_full : (text : List ℕ) (before : List (List ℕ)) (line : List ℕ) (after : List (List ℕ)) (e : Entry)
    → length text ≤ 65536
    → entry_lines text ≡ before ++ (line ∷ after)
    → AllEntries before
    → length (prefixes (insert_all (entries_in before) [])) ≤ 2048
    → tab_entry line ≡ Some e
    → ¬ (e.0 ≡ [])
    → 2048 < length (prefixes (insert e.0 e.1 (insert_all (entries_in before) [])))
    → program_text (Some text) ≡ refused_text 4 (1 + length before)
refused_full text before line after e short cut entries few read nonempty many =
    program-writes.refused text (record {
      short = short;
      before = before;
      line = line;
      after = after;
      cut = cut;
      entries = entries;
      few = few;
      number = 4;
      cause = no_room e read nonempty many refl;
    })

pub unread : program_text None ≡ ascii "no file\n"
unfolding ascii
unread = program-writes.unread

pub long : (text : List ℕ) → 65537 ≤ length text → program_text (Some text) ≡ ascii "too long\n"
unfolding ascii
long text h = program-writes.long text (omega (arith, h))

-- nothing else is written of a file that was read
pub three : (text : List ℕ)
    → (program_text (Some text) ≡ too_long_text) ⊎ ((program_text (Some text) ≡ map_text (text_map text)) ⊎ ((number : ℕ) × (line : ℕ) × (program_text (Some text) ≡ refused_text number line)))
three text = go (program-writes.cases text)
  where
    go : (file_limit < length text) ⊎ (Whole program_capacity text ⊎ FirstRefusal program_capacity text)
        → (program_text (Some text) ≡ too_long_text) ⊎ ((program_text (Some text) ≡ map_text (text_map text)) ⊎ ((number : ℕ) × (line : ℕ) × (program_text (Some text) ≡ refused_text number line)))
    go (inl h) = inl (program-writes.long text h)
    go (inr (inl w)) = inr (inl (program-writes.listed text w))
    go (inr (inr r)) = inr (inr (r.number, 1 + length r.before, program-writes.refused text r))

-- a file of nine bytes has a listing of at most ten
pub fits : length (map_text (text_map file)) ≤ 10
fits = program-writes.fits file

-- and no file has one that is longer by two
pub fits-any : (text : List ℕ) → length (map_text (text_map text)) < length text + 2
fits-any text = omega (arith, program-writes.fits text)
