-- Uses of the statements on lines: "ab", TAB, "7" and lines that break the rule. Assumes nothing.
use Prim.Native.Nat.{ℕ, ◌≤◌, ◌<◌}
use mathlib.Core.Path.{◌≡◌, refl, sym}
use mathlib.Core.Bool.{true, true≢false}
use mathlib.Core.List.{List, [], ◌∷◌}
use Rattle.std.specs.Prelude.{Some}
use native.Mathlib.Omega.{arith}
use lib.ListN.{length}
use Rattle.keymap.specs.Map.{Entry}
use Rattle.lines.specs.Bytes.{holds, stretch}
use Rattle.lines.specs.Decimal.{are_digits, value_after, leading_zero, is_decimal, number_in, decimal, decimal_from}
use Rattle.lines.specs.TabLine.{key_part, number_part, tab_entry, tab_line_says, tab_line_key}
use Rattle.lines.specs.Text.{lines_of, entries_of, next_line_says}
use Rattle.lines.specs.Writing.{tab_line, tab_text, map_text, Plain, write_line_says, write_line_out}
use Rattle.theorems.proofs.Lines.{every-number, every-line, every-write, every-cut, read-back}
use Rattle.theorems.proofs.Uses.Values.{ab, b, map_a, four}

plain : Plain (ab, 7)
unfolding holds
plain = record { no-tab = refl; no-lf = refl; value = omega arith }

-- "7" is the decimal of 7, and "07" of no number
pub number : (is_decimal (55 ∷ []) ≡ true) × (48 ∷ 55 ∷ [] ≡ decimal 7 → ⊥)
unfolding decimal decimal_from is_decimal leading_zero
number = (((every-number (55 ∷ []) 7).1 (omega arith, refl)).0, λ e. true≢false (sym ((every-number (48 ∷ 55 ∷ []) 7).1 (omega arith, e)).0))

pub number-back : (v : ℕ) → v < 4294967296 → (is_decimal (decimal v) ≡ true) × (value_after 0 (decimal v) ≡ v)
number-back v small = (every-number (decimal v) v).1 (small, refl)

pub number-one : (t : List ℕ) → is_decimal t ≡ true → value_after 0 t ≡ 7 → t ≡ 55 ∷ []
unfolding decimal decimal_from
number-one t d e = ((every-number t 7).0 (d, e)).1

pub number_small : (t : List ℕ) → is_decimal t ≡ true → value_after 0 t < 4294967296
number_small t d = ((every-number t (value_after 0 t)).0 (d, refl)).0

-- "ab", TAB, "7"
abbrev line : List ℕ
line = 97 ∷ 98 ∷ 9 ∷ 55 ∷ []

-- "ab", TAB, "07"
abbrev leading : List ℕ
leading = 97 ∷ 98 ∷ 9 ∷ 48 ∷ 55 ∷ []

-- a line is read as its key and number, and what is read so is that line
pub reads : (tab_line_says line ≡ 0 ∷ 2 ∷ 7 ∷ []) × (tab_line_key line ≡ ab)
unfolding tab_line decimal decimal_from
reads = ((every-line line).reads (ab, 7)).1 (plain, refl)

pub reads-back : (l : List ℕ) → tab_line_says l ≡ 0 ∷ 2 ∷ 7 ∷ [] → tab_line_key l ≡ ab → Plain (ab, 7) × (l ≡ line)
unfolding tab_line decimal decimal_from
reads-back l s k = ((every-line l).reads (ab, 7)).0 (s, k)

-- the key may be empty
pub reads-empty : (tab_line_says (9 ∷ 51 ∷ []) ≡ 0 ∷ 0 ∷ 3 ∷ []) × (tab_line_key (9 ∷ 51 ∷ []) ≡ [])
unfolding tab_line decimal decimal_from holds
reads-empty = ((every-line (9 ∷ 51 ∷ [])).reads ([], 3)).1 (record { no-tab = refl; no-lf = refl; value = omega arith }, refl)

-- a leading zero: refused 9, and so it is the line of no entry; A's line is one, and so it is not refused
pub refusal : ((e : Entry) → Plain e → leading ≡ tab_line e → ⊥) × (tab_line_says line ≡ 9 ∷ [] → ⊥)
unfolding tab_line_says tab_entry key_part number_part holds stretch number_in is_decimal leading_zero are_digits value_after tab_line decimal decimal_from
refusal = ((every-line leading).refusal.0 refl, λ s. (every-line line).refusal.0 s (ab, 7) plain refl)

pub refused : (l : List ℕ) → ((e : Entry) → Plain e → l ≡ tab_line e → ⊥) → tab_line_says l ≡ 9 ∷ []
refused l n = (every-line l).refusal.1 n

-- five bytes are written to a longer buffer and to one of five, and none to one of four
pub writes : (write_line_says (ab, 7) (9 ∷ 9 ∷ 9 ∷ 9 ∷ 9 ∷ 9 ∷ []) ≡ 0 ∷ 5 ∷ []) × (write_line_out (ab, 7) (9 ∷ 9 ∷ 9 ∷ 9 ∷ 9 ∷ 9 ∷ []) ≡ 97 ∷ 98 ∷ 9 ∷ 55 ∷ 10 ∷ 9 ∷ [])
unfolding tab_text tab_line decimal decimal_from
writes = (every-write (ab, 7) (9 ∷ 9 ∷ 9 ∷ 9 ∷ 9 ∷ 9 ∷ [])).writes (omega arith)

pub writes-all : (write_line_says (ab, 7) (9 ∷ four) ≡ 0 ∷ 5 ∷ []) × (write_line_out (ab, 7) (9 ∷ four) ≡ 97 ∷ 98 ∷ 9 ∷ 55 ∷ 10 ∷ [])
unfolding tab_text tab_line decimal decimal_from
writes-all = (every-write (ab, 7) (9 ∷ four)).writes (omega arith)

pub no_room : (write_line_says (ab, 7) four ≡ 8 ∷ []) × ((out : List ℕ) → write_line_says (ab, 7) out ≡ 8 ∷ [] → length out < 5)
unfolding tab_text tab_line decimal decimal_from
no_room = ((every-write (ab, 7) four).refusal.1 (omega arith), λ out s. (every-write (ab, 7) out).refusal.0 s)

-- "ab", LF, "b": the first line is "ab", ends at 2, and the next begins at 3; that one is "b" and ends at 4, where the text does; no line begins there or behind it
abbrev text : List ℕ
text = 97 ∷ 98 ∷ 10 ∷ 98 ∷ []

pub first-at : next_line_says text 0 ≡ 0 ∷ 2 ∷ 3 ∷ []
unfolding next_line_says lines_of
first-at = refl

pub cuts : (0 < 3) × (3 ≤ 4) × (lines_of text ≡ ab ∷ lines_of b)
cuts = (every-cut text 0).cuts 2 3 first-at

pub last-at : next_line_says text 3 ≡ 0 ∷ 4 ∷ 4 ∷ []
unfolding next_line_says lines_of
last-at = refl

pub cuts-last : (3 < 4) × (4 ≤ 4) × (lines_of b ≡ b ∷ lines_of [])
cuts-last = (every-cut text 3).cuts 4 4 last-at

-- each line that is told begins further on, and in the text
pub cuts-on : (at end next : ℕ) → next_line_says text at ≡ 0 ∷ end ∷ next ∷ [] → (at < next) × (next ≤ 4)
cuts-on at end next h = let (on, within, line) = (every-cut text at).cuts end next h in (on, within)

pub ends : (next_line_says text 4 ≡ 0 ∷ []) × (next_line_says text 9 ≡ 0 ∷ []) × (next_line_says text 3 ≡ 0 ∷ [] → lines_of (98 ∷ []) ≡ [])
unfolding lines_of
ends = ((every-cut text 4).ends.1 refl, (every-cut text 9).ends.1 refl, (every-cut text 3).ends.0)

-- what is written of A's map is read as its entries
pub reads-map : entries_of (map_text map_a) ≡ Some (ab, 7) ∷ Some (b, 3) ∷ []
unfolding holds
reads-map = read-back map_a (plain, (record { no-tab = refl; no-lf = refl; value = omega arith }, tt))

-- and so it is of entries that are no map's
pub reads-any : entries_of (map_text ((ab, 7) ∷ ([], 0) ∷ (ab, 7) ∷ [])) ≡ Some (ab, 7) ∷ Some ([], 0) ∷ Some (ab, 7) ∷ []
unfolding holds
reads-any = read-back ((ab, 7) ∷ ([], 0) ∷ (ab, 7) ∷ []) (plain, (record { no-tab = refl; no-lf = refl; value = omega arith }, (plain, tt)))
