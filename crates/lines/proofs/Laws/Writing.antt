-- Laws of text written and read back. A key without TAB ends before the line's first TAB, and digits have neither TAB nor LF,
-- so the reader cuts a written text where the writer joined it; what the reader takes was written so.
--
--     length-tab_text         the length of an entry's text
--     tab_entry-tab_line      the line of an entry is read as that entry
--     tab_entry-one           a line that is read as an entry is the line of it, so that the entry's text is the line
--                             and LF
--     lines_of-map_text       the lines of a map's text are those of its entries
--     entries_of-map_text     and they are read as the entries
--     put_mid-over            what is put over a part of a buffer
-- Assumes nothing.
use mathlib.Core.Path.{◌≡◌, refl, ap, ◌∙◌}
use mathlib.Core.Logic.{◌↔◌}
use Prim.Native.Nat.{ℕ, ◌+◌}
use mathlib.Core.Bool.{false}
use mathlib.Core.List.{List, [], ◌∷◌, ◌++◌, map, append_assoc}
use Rattle.std.specs.Prelude.{Some}
use native.Mathlib.Omega.{arith}
use lib.ListN.{length, take, drop, length-append}
use borrow.Rule.Slice.PartMut.{put_mid}
use Rattle.keymap.specs.Buffers.{over}
use Rattle.keymap.specs.Map.{Entry}
use Rattle.lines.specs.Bytes.{tab, line_feed, holds}
use Rattle.lines.specs.Decimal.{decimal}
use Rattle.lines.specs.TabLine.{key_part, number_part, tab_entry}
use Rattle.lines.specs.Text.{lines_of, entry_lines, entries_of}
use Rattle.lines.specs.Writing.{tab_line, tab_text, map_text, Plain, AllPlain}
use Rattle.lines.proofs.Laws.Bytes.{holds-stretch, holds-append}
use Rattle.lines.proofs.Laws.Decimal.{are_digits-decimal, holds-digits, number_in-decimal, number_in-one, number_in-below}
use Rattle.lines.proofs.Laws.TabLine.{tab_entry-parts, line-parts, holds-join, key_part-join, number_part-join, tab_entry-some}
use Rattle.lines.proofs.Laws.Text.{lines_of-ended}

pub length-tab_text : (e : Entry) → length (tab_text e) ≡ length e.0 + length (decimal e.1) + 2
unfolding tab_text tab_line
length-tab_text e = simp length-append (omega arith)

pub tab_entry-tab_line : (e : Entry) → Plain e → tab_entry (tab_line e) ≡ Some e
unfolding tab_line
tab_entry-tab_line e p =
    let k : List ℕ = e.0 in
    let d : List ℕ = decimal e.1 in
    tab_entry-parts (k ++ (tab ∷ d)) (holds-join k d p.no-tab) (rw (key_part-join k d p.no-tab) p.no-lf)
    ∙ rw (key_part-join k d p.no-tab, number_part-join k d p.no-tab, number_in-decimal e.1 p.value)

pub tab_entry-one : (line : List ℕ) (e : Entry) → tab_entry line ≡ Some e → line ≡ tab_line e
unfolding tab_line
tab_entry-one line e h =
    let s = tab_entry-some line e h in
    line-parts line s.has-tab ∙ rw (← s.key, number_in-one (number_part line) e.1 s.number)

pub tab_entry-text : (line : List ℕ) (e : Entry) → tab_entry line ≡ Some e → line ++ (line_feed ∷ []) ≡ tab_text e
unfolding tab_text
tab_entry-text line e h = ap (λ (l : List ℕ). l ++ (line_feed ∷ [])) (tab_entry-one line e h)

pub tab_entry-plain : (line : List ℕ) (e : Entry) → tab_entry line ≡ Some e → Plain e
unfolding key_part
tab_entry-plain line e h =
    let s = tab_entry-some line e h in
    record {
      no-tab = ap (holds tab) s.key ∙ holds-stretch tab line;
      no-lf = s.no-lf;
      value = number_in-below (number_part line) e.1 s.number;
    }

pub tab_entry-iff : (line : List ℕ) (e : Entry) → (tab_entry line ≡ Some e) ↔ (Plain e × (line ≡ tab_line e))
tab_entry-iff line e = (λ h. (tab_entry-plain line e h, tab_entry-one line e h), λ h. ap tab_entry h.1 ∙ tab_entry-tab_line e h.0)

holds-tab_line : (e : Entry) → holds line_feed e.0 ≡ false → holds line_feed (tab_line e) ≡ false
unfolding tab_line holds
holds-tab_line e h = holds-append line_feed e.0 (tab ∷ decimal e.1) ∙ rw (h, holds-digits line_feed (decimal e.1) (omega arith) (are_digits-decimal e.1))

pub lines_of-map_text : (m : List Entry) → AllPlain m → lines_of (map_text m) ≡ map tab_line m
unfolding map_text tab_text lines_of
lines_of-map_text [] p = refl
lines_of-map_text (e ∷ m) p =
    rw (append_assoc, lines_of-ended (tab_line e) (map_text m) (holds-tab_line e p.0.no-lf), lines_of-map_text m p.1)

pub entries_of-map_text : (m : List Entry) → AllPlain m → entries_of (map_text m) ≡ map (λ (e : Entry). Some e) m
unfolding entries_of entry_lines
entries_of-map_text m p = rw (lines_of-map_text m p) (each m p)
  where
    each : (m : List Entry) → AllPlain m → map tab_entry (map tab_line m) ≡ map (λ (e : Entry). Some e) m
    each [] p = refl
    each (e ∷ m) p = rw (tab_entry-tab_line e p.0, each m p.1)

-- a part of a buffer that something is put over, of its length
pub put_mid-over : (at n : ℕ) (out part t : List ℕ) → part ≡ t → n ≡ length t → put_mid at n out part ≡ take at out ++ over t (drop at out)
unfolding over
put_mid-over at n out part t p q = rw (p, q)
