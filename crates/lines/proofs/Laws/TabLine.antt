-- Laws of a line's entry: where the first TAB stands and whether an LF stands before it decides, and then the number.
--
--     tab_entry-no-tab       a line without TAB has none, and `tab_entry-lf` one with an LF before it
--     tab_entry-number       of any other line the number decides, and `tab_entry-parts` says the same by what the
--                            parts hold
--     line-parts             a line with a TAB is its parts, and `key_part-join`, `number_part-join` have the parts of
--                            a line put together
--     tab_entry-some         what is known of a line with an entry
--     tab_line_key-some      the part handed back is the line's leading part of the length answered, and
--                            `tab_line_key-none` empty where the line is refused
-- Assumes nothing.
use mathlib.Core.Path.{◌≡◌, refl, sym, ap, ◌∙◌}
use Prim.Native.Nat.{ℕ, ◌≤◌, ◌<◌}
use mathlib.Core.Bool.{Bool, true, false, not, ◌&&◌, and-false}
use mathlib.Core.List.{List, [], ◌∷◌, ◌++◌}
use Rattle.std.specs.Prelude.{Option, None, Some}
use native.Mathlib.Omega.{arith}
use native.Mathlib.Numerals.{add-one}
use lib.ListN.{length, take}
use lib.Seq.{length-take-le, take-append_seam, drop-append-add}
use borrow.Author.Tests.{lt-ltb, le-ltb, ltb-true, not-true}
use Rattle.keymap.specs.Map.{Entry}
use Rattle.keymap.specs.Refusals.{refuses}
use Rattle.keymap.specs.declared.refusals.Refusal.{Refusal}
use Rattle.keymap.proofs.Laws.Begins.{both_true}
use Rattle.lines.specs.Bytes.{tab, line_feed, holds, stretch}
use Rattle.lines.specs.Decimal.{number_in}
use Rattle.lines.specs.TabLine.{key_part, number_part, with_number, tab_entry, entry_says, entry_key, tab_line_says, tab_line_key}
use Rattle.lines.proofs.Laws.Bytes.{stretch-within, stretch-split, stretch-append, holds-whole, holds-append}

pub tab_entry-no-tab : (line : List ℕ) → length line ≤ stretch tab line → tab_entry line ≡ None
unfolding tab_entry
tab_entry-no-tab line h = rw (holds-whole tab line, le-ltb (stretch tab line) (length line) h)

pub tab_entry-lf : (line : List ℕ) → holds line_feed (key_part line) ≡ true → tab_entry line ≡ None
unfolding tab_entry
tab_entry-lf line h = simp (h, and-false)

pub tab_entry-parts : (line : List ℕ) → holds tab line ≡ true → holds line_feed (key_part line) ≡ false → tab_entry line ≡ with_number (key_part line) (number_in (number_part line))
unfolding tab_entry
tab_entry-parts line h l = rw (h, l)

pub tab_entry-number : (line : List ℕ) → stretch tab line < length line → holds line_feed (key_part line) ≡ false
    → tab_entry line ≡ with_number (key_part line) (number_in (number_part line))
tab_entry-number line h l = tab_entry-parts line (holds-whole tab line ∙ lt-ltb _ _ h) l

pub line-parts : (line : List ℕ) → stretch tab line < length line → line ≡ key_part line ++ (tab ∷ number_part line)
unfolding key_part number_part
line-parts line h = stretch-split tab line h

module _ (k d : List ℕ) (no-tab : holds tab k ≡ false) where
  pub holds-join : holds tab (k ++ (tab ∷ d)) ≡ true
  unfolding holds
  holds-join = holds-append tab k (tab ∷ d) ∙ rw no-tab

  pub key_part-join : key_part (k ++ (tab ∷ d)) ≡ k
  unfolding key_part
  key_part-join = rw (stretch-append tab k d no-tab, take-append_seam)

  pub number_part-join : number_part (k ++ (tab ∷ d)) ≡ d
  unfolding number_part
  number_part-join = rw (stretch-append tab k d no-tab, ← add-one, drop-append-add)

pub record Split (line : List ℕ) (e : Entry) : Type 0 where
  pub has-tab : stretch tab line < length line
  pub key : e.0 ≡ key_part line
  pub no-lf : holds line_feed e.0 ≡ false
  pub number : number_in (number_part line) ≡ Some e.1

pub tab_entry-some : (line : List ℕ) (e : Entry) → tab_entry line ≡ Some e → Split line e
unfolding tab_entry
tab_entry-some line e h = go (holds tab line && not (holds line_feed (key_part line))) refl
  where
    found : (o : Option ℕ) → number_in (number_part line) ≡ o → with_number (key_part line) o ≡ Some e → holds tab line ≡ true → holds line_feed (key_part line) ≡ false → Split line e
    found None q r t l = absurd (let z : ◌≡◌ {A = ℕ} 0 1 = cc in omega arith)
    found (Some v) q r t l =
        let pair : (key_part line, v) ≡ e = cc in
        let key : key_part line ≡ e.0 = λ i. (pair i).0 in
        record {
          has-tab = ltb-true _ _ (sym (holds-whole tab line) ∙ t);
          key = sym key;
          no-lf = rw (← key) l;
          number = q ∙ (λ i. Some (pair i).1);
        }

    go : (b : Bool) → (holds tab line && not (holds line_feed (key_part line))) ≡ b → Split line e
    go true q =
        let both = (both_true (holds tab line) (not (holds line_feed (key_part line)))).0 q in
        found (number_in (number_part line)) refl (rw q at h) both.0 (not-true _ both.1)
    go false q = absurd (let v : None ≡ Some e = rw q at h in let z : ◌≡◌ {A = ℕ} 0 1 = cc in omega arith)

pub length-key_part : (line : List ℕ) → length (key_part line) ≡ stretch tab line
unfolding key_part
length-key_part line = length-take-le (stretch tab line) line (stretch-within tab line)

pub tab_line_says-none : (line : List ℕ) → tab_entry line ≡ None → tab_line_says line ≡ refuses Refusal.BadLine
unfolding tab_line_says
tab_line_says-none line h = rw h

pub tab_line_says-some : (line : List ℕ) (e : Entry) → tab_entry line ≡ Some e → tab_line_says line ≡ 0 ∷ length e.0 ∷ e.1 ∷ []
unfolding tab_line_says
tab_line_says-some line e h = rw h

pub tab_line_key-none : (line : List ℕ) (r : Refusal) → tab_line_says line ≡ refuses r → tab_line_key line ≡ []
unfolding tab_line_says tab_line_key
tab_line_key-none line r = go (tab_entry line)
  where
    go : (o : Option Entry) → entry_says o ≡ refuses r → entry_key o ≡ []
    go None h = refl
    go (Some e) h = cc

pub tab_line_key-some : (line : List ℕ) (k v : ℕ) → tab_line_says line ≡ 0 ∷ k ∷ v ∷ [] → (tab_line_key line ≡ take k line) × (k ≤ length line)
unfolding tab_line_says tab_line_key key_part
tab_line_key-some line k v = go (tab_entry line) refl
  where
    go : (o : Option Entry) → tab_entry line ≡ o → entry_says o ≡ 0 ∷ k ∷ v ∷ [] → (entry_key o ≡ take k line) × (k ≤ length line)
    go None q h = absurd (let z : ◌≡◌ {A = ℕ} 0 1 = cc in omega arith)
    go (Some e) q h =
        let s = tab_entry-some line e q in
        let answered : length e.0 ≡ k = cc in
        let same : stretch tab line ≡ k = sym (length-key_part line) ∙ ap length (sym s.key) ∙ answered in
        (s.key ∙ ap (λ (n : ℕ). take n line) same, omega (arith, stretch-within tab line))
