-- Catalogue lines, by the laws of lines: what is read as an entry was written so, and the reader cuts a text where the writer joined it.
--
--     every-number                           a text and the number that it stands for
--     every-line, every-write, every-cut     any line, any entry and buffer, any position in a text
--     read-back                              the text of entries is read as these
-- Assumes nothing.
use Prim.Native.Nat.{ℕ, ◌<◌}
use mathlib.Core.Path.{◌≡◌, refl, sym, ap, ◌∙◌}
use mathlib.Core.Bool.{Bool, true, false}
use mathlib.Core.Logic.{◌↔◌}
use mathlib.Core.List.{List, [], ◌∷◌}
use Rattle.std.specs.Prelude.{Option, None, Some}
use Rattle.std.proofs.lemmas.Option.{none-some, same_Some}
use native.Mathlib.Omega.{arith}
use lib.ListN.{length}
use lib.Dec.{ltb}
use borrow.Author.Tests.{ltb-true, lt-ltb, le-ltb}
use Rattle.keymap.specs.Buffers.{over}
use Rattle.keymap.specs.Map.{Entry}
use Rattle.keymap.specs.Refusals.{refuses}
use Rattle.keymap.specs.declared.refusals.Refusal.{Refusal}
use Rattle.lines.specs.Decimal.{value_after, is_decimal, number_in}
use Rattle.lines.specs.TabLine.{entry_says, entry_key, tab_entry, tab_line_says, tab_line_key}
use Rattle.lines.specs.Writing.{tab_line, tab_text, Plain, write_line_says, write_line_out}
use Rattle.lines.proofs.Laws.Decimal.{number_in-decimal, number_in-one, number_in-below}
use Rattle.lines.proofs.Laws.Text.{next-none, next-cuts}
use Rattle.lines.proofs.Laws.Writing.{tab_entry-iff, entries_of-map_text}
use Rattle.theorems.specs.Lines.{EveryNumber, EveryLine, EveryWrite, EveryCut, ReadBack}

pub every-number : EveryNumber
unfolding number_in
every-number t v = (
  λ h. let e : number_in t ≡ Some v = rw h.0 (ap Some h.1) in (number_in-below t v e, number_in-one t v e),
  λ h. back (is_decimal t) refl (ap number_in h.1 ∙ number_in-decimal v h.0),
)
  where
    back : (d : Bool) → is_decimal t ≡ d → number_in t ≡ Some v → (is_decimal t ≡ true) × (value_after 0 t ≡ v)
    back true d e = (d, same_Some (value_after 0 t) v (rw d at e))
    back false d e = absurd (none-some v (rw d at e))

-- what is said of a line tells its entry
said-entry : (o : Option Entry) (e : Entry) → (entry_says o ≡ 0 ∷ length e.0 ∷ e.1 ∷ []) × (entry_key o ≡ e.0) → o ≡ Some e
said-entry None e h = absurd (let said : 9 ∷ [] ≡ 0 ∷ length e.0 ∷ e.1 ∷ [] = h.0 in let z : ◌≡◌ {A = ℕ} 0 9 = cc in omega arith)
said-entry (Some d) e h =
    let said : 0 ∷ length d.0 ∷ d.1 ∷ [] ≡ 0 ∷ length e.0 ∷ e.1 ∷ [] = h.0 in
    let value : d.1 ≡ e.1 = cc in
    let key : d.0 ≡ e.0 = h.1 in
    λ i. Some (key i, value i)

said-none : (o : Option Entry) → entry_says o ≡ refuses Refusal.BadLine → o ≡ None
said-none None h = refl
said-none (Some e) h = absurd (let said : 0 ∷ length e.0 ∷ e.1 ∷ [] ≡ 9 ∷ [] = h in let z : ◌≡◌ {A = ℕ} 0 9 = cc in omega arith)

read-line : (line : List ℕ) (e : Entry) → ((tab_line_says line ≡ 0 ∷ length e.0 ∷ e.1 ∷ []) × (tab_line_key line ≡ e.0)) ↔ (Plain e × (line ≡ tab_line e))
unfolding tab_line_says tab_line_key
read-line line e = (
  λ h. (tab_entry-iff line e).0 (said-entry (tab_entry line) e h),
  λ h. let t = (tab_entry-iff line e).1 h in (ap entry_says t, ap entry_key t),
)

bad-line : (line : List ℕ) → (tab_line_says line ≡ refuses Refusal.BadLine) ↔ ((e : Entry) → Plain e → line ≡ tab_line e → ⊥)
unfolding tab_line_says
bad-line line = (
  λ h e p w. none-some e (sym (said-none (tab_entry line) h) ∙ (tab_entry-iff line e).1 (p, w)),
  λ h. go h (tab_entry line) refl,
)
  where
    go : ((e : Entry) → Plain e → line ≡ tab_line e → ⊥) → (o : Option Entry) → tab_entry line ≡ o → entry_says (tab_entry line) ≡ refuses Refusal.BadLine
    go h None t = ap entry_says t
    go h (Some e) t = let (p, w) = (tab_entry-iff line e).0 t in absurd (h e p w)

pub every-line : EveryLine
every-line line = record { reads = read-line line; refusal = bad-line line }

pub every-write : EveryWrite
unfolding write_line_says write_line_out over
every-write e out = record {
  refusal = (λ h. go h (ltb (length out) (length (tab_text e))) refl, λ h. rw (lt-ltb _ _ h));
  writes = λ h. (rw (le-ltb _ _ h), rw (le-ltb _ _ h));
}
  where
    go : write_line_says e out ≡ refuses Refusal.KeyRoom → (b : Bool) → ltb (length out) (length (tab_text e)) ≡ b → length out < length (tab_text e)
    go h true t = ltb-true _ _ t
    go h false t = absurd (let said : 0 ∷ length (tab_text e) ∷ [] ≡ 8 ∷ [] = rw t at h in let z : ◌≡◌ {A = ℕ} 0 8 = cc in omega arith)

pub every-cut : EveryCut
every-cut text at = record { ends = next-none text at; cuts = λ end next h. let c = next-cuts text at end next h in (c.moves, c.within, c.lines) }

pub read-back : ReadBack
read-back = entries_of-map_text
