-- `lines::tab_line` meets its contract: the first TAB and an LF before it decide, and then the number. Assumes nothing.
use mathlib.Core.Path.{◌≡◌, refl, sym, ap, ◌∙◌}
use mathlib.Core.Bool.{Bool, false}
use mathlib.Core.List.{List, [], ◌∷◌}
use Prim.Native.Nat.{ℕ, ◌+◌, ◌-◌}
use native.Mathlib.Numerals.{add-one}
use native.Mathlib.Omega.{arith}
use lib.Dec.{eqb}
use lib.ListN.{length, take, drop, length-drop}
use lib.Seq.{take_all}
use Rattle.std.specs.Prelude.{Option, None, Some, is_some, position, Result, Err}
use Rattle.std.specs.Option.{ok_or}
use Rattle.std.proofs.lemmas.Result.{err_from_is_err_and}
use Rattle.keymap.specs.declared.refusals.Refusal.{Refusal}
use Rattle.keymap.specs.declared.refusals.Refusal.TheVariants.{BadLine}
use Rattle.lines.specs.Bytes.{tab, line_feed, holds}
use Rattle.lines.specs.Decimal.{number_in}
use Rattle.lines.specs.TabLine.{key_part, number_part, with_number, tab_entry, tab_line_says}
use Rattle.lines.proofs.Laws.Bytes.{position-Some, position-None, is_some-position}
use Rattle.lines.proofs.Laws.TabLine.{tab_entry-no-tab, tab_entry-lf, tab_entry-number, length-key_part, tab_line_says-none, tab_line_says-some}
use Rattle.lines.proofs.tab_line.Goals as goal

-- the first TAB, and what stands before and behind it
module _ (line : List ℕ) (t : ℕ) (found : position (λ (a : ℕ). eqb a tab) line ≡ Some t) where
  keyed : (b : Bool) → b ≡ is_some (position (λ (a : ℕ). eqb a line_feed) (take t line)) → holds line_feed (key_part line) ≡ b
  unfolding key_part
  keyed b e = ap (λ (n : ℕ). holds line_feed (take n line)) (sym (position-Some tab line t found).0) ∙ sym (is_some-position line_feed (take t line)) ∙ sym e

  numbered : (o : Option ℕ) → o ≡ number_in (take (length line - (t + 1)) (drop (t + 1) line)) → number_in (number_part line) ≡ o
  unfolding number_part
  numbered o q =
      let behind : take (length line - (t + 1)) (drop (t + 1) line) ≡ drop (t + 1) line = take_all (length line - (t + 1)) (drop (t + 1) line) (simp length-drop (omega arith)) in
      rw (← (position-Some tab line t found).0, ← add-one, ← behind) (sym q)

refused : (line : List ℕ) → tab_entry line ≡ None → 9 ∷ [] ≡ tab_line_says line
refused line h = sym (tab_line_says-none line h)

-- what is not there is a bad line
exit : (o : Option ℕ) (r : Refusal) → ◌≡◌ {A = Result ℕ Refusal} (Err r) (ok_or o BadLine) → (o ≡ None) × (r ≡ BadLine)
exit None r e = (refl, cc)
exit (Some n) r e = cc

pub returns-in_err-tab : goal.returns-in_err-tab
returns-in_err-tab c =
    let returned = err_from_is_err_and c.from_residual.result c.from_residual.ensures.1 in
    let missing = exit _ _ c.in_err-tab.ensures.value in
    rw (returned.1, returned.2, missing.1) (refused _ (tab_entry-no-tab _ (position-None tab _ (sym c.find.ensures ∙ missing.0))))

pub returns-then-is_some : goal.returns-then-is_some
returns-then-is_some c =
    let found = sym c.find.ensures ∙ c.in_ok-tab.ensures.ok_part in
    refused _ (tab_entry-lf _ (keyed _ _ found _ (c.if-is_some.ensures ∙ ap is_some c.find-2.ensures)))

-- a line with a TAB and no LF before it
entry : (line : List ℕ) (t : ℕ) (r o : Option ℕ) → position (λ (a : ℕ). eqb a tab) line ≡ Some t → false ≡ is_some r
    → r ≡ position (λ (a : ℕ). eqb a line_feed) (take t line) → o ≡ number_in (take (length line - (t + 1)) (drop (t + 1) line)) → tab_entry line ≡ with_number (key_part line) o
entry line t r o found no-lf e q =
    tab_entry-number line (omega (arith, position-Some tab line t found)) (keyed line t found false (no-lf ∙ ap is_some e)) ∙ ap (with_number (key_part line)) (numbered line t found o q)

pub returns-in_err-number : goal.returns-in_err-number
returns-in_err-number c =
    let returned = err_from_is_err_and c.from_residual-in_err-number.result c.from_residual-in_err-number.ensures.1 in
    let missing = exit _ _ c.in_err-number.ensures.value in
    rw (returned.1, returned.2, missing.1)
    (refused _ (entry _ _ _ _ (sym c.find.ensures ∙ c.in_ok-tab.ensures.ok_part) c.if-is_some.ensures c.find-2.ensures (sym missing.0 ∙ c.number_in.ensures)))

pub returns : goal.returns
returns c =
    let line = c.args.line.now in
    let number = c.in_ok-number.number in
    let found = sym c.find.ensures ∙ c.in_ok-tab.ensures.ok_part in
    let length-key = (position-Some tab line _ found).0 ∙ sym (length-key_part line) in
    ap (λ (n : ℕ). 0 ∷ n ∷ number ∷ []) length-key
    ∙ sym (tab_line_says-some line (key_part line, number) (entry line _ _ _ found c.if-is_some.ensures c.find-2.ensures (sym c.in_ok-number.ensures.ok_part ∙ c.number_in.ensures)))
