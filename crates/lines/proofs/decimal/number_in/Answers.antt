-- `lines::decimal::number_in` meets its contract: each early return is a part of the rule that is broken, and the last one has them all. Assumes nothing.
use mathlib.Core.Path.{◌≡◌, sym, ap, ◌∙◌}
use mathlib.Core.Bool.{false}
use mathlib.Core.List.{List}
use Rattle.std.specs.Prelude.{Some}
use Prim.Native.Nat.{ℕ, ◌≤◌, ◌<◌}
use native.Mathlib.Omega.{arith}
use lib.ListN.{length}
use borrow.Author.Tests.{eqb-true, eqb-false}
use Rattle.std.specs.Prelude.{Result, Ok, Err, Some}
use Rattle.std.specs.Result.{OkIff, result_ok}
use Rattle.keymap.specs.Limits.{value_limit}
use Rattle.lines.specs.Decimal.{most_digits, leading_zero, number_in}
use Rattle.lines.specs.Numerals.{digits_in}
use Rattle.lines.proofs.Laws.Decimal.{number_in-empty, number_in-long, number_in-zero, number_in-other, number_in-large, number_in-obeyed}
use Rattle.lines.proofs.Laws.Numerals.{digits_in-value, digits_in-other}
use Rattle.lines.proofs.decimal.number_in.Goals as goal

-- digits that obey the rest of the rule decide by what they stand for
tried : {E : Type 0} (t : List ℕ) (v : ℕ) (r : Result ℕ E) → 1 ≤ length t → length t ≤ most_digits → leading_zero t ≡ false → digits_in t ≡ Some v
    → OkIff r (v < value_limit) v → result_ok r ≡ number_in t
tried t v (Ok w) n m z d o =
    let k = digits_in-value t v d in
    sym (number_in-obeyed t (record { some-digit = n; few-digits = m; no-leading-zero = z; all_digits = k.0; in-range = rw k.1 o.0 }) ∙ ap Some (k.1 ∙ sym o.1))
tried t v (Err e) n m z d o =
    let large : value_limit ≤ v = omega (arith, o) in
    sym (number_in-large t (rw (digits_in-value t v d).1 large))

pub returns-then-is_empty : goal.returns-then-is_empty
returns-then-is_empty c = sym (number_in-empty _ (eqb-true _ _ (sym c.if-is_empty.ensures)))

pub returns-then-text-gt-MOST_DIGITS : goal.returns-then-text-gt-MOST_DIGITS
returns-then-text-gt-MOST_DIGITS c = sym (number_in-long _ (omega arith))

pub returns-then-leads_with_zero : goal.returns-then-leads_with_zero
returns-then-leads_with_zero c = sym (number_in-zero _ (sym c.leads_with_zero.ensures ∙ c.if-leads_with_zero.true))

pub returns-in_err-value : goal.returns-in_err-value
returns-in_err-value c =
    let told : number_in c.args.text.now ≡ _ = number_in-other _ (digits_in-other _ (sym c.digits_in.ensures ∙ c.in_err-value.was)) in
    c.from_residual.ensures ∙ sym told

pub returns : goal.returns
returns c =
    let nonempty : 1 ≤ length c.args.text.now = omega (arith, eqb-false (length c.args.text.now) 0 (sym c.if-is_empty.ensures)) in
    c.ok.ensures.value ∙ tried _ _ _ nonempty (omega arith) (sym c.leads_with_zero.ensures ∙ c.if-leads_with_zero.false) (sym c.digits_in.ensures ∙ c.in_ok-value.was) c.try_from.ensures
