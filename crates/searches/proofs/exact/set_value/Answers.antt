-- `searches::exact::set_value` meets its contract: of an image that no map has it answers 6, else what the map holds; and it writes the key's own entry. Assumes nothing.
use mathlib.Core.Path.{◌≡◌, sym, ap, ◌∙◌}
use Prim.Native.Nat.{ℕ, ◌-◌}
use native.Mathlib.Omega.{arith}
use mathlib.Core.Bool.{true}
use lib.ListN.{set}
use Rattle.image.specs.AcceptTest.{image_test}
use Rattle.image.specs.Meaning.{as_image, MapImage}
use Rattle.image.proofs.Laws.AcceptAnswer.{passed-fails, passed-says, past-test}
use Rattle.keymap.specs.Answers.{told_value, says_value}
use Rattle.walks.proofs.Laws.MapWalk.{value-rule}
use Rattle.searches.specs.Exact.{exact_says}
use Rattle.searches.proofs.Laws.Exact.{Found, keyed-found, keyed-missed, found_inside, found-key, exact_says-accepted, set_values-refused, set_values-absent, set_values-present}
use Rattle.searches.proofs.exact.set_value.Goals.{In_ok-accept, In-Some}
use Rattle.searches.proofs.exact.set_value.Goals as goal

pub returns-in_err-accept-clause-answer : goal.returns-in_err-accept-clause-answer
unfolding exact_says
returns-in_err-accept-clause-answer c = passed-says (as_image c.args.labels.now c.args.values.now c.args.words.now) _ _ _ c.accept.ensures.tested c.in_err-accept.was c.from_residual.ensures.1 told_value _

pub returns-in_err-accept-clause-written : goal.returns-in_err-accept-clause-written
returns-in_err-accept-clause-written c =
    sym (set_values-refused (as_image c.args.labels.now c.args.values.now c.args.words.now) c.args.query.now (passed-fails (as_image c.args.labels.now c.args.values.now c.args.words.now) _ _ c.from_residual.result c.accept.ensures.tested c.in_err-accept.was) c.args.value)

-- past the test the image is a map's
past : (c : In_ok-accept) → (image_test (as_image c.args.labels.now c.args.values.now c.args.words.now) ≡ true) × MapImage (as_image c.args.labels.now c.args.values.now c.args.words.now)
past c =
    past-test (as_image c.args.labels.now c.args.values.now c.args.words.now)
    (record { words-wide = λ w. (c.type_inv.words w).fits; values-wide = λ e. (c.slice_known-1.given e).fits }) _ _
    c.accept.ensures.tested
    c.in_ok-accept.was

pub returns-in_default-clause-answer : goal.returns-in_default-clause-answer
returns-in_default-clause-answer c =
    let i = as_image c.args.labels.now c.args.values.now c.args.words.now in
    let q = c.args.query.now in
    let at = (goal.at.returns-in_default-clause-answer c).In_ok-accept in
    sym (exact_says-accepted i q (past at).0 ∙ ap says_value (sym (value-rule i (past at).1 q) ∙ keyed-missed i q (sym c.find.ensures ∙ c.in_default.is)))

pub returns-in_default-clause-written : goal.returns-in_default-clause-written
returns-in_default-clause-written c =
    let i = as_image c.args.labels.now c.args.values.now c.args.words.now in
    let q = c.args.query.now in
    let at = (goal.at.returns-in_default-clause-written c).In_ok-accept in
    sym (set_values-absent i q (past at).0 c.args.value (sym (value-rule i (past at).1 q) ∙ keyed-missed i q (sym c.find.ensures ∙ c.in_default.is)))

-- the key that was found
found : (c : In-Some)
    →
    Found (as_image c.args.labels.now c.args.values.now c.args.words.now) c.args.query.now c.in-Some.key.node c.in-Some.key.value
found c = keyed-found _ _ _ _ (sym c.find.ensures ∙ c.in-Some.is)

pub overflow_sub-values : goal.overflow_sub-values
overflow_sub-values c = omega (arith, found_inside _ _ _ _ (found (goal.at.overflow_sub-values c).In-Some))

pub offset_bounds-values-key : goal.offset_bounds-values-key
offset_bounds-values-key c = omega (arith, found_inside _ _ _ _ (found (goal.at.offset_bounds-values-key c).In-Some))

pub bounds-values-key : goal.bounds-values-key
bounds-values-key c = omega (arith, found_inside _ _ _ _ (found (goal.at.bounds-values-key c).In-Some))

pub returns-clause-answer : goal.returns-clause-answer
returns-clause-answer c =
    let i = as_image c.args.labels.now c.args.values.now c.args.words.now in
    let q = c.args.query.now in
    let at = (goal.at.returns-clause-answer c).In_ok-accept in
    let (number, held) = found-key i (past at).1 q _ _ (found (goal.at.returns-clause-answer c).In-Some) in
    sym (exact_says-accepted i q (past at).0 ∙ ap says_value held)

pub returns-clause-written : goal.returns-clause-written
returns-clause-written c =
    let i = as_image c.args.labels.now c.args.values.now c.args.words.now in
    let q = c.args.query.now in
    let v = c.args.value in
    let at = (goal.at.returns-clause-written c).In_ok-accept in
    let (number, held) = found-key i (past at).1 q _ _ (found (goal.at.returns-clause-written c).In-Some) in
    ap (λ (k : ℕ). set c.args.values.now (k - 2) v) number ∙ sym (set_values-present i q (past at).0 v _ held)
