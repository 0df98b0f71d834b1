-- `searches::exact::exact_match` meets its contract: of an image that no map has it answers 6, else what the map holds. Assumes nothing.
use mathlib.Core.Path.{◌≡◌, sym, ap, ◌∙◌}
use mathlib.Core.Bool.{true}
use Rattle.image.specs.AcceptTest.{image_test}
use Rattle.image.specs.Meaning.{image_in, MapImage}
use Rattle.image.proofs.Laws.AcceptAnswer.{passed-says, past-test}
use Rattle.keymap.specs.Answers.{told_value, says_value}
use Rattle.walks.proofs.Laws.MapWalk.{value-rule}
use Rattle.searches.specs.Exact.{exact_says}
use Rattle.searches.proofs.Laws.Exact.{exact_says-accepted}
use Rattle.searches.proofs.exact.exact_match.Goals.{In_ok-accept}
use Rattle.searches.proofs.exact.exact_match.Goals as goal

pub returns-in_err-accept : goal.returns-in_err-accept
unfolding exact_says
returns-in_err-accept c =
    record { answer = passed-says (image_in c.args.labels c.args.values c.args.words) _ _ _ c.accept.ensures.tested c.in_err-accept.was c.from_residual.ensures.1 told_value _ }

-- past the test the image is a map's
past : (c : In_ok-accept) → (image_test (image_in c.args.labels c.args.values c.args.words) ≡ true) × MapImage (image_in c.args.labels c.args.values c.args.words)
past c =
    past-test (image_in c.args.labels c.args.values c.args.words)
    (record { words-wide = λ w. (c.type_inv.words w).fits; values-wide = λ e. (c.type_inv.values e).fits }) _ _
    c.accept.ensures.tested
    c.in_ok-accept.was

pub returns : goal.returns
returns c =
    let i = image_in c.args.labels c.args.values c.args.words in
    let q = c.args.query.now in
    let at = (goal.at.returns c).In_ok-accept in
    record { answer = ap says_value (c.value_of.ensures ∙ value-rule i (past at).1 q) ∙ sym (exact_says-accepted i q (past at).0) }
