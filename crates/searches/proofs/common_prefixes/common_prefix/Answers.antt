-- `searches::common_prefixes::common_prefix` meets its contract: of an image that no map has it answers 6, else what the map says. Assumes nothing.
use mathlib.Core.Path.{◌≡◌, sym, ap, ◌∙◌}
use mathlib.Core.Bool.{true}
use Rattle.std.specs.Prelude.{Ok, Option}
use Rattle.image.specs.AcceptTest.{image_test}
use Rattle.image.specs.Meaning.{image_in, MapImage}
use Rattle.image.proofs.Laws.AcceptAnswer.{passed-says, past-test}
use Rattle.searches.specs.declared.answers.Common.{Common}
use Rattle.searches.specs.Answers.{told_common, said_common}
use Rattle.searches.specs.CommonPrefixes.{common_says}
use Rattle.searches.proofs.Laws.CommonPrefixes.{said-rule, common_says-accepted}
use Rattle.searches.proofs.common_prefixes.common_prefix.Goals.{In_ok-accept}
use Rattle.searches.proofs.common_prefixes.common_prefix.Goals as goal

pub returns-in_err-accept : goal.returns-in_err-accept
unfolding common_says
returns-in_err-accept c =
    record { answer = passed-says (image_in c.args.labels c.args.values c.args.words) _ _ _ c.accept.ensures.tested c.in_err-accept.was c.from_residual.ensures.1 told_common _ }

-- past the test the image is a map's
past : (c : In_ok-accept) → (image_test (image_in c.args.labels c.args.values c.args.words) ≡ true) × MapImage (image_in c.args.labels c.args.values c.args.words)
past c =
    past-test (image_in c.args.labels c.args.values c.args.words)
    (record { words-wide = λ w. (c.type_inv.words w).fits; values-wide = λ e. (c.type_inv.values e).fits }) _ _
    c.accept.ensures.tested
    c.in_ok-accept.was

pub returns : goal.returns
returns c =
    let i = image_in c.args.labels c.args.values c.args.words in
    let q = c.args.query.now in
    let at = (goal.at.returns c).In_ok-accept in
    record { answer = ap (λ (o : Option Common). said_common (Ok o)) c.shortest.ensures ∙ said-rule i (past at).1 q c.args.seen ∙ sym (common_says-accepted i q c.args.seen (past at).0) }
