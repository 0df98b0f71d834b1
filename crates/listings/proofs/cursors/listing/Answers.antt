-- `listings::cursors::listing` meets its contract: of an image that no map has it answers 6, else the cursor that `start` gives (`start-path`). Assumes nothing.
use mathlib.Core.Path.{◌≡◌, sym, ap, ◌∙◌}
use mathlib.Core.Bool.{true}
use mathlib.Core.List.{◌∷◌}
use Rattle.image.specs.AcceptTest.{image_test}
use Rattle.image.specs.Meaning.{image_in, MapImage}
use Rattle.image.proofs.Laws.AcceptAnswer.{passed-says, past-test}
use Rattle.listings.specs.declared.answers.Cursor.{Cursor}
use Rattle.listings.specs.Answers.{said_cursor}
use Rattle.listings.specs.Cursors.{start_says}
use Rattle.listings.proofs.Laws.Cursors.{start_says-accepted}
use Rattle.listings.proofs.Laws.Numbers.{start-path}
use Rattle.listings.proofs.cursors.listing.Goals.{In_ok-accept}
use Rattle.listings.proofs.cursors.listing.Goals as goal

pub returns-in_err-accept : goal.returns-in_err-accept
unfolding start_says
returns-in_err-accept c =
    record { answer = passed-says (image_in c.args.labels c.args.values c.args.words) _ _ _ c.accept.ensures.tested c.in_err-accept.was c.from_residual.ensures.1 said_cursor _ }

-- past the test the image is a map's
past : (c : In_ok-accept) → (image_test (image_in c.args.labels c.args.values c.args.words) ≡ true) × MapImage (image_in c.args.labels c.args.values c.args.words)
past c =
    past-test (image_in c.args.labels c.args.values c.args.words)
    (record { words-wide = λ w. (c.type_inv.words w).fits; values-wide = λ e. (c.type_inv.values e).fits }) _ _
    c.accept.ensures.tested
    c.in_ok-accept.was

pub returns : goal.returns
returns c =
    let i = image_in c.args.labels c.args.values c.args.words in
    let at = (goal.at.returns c).In_ok-accept in
    record {
      answer = ap (λ (d : Cursor). 0 ∷ said_cursor d) (c.start.ensures ∙ start-path i (past at).1 c.args.kind c.args.query.now)
          ∙ sym (start_says-accepted i c.args.kind c.args.query.now (past at).0);
    }
