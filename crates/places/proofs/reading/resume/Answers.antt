-- `places::reading::resume` meets its contract: 6 of an image that no map has, then 7 of a number that is no node's, else the place. Assumes nothing.
use mathlib.Core.Path.{sym, ap, ◌∙◌}
use Rattle.image.specs.Meaning.{image_in}
use Rattle.places.specs.Places.{said_resumed}
use Rattle.places.proofs.Laws.Incremental.{Belongs, checked-ok, passed-on}
use Rattle.places.proofs.Laws.Places.{on_place-kept, resume-is}
use Rattle.places.proofs.reading.resume.Goals.{In_ok-check_place}
use Rattle.places.proofs.reading.resume.Goals as goal

pub returns-in_err-check_place : goal.returns-in_err-check_place
returns-in_err-check_place c =
    let (r, is, stays) = passed-on (image_in c.args.labels c.args.values c.args.words) c.args.node _ _ _ c.check_place.ensures c.in_err-check_place.was c.from_residual.ensures.1 in
    record { answer = ap said_resumed is ∙ sym (resume-is (image_in c.args.labels c.args.values c.args.words) c.args.node ∙ stays.says _) }

-- past the tests
within : (c : In_ok-check_place) → Belongs (image_in c.args.labels c.args.values c.args.words) c.args.node
within c =
    checked-ok _ _ (record { words-wide = λ w. (c.type_inv.words w).fits; values-wide = λ e. (c.type_inv.values e).fits }) _
    (sym c.check_place.ensures ∙ c.in_ok-check_place.was)

pub returns : goal.returns
returns c =
    let at = within (goal.at.returns c).In_ok-check_place in
    record { answer = sym (resume-is (image_in c.args.labels c.args.values c.args.words) c.args.node ∙ on_place-kept (image_in c.args.labels c.args.values c.args.words) c.args.node _ at.fits at.inside) }
