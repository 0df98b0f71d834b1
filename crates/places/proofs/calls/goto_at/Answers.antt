-- `places::calls::goto_at` meets its contract: 6 of an image that no map has, then 7 of a number that is no node's, else what the walk on numbers answers. Assumes nothing.
use mathlib.Core.Path.{sym, ◌∙◌}
use Rattle.image.specs.Meaning.{image_in}
use Rattle.places.proofs.Laws.Incremental.{Belongs, checked-ok, checked-err, promise-stays, goto-promise}
use Rattle.places.proofs.Laws.MapMoves.{goto-kept}
use Rattle.places.proofs.calls.goto_at.Goals.{In-Ok}
use Rattle.places.proofs.calls.goto_at.Goals as goal

-- past the tests
within : (c : In-Ok) → Belongs (image_in c.args.labels c.args.values c.args.words) c.args.node
within c =
    checked-ok _ _ (record { words-wide = λ w. (c.type_inv.words w).fits; values-wide = λ e. (c.type_inv.values e).fits }) _
    (sym c.check_place.ensures ∙ c.in-Ok.is)

pub returns-in-Ok : goal.returns-in-Ok
returns-in-Ok c =
    let at = within (goal.at.returns-in-Ok c).In-Ok in
    rw c.go_down.ensures (goto-kept (image_in c.args.labels c.args.values c.args.words) at.whole at.fits c.args.node at.inside)

pub returns-in-Err : goal.returns-in-Err
returns-in-Err c =
    goto-promise (image_in c.args.labels c.args.values c.args.words) c.args.node _ _ (promise-stays (image_in c.args.labels c.args.values c.args.words) c.args.node _ _ _ (checked-err _ _ _ (sym c.check_place.ensures ∙ c.in-Err.is)))
