-- `places::reading::value` meets its contract: 6 of an image that no map has, then 7 of a number that is no node's, else what the node holds. Assumes nothing.
use mathlib.Core.Path.{sym, ap, ◌∙◌}
use Rattle.keymap.proofs.Laws.Paths.{is_node-iff}
use Rattle.keymap.specs.Answers.{says_value}
use Rattle.image.specs.Meaning.{image_in}
use Rattle.walks.proofs.Laws.MapWalk.{node-value}
use Rattle.places.specs.Places.{said_valued}
use Rattle.places.proofs.Laws.Incremental.{Belongs, checked-ok, passed-on}
use Rattle.places.proofs.Laws.Places.{on_place-kept, value-is}
use Rattle.places.proofs.reading.value.Goals.{In_ok-check_place}
use Rattle.places.proofs.reading.value.Goals as goal

pub returns-in_err-check_place : goal.returns-in_err-check_place
returns-in_err-check_place c =
    let (r, is, stays) = passed-on (image_in c.args.labels c.args.values c.args.words) c.args.place.node _ _ _ c.check_place.ensures c.in_err-check_place.was c.from_residual.ensures.1 in
    record { answer = ap said_valued is ∙ sym (value-is (image_in c.args.labels c.args.values c.args.words) c.args.place.node ∙ stays.says _) }

-- past the tests
within : (c : In_ok-check_place) → Belongs (image_in c.args.labels c.args.values c.args.words) c.args.place.node
within c =
    checked-ok _ _ (record { words-wide = λ w. (c.type_inv.words w).fits; values-wide = λ e. (c.type_inv.values e).fits }) _
    (sym c.check_place.ensures ∙ c.in_ok-check_place.was)

-- at a node of the map the map's value is what the node holds
pub returns : goal.returns
returns c =
    let i = (image_in c.args.labels c.args.values c.args.words) in
    let node = c.args.place.node in
    let at = within (goal.at.returns c).In_ok-check_place in
    record { answer = ap says_value (c.value_at.ensures ∙ node-value i at.whole node ((is_node-iff _ _).0 at.inside)) ∙ sym (value-is i node ∙ on_place-kept i node _ at.fits at.inside) }
