-- `places::checks::check_place` meets its contract: 6 of an image that no map has, then 7 of a number that is no node's. Assumes nothing.
use mathlib.Core.Path.{◌≡◌, refl, sym, ◌∙◌}
use mathlib.Core.Bool.{Bool, true}
use lib.ListN.{length}
use Rattle.keymap.specs.Paths.{is_node}
use Rattle.keymap.specs.Decode.{image_map}
use Rattle.image.specs.AcceptTest.{image_test}
use Rattle.image.specs.Meaning.{image_in, MapImage}
use Rattle.image.proofs.Laws.AcceptAnswer.{accepted-ok}
use Rattle.image.proofs.Laws.Meaning.{tested-map_image}
use Rattle.walks.specs.Rule.{is_node_of}
use Rattle.walks.proofs.Laws.MapImage.{is_node-is}
use Rattle.places.proofs.checks.check_place.Goals.{In_ok-accept}
use Rattle.places.proofs.checks.check_place.Goals as goal

-- past the first test the image is a map's
tested : (c : In_ok-accept) → image_test (image_in c.args.labels c.args.values c.args.words) ≡ true
tested c = accepted-ok _ _ (sym c.accept.ensures.tested ∙ c.in_ok-accept.was)

whole : (c : In_ok-accept) → MapImage (image_in c.args.labels c.args.values c.args.words)
whole c =
    tested-map_image (image_in c.args.labels c.args.values c.args.words)
    (record { words-wide = λ w. (c.type_inv.words w).fits; values-wide = λ e. (c.type_inv.values e).fits })
    (tested c)

-- what the test of the number says of the map
node-told : (c : In_ok-accept) (r t : Bool) → r ≡ is_node_of (length c.args.labels.now) c.args.node → r ≡ t → is_node (image_map (image_in c.args.labels c.args.values c.args.words)) c.args.node ≡ t
node-told c r t says e =
    sym (is_node-is (image_in c.args.labels c.args.values c.args.words) (whole c) c.args.node) ∙ sym says ∙ e

pub returns-then-not-is_node : goal.returns-then-not-is_node
returns-then-not-is_node c =
    let at = (goal.at.returns-then-not-is_node c).In_ok-accept in
    rw (tested at, node-told at _ _ c.is_node.ensures c.if-not-is_node.true) refl

pub returns : goal.returns
returns c =
    let at = (goal.at.returns c).In_ok-accept in
    rw (tested at, node-told at _ _ c.is_node.ensures c.if-not-is_node.false) refl
