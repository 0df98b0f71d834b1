-- `places::reading::prefix` meets its contract: 6 of an image that no map has, then 7 of a number that is no node's, then 8 of a buffer that is too short; else the path is spelled. Assumes nothing.
use mathlib.Core.Path.{◌≡◌, refl, sym, ap, ◌∙◌}
use Rattle.keymap.specs.Paths.{path_of}
use Rattle.keymap.specs.Decode.{image_map}
use Rattle.keymap.proofs.Laws.Paths.{is_node-iff}
use Rattle.image.specs.Meaning.{image_in}
use Prim.Native.Nat.{ℕ}
use native.Mathlib.Omega.{arith}
use mathlib.Core.List.{[], ◌∷◌}
use lib.ListN.{length}
use Rattle.keymap.specs.Bits.{bit}
use Rattle.keymap.specs.Image.{bits_for}
use Rattle.climbs.specs.Perches.{depth_by}
use Rattle.climbs.specs.Spelling.{said_spelled}
use Rattle.climbs.proofs.Laws.Spelling.{spell-path, spelled-all}
use Rattle.climbs.proofs.Laws.MapClimb.{depth-path}
use Rattle.places.proofs.Laws.Incremental.{Belongs, checked-ok, passed-on}
use Rattle.places.proofs.Laws.Places.{prefix-stays, prefix-short, prefix-written}
use Rattle.places.proofs.reading.prefix.Goals.{In_ok-check_place}
use Rattle.places.proofs.reading.prefix.Goals as goal

pub returns-in_err-check_place : goal.returns-in_err-check_place
returns-in_err-check_place c =
    let (r, is, stays) = passed-on (image_in c.args.labels c.args.values c.args.words) c.args.place.node _ _ _ c.check_place.ensures c.in_err-check_place.was c.from_residual.ensures.1 in
    let says = prefix-stays (image_in c.args.labels c.args.values c.args.words) c.args.place.node c.args.out.now r stays in
    record { answer = ap said_spelled is ∙ sym says.says_is; written = sym says.after_is }

-- past the tests
within : (c : In_ok-check_place) → Belongs (image_in c.args.labels c.args.values c.args.words) c.args.place.node
within c =
    checked-ok _ _ (record { words-wide = λ w. (c.type_inv.words w).fits; values-wide = λ e. (c.type_inv.values e).fits }) _
    (sym c.check_place.ensures ∙ c.in_ok-check_place.was)

-- as deep as the path is long
long : (c : In_ok-check_place) (n : ℕ) → n ≡ depth_by (bit c.args.words.now) (bits_for (length c.args.labels.now)) c.args.place.node
    → n ≡ length (path_of (image_map (image_in c.args.labels c.args.values c.args.words)) c.args.place.node)
long c n says = says ∙ depth-path (image_in c.args.labels c.args.values c.args.words) (within c).whole c.args.place.node ((is_node-iff _ _).0 (within c).inside)

pub returns-then-out-length : goal.returns-then-out-length
returns-then-out-length c =
    let at = within (goal.at.returns-then-out-length c).In_ok-check_place in
    let size = long (goal.at.returns-then-out-length c).In_ok-check_place _ c.depth-length.ensures in
    let is = prefix-short (image_in c.args.labels c.args.values c.args.words) c.args.place.node c.args.out.now at.fits at.inside (omega arith) in
    record { answer = sym is.says_is; written = sym is.after_is }

pub returns : goal.returns
returns c =
    let i = (image_in c.args.labels c.args.values c.args.words) in
    let node = c.args.place.node in
    let out = c.args.out.now in
    let at = within (goal.at.returns c).In_ok-check_place in
    let size = long (goal.at.returns c).In_ok-check_place _ c.depth-length.ensures in
    let is = prefix-written i node out at.fits at.inside (omega arith) in
    let spelled = spell-path i at.whole node ((is_node-iff _ _).0 at.inside) c.depth-length.result (omega arith) out (omega arith) in
    record { answer = ap (λ n. 0 ∷ n ∷ []) size ∙ sym is.says_is; written = c.spell.ensures ∙ spelled ∙ spelled-all _ _ _ out refl size ∙ sym is.after_is }
