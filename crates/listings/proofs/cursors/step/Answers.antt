-- `listings::cursors::step` meets its contract: of an image that no map has it answers 6; a finished cursor ends; of one that does not belong it answers 7;
-- else what `next_given` gives. Assumes nothing.
use mathlib.Core.Path.{◌≡◌, sym, ap, ◌∙◌}
use Prim.Native.Nat.{◌+◌, ◌≤◌}
use native.Mathlib.Omega.{arith}
use mathlib.Core.Bool.{true}
use mathlib.Core.List.{◌∷◌}
use Rattle.std.specs.Prelude.{Option, Some}
use borrow.Author.Rules.{rules}
use Rattle.keymap.specs.Limits.{most_records}
use Rattle.keymap.specs.Bits.{bit}
use Rattle.keymap.specs.Image.{Image, bits_for}
use Rattle.keymap.specs.Map.{Entry, Map}
use Rattle.keymap.specs.Paths.{path_of}
use Rattle.keymap.specs.Decode.{image_map}
use Rattle.image.specs.Accept.{entries}
use Rattle.image.specs.AcceptTest.{image_test}
use Rattle.image.specs.Meaning.{image_in, MapImage}
use Rattle.image.proofs.Laws.AcceptAnswer.{passed-says, past-test}
use Rattle.climbs.specs.Order.{given_by, given_of}
use Rattle.walks.specs.declared.entries.KeyNode.{KeyNode}
use Rattle.listings.specs.declared.answers.Cursor.{Cursor}
use Rattle.listings.specs.declared.answers.Cursor.TheVariants.{Open}
use Rattle.listings.specs.Answers.{told_step, said_cursor}
use Rattle.listings.specs.Cursors.{set_of, belongs, next_in, says_step, step_says}
use Rattle.listings.specs.Numbers.{next_given_by}
use Rattle.walks.proofs.Laws.MapImage.{length-nodes}
use Rattle.listings.proofs.Laws.Cursors.{step_says-finished, step_says-bad, step_says-open, says_step-entry, says_step-nothing, given_inside}
use Rattle.listings.proofs.Laws.Numbers.{stands-path, given-path}
use Rattle.listings.proofs.cursors.step.Goals.{In_ok-accept, Else-not-stands}
use Rattle.listings.proofs.cursors.step.Goals as goal

pub returns-in_err-accept : goal.returns-in_err-accept
unfolding step_says
returns-in_err-accept c =
    record { answer = passed-says (image_in c.args.labels c.args.values c.args.words) _ _ _ c.accept.ensures.tested c.in_err-accept.was c.from_residual.ensures.1 told_step _ }

-- past the test the image is a map's
past : (c : In_ok-accept) → (image_test (image_in c.args.labels c.args.values c.args.words) ≡ true) × MapImage (image_in c.args.labels c.args.values c.args.words)
past c =
    past-test (image_in c.args.labels c.args.values c.args.words)
    (record { words-wide = λ w. (c.type_inv.words w).fits; values-wide = λ e. (c.type_inv.values e).fits }) _ _
    c.accept.ensures.tested
    c.in_ok-accept.was

pub returns-in_default : goal.returns-in_default
returns-in_default c =
    let i = image_in c.args.labels c.args.values c.args.words in
    record {
      answer =
          ap (λ (d : Cursor). 0 ∷ 0 ∷ said_cursor d) c.in_default.is
          ∙ sym (ap (step_says i) c.in_default.is ∙ step_says-finished i _ (past (goal.at.returns-in_default c).In_ok-accept).0);
    }

pub returns-then-not-stands : goal.returns-then-not-stands
returns-then-not-stands c =
    let p = (goal.at.returns-then-not-stands c).In_ok-accept in
    let i = image_in c.args.labels c.args.values c.args.words in
    record {
      answer = sym
          (ap (step_says i) c.in-Open.is
          ∙ step_says-bad i _ _ _ (past p).0 (sym (stands-path i (past p).1 _ _ _) ∙ sym c.stands.ensures ∙ c.if-not-stands.true));
    }

-- the image, its map, and what the cursor's next step gives
abbrev image_at : Else-not-stands → Image
image_at c = image_in c.args.labels c.args.values c.args.words

abbrev map_at : Else-not-stands → Map
map_at c = image_map (image_at c)

abbrev next_at : Else-not-stands → Option Entry
next_at c = next_in (map_at c) (set_of (map_at c) c.in-Open.kind (path_of (map_at c) c.in-Open.top)) c.in-Open.last

-- the cursor's numbers belong
belonging : (c : Else-not-stands) → belongs (map_at c) (Open c.in-Open.kind c.in-Open.top c.in-Open.last) ≡ true
belonging c =
    sym (stands-path _ (past (goal.at.overflow_cast-top c).In_ok-accept).1 c.in-Open.kind c.in-Open.top c.in-Open.last)
    ∙ sym c.stands.ensures
    ∙ c.if-not-stands.false

says : (c : Else-not-stands) → step_says (image_at c) c.args.cursor ≡ says_step (map_at c) c.in-Open.kind c.in-Open.top (next_at c)
says c =
    ap (step_says (image_at c)) c.in-Open.is
    ∙ step_says-open (image_at c) c.in-Open.kind c.in-Open.top c.in-Open.last (past (goal.at.overflow_cast-top c).In_ok-accept).0 (belonging c)

-- what was given is the next entry of the cursor's set
abbrev given_at : Else-not-stands → Option KeyNode
given_at c =
    let i = image_at c in
    given_of (next_given_by i.labels i.values (bit i.words) (bits_for (entries i)) c.in-Open.kind c.in-Open.top c.in-Open.last)

gives : (c : Else-not-stands) (result is : Option KeyNode) → result ≡ given_at c → result ≡ is → given_by (map_at c) (next_at c) ≡ is
gives c result is ensured matched =
    sym (given-path _ (past (goal.at.overflow_cast-top c).In_ok-accept).1 c.in-Open.kind c.in-Open.top c.in-Open.last (belonging c))
    ∙ sym ensured
    ∙ matched

-- the node given is a node, so that its number fits
fits : (c : Else-not-stands) (n : KeyNode) → given_by (map_at c) (next_at c) ≡ Some n → n.node ≤ most_records + 1
fits c n given =
    let map = (past (goal.at.overflow_cast-top c).In_ok-accept).1 in
    let inside = given_inside (map_at c) map.catalogue.rising c.in-Open.kind (path_of (map_at c) c.in-Open.top) c.in-Open.last n given in
    omega (arith, inside.1, length-nodes (image_at c) map, map.few)

pub overflow_cast-node : goal.overflow_cast-node
overflow_cast-node c =
    let b = (goal.at.overflow_cast-node c).Else-not-stands in
    omega (arith, fits b _ (gives b _ _ c.next_given.ensures c.in-Some.is))

pub returns-in-Some : goal.returns-in-Some
returns-in-Some c =
    let b = (goal.at.returns-in-Some c).Else-not-stands in
    record {
      answer = sym
          (says b
          ∙ says_step-entry (map_at b) b.in-Open.kind b.in-Open.top (next_at b) _ (gives b _ _ c.next_given.ensures c.in-Some.is));
    }

pub returns-in-None : goal.returns-in-None
returns-in-None c =
    let b = (goal.at.returns-in-None c).Else-not-stands in
    record {
      answer =
          ap (λ (d : Cursor). 0 ∷ 0 ∷ said_cursor d) c.finished.ensures
          ∙ sym
          (says b
          ∙ says_step-nothing (map_at b) b.in-Open.kind b.in-Open.top (next_at b) (gives b _ _ c.next_given.ensures c.in-None.is));
    }

-- asked here so that the laws above can look back from it
pub overflow_cast-top : goal.overflow_cast-top
overflow_cast-top c = search rules
