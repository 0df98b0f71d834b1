-- `listings::given_key::cursor_key` meets its contract: 6 of an image that no map has, then 7 of a cursor that is finished, fresh or does not belong,
-- then 8 of a buffer that is too short; else the end of the node's path is spelled. Assumes nothing.
use mathlib.Core.Path.{◌≡◌, sym, ap, ◌∙◌}
use Prim.Native.Nat.{ℕ, ◌≤◌}
use native.Mathlib.Omega.{arith}
use mathlib.Core.Bool.{true}
use mathlib.Core.List.{List, [], ◌∷◌, ◌++◌}
use lib.ListN.{length, drop}
use Rattle.keymap.specs.Refusals.{refuses}
use Rattle.keymap.specs.declared.refusals.Refusal.{Refusal}
use Rattle.keymap.specs.declared.refusals.Refusal.TheVariants.{BadPlace, KeyRoom}
use borrow.Author.Rules.{rules}
use Rattle.keymap.specs.Bits.{bit}
use Rattle.keymap.specs.Image.{Image, bits_for}
use Rattle.keymap.specs.Decode.{image_map}
use Rattle.image.specs.Accept.{entries}
use Rattle.image.specs.AcceptTest.{image_test}
use Rattle.image.specs.Meaning.{image_in, MapImage}
use Rattle.image.proofs.Laws.AcceptAnswer.{passed-fails, passed-six, past-test}
use Rattle.listings.specs.declared.answers.Cursor.TheVariants.{Open}
use Rattle.climbs.specs.Spelling.{said_spelled}
use Rattle.climbs.specs.Order.{UnderTop}
use Rattle.climbs.proofs.Laws.Spelling.{spell-path}
use Rattle.listings.specs.Cursors.{belongs}
use Rattle.listings.specs.GivenKey.{given_key}
use Rattle.listings.specs.Numbers.{given_len_by}
use Rattle.listings.proofs.Laws.Cursors.{belongs-under}
use Rattle.listings.proofs.Laws.GivenKey.{given_key-within, given_key-spelled, KeyIs, key_apart, key-refused, key-finished, key-fresh, key-strange, key-short, key-written}
use Rattle.listings.proofs.Laws.Numbers.{stands-path, given_len-path}
use Rattle.listings.proofs.given_key.cursor_key.Goals.{In_ok-accept, After-from_residual, In_default, In-Open, Joined-then-last-eq0, Else-not-stands, Then-out-length, then-last-eq0-via-then-last-eq0, then-last-eq0-via-else-last-eq0+then-not-stands}
use Rattle.listings.proofs.given_key.cursor_key.Goals as goal

-- on a refused image, which `?` passes on
refused : (c : After-from_residual) → KeyIs (image_in c.args.labels c.args.values c.args.words) c.args.cursor c.args.out.now (refuses Refusal.NotAnImage) c.args.out.now
refused c = key-refused (image_in c.args.labels c.args.values c.args.words) c.args.out.now c.args.cursor (passed-fails (image_in c.args.labels c.args.values c.args.words) _ _ c.from_residual.result c.accept.ensures.tested c.in_err-accept.was)

pub returns-in_err-accept-clause-answer : goal.returns-in_err-accept-clause-answer
returns-in_err-accept-clause-answer c =
    ap said_spelled (passed-six (image_in c.args.labels c.args.values c.args.words) _ _ _ c.accept.ensures.tested c.in_err-accept.was c.from_residual.ensures.1) ∙ sym (refused c).says_is

pub returns-in_err-accept-clause-written : goal.returns-in_err-accept-clause-written
returns-in_err-accept-clause-written c = sym (refused c).after_is

-- past the test the image is a map's
past : (c : In_ok-accept) → (image_test (image_in c.args.labels c.args.values c.args.words) ≡ true) × MapImage (image_in c.args.labels c.args.values c.args.words)
past c =
    past-test (image_in c.args.labels c.args.values c.args.words)
    (record { words-wide = λ w. (c.type_inv.words w).fits; values-wide = λ e. (c.type_inv.values e).fits }) _ _
    c.accept.ensures.tested
    c.in_ok-accept.was

-- of a finished cursor nothing was given
done : (c : In_default) → KeyIs (image_in c.args.labels c.args.values c.args.words) c.args.cursor c.args.out.now (refuses BadPlace) c.args.out.now
done c =
    let i = image_in c.args.labels c.args.values c.args.words in
    key_apart i _ _ c.args.out.now _ _ c.in_default.is (key-finished i c.args.out.now (past (goal.at.returns-in_default-clause-answer c).In_ok-accept).0 _)

pub returns-in_default-clause-answer : goal.returns-in_default-clause-answer
returns-in_default-clause-answer c = sym (done (goal.at.returns-in_default-clause-answer c).In_default).says_is

pub returns-in_default-clause-written : goal.returns-in_default-clause-written
returns-in_default-clause-written c = sym (done (goal.at.returns-in_default-clause-written c).In_default).after_is

-- the cursor is open: what is known of its numbers is known of it
apart : (c : In-Open) (says after : List ℕ)
    → let i = image_in c.args.labels c.args.values c.args.words in
    KeyIs i (Open c.in-Open.kind c.in-Open.top c.in-Open.last) c.args.out.now says after → KeyIs i c.args.cursor c.args.out.now says after
apart c says after is = key_apart _ _ _ _ says after c.in-Open.is is

-- a cursor that is fresh, or that does not belong
unkeyed : (c : Joined-then-last-eq0) → KeyIs (image_in c.args.labels c.args.values c.args.words) c.args.cursor c.args.out.now (refuses BadPlace) c.args.out.now
unkeyed c =
    let i = image_in c.args.labels c.args.values c.args.words in
    let p = (goal.at.returns-then-last-eq0-clause-answer c).In_ok-accept in
    let o = (goal.at.returns-then-last-eq0-clause-answer c).In-Open in
    elim c.then-last-eq0.branch [
      | then-last-eq0-via-then-last-eq0 w ↦ apart o _ _ (key-fresh i c.args.out.now (past p).0 c.in-Open.kind c.in-Open.top c.in-Open.last w.if-last-eq0.true)
      | then-last-eq0-via-else-last-eq0+then-not-stands w ↦
          let strange = sym (stands-path i (past p).1 c.in-Open.kind c.in-Open.top c.in-Open.last) ∙ sym w.stands.ensures ∙ w.if-not-stands.true in
          apart o _ _ (key-strange i c.args.out.now (past p).0 c.in-Open.kind c.in-Open.top c.in-Open.last strange)
    ]

pub returns-then-last-eq0-clause-answer : goal.returns-then-last-eq0-clause-answer
returns-then-last-eq0-clause-answer c = sym (unkeyed c).says_is

pub returns-then-last-eq0-clause-written : goal.returns-then-last-eq0-clause-written
returns-then-last-eq0-clause-written c = sym (unkeyed c).after_is

-- past the last test of the numbers they belong, and the node is below the top
abbrev image_at : Else-not-stands → Image
image_at c = image_in c.args.labels c.args.values c.args.words

belonging : (c : Else-not-stands) → belongs (image_map (image_at c)) (Open c.in-Open.kind c.in-Open.top c.in-Open.last) ≡ true
belonging c =
    sym (stands-path _ (past (goal.at.overflow_cast-top c).In_ok-accept).1 c.in-Open.kind c.in-Open.top c.in-Open.last)
    ∙ sym c.stands.ensures
    ∙ c.if-not-stands.false

below : (c : Else-not-stands) → UnderTop (image_map (image_at c)) c.in-Open.top c.in-Open.last
below c = belongs-under _ _ _ _ (past (goal.at.overflow_cast-top c).In_ok-accept).1.catalogue.rising (belonging c) (omega arith)

-- the key is as long as was answered
long : (c : Else-not-stands) (result : ℕ)
    → result ≡ given_len_by (bit (image_at c).words) (bits_for (entries (image_at c))) c.in-Open.kind c.in-Open.top c.in-Open.last
    → result ≡ length (given_key (image_map (image_at c)) c.in-Open.kind c.in-Open.top c.in-Open.last)
long c result ensured =
    ensured ∙ given_len-path _ (past (goal.at.overflow_cast-top c).In_ok-accept).1 c.in-Open.kind c.in-Open.top c.in-Open.last (below c)

-- a key that fits is written
kept : (c : Else-not-stands)
    → let k = given_key (image_map (image_at c)) c.in-Open.kind c.in-Open.top c.in-Open.last in
    length k ≤ length c.args.out.now → KeyIs (image_at c) c.args.cursor c.args.out.now (0 ∷ length k ∷ []) (k ++ drop (length k) c.args.out.now)
kept c l =
    apart (goal.at.overflow_cast-top c).In-Open _ _
    (key-written (image_at c) c.args.out.now (past (goal.at.overflow_cast-top c).In_ok-accept).0 c.in-Open.kind c.in-Open.top c.in-Open.last (belonging c) (omega (arith, c.if-last-eq0.false)) l)

-- the buffer is too short
short : (c : Then-out-length) → KeyIs (image_in c.args.labels c.args.values c.args.words) c.args.cursor c.args.out.now (refuses KeyRoom) c.args.out.now
short c =
    let e = (goal.at.returns-then-out-length-clause-answer c).Else-not-stands in
    let p = (goal.at.returns-then-out-length-clause-answer c).In_ok-accept in
    let size = long e _ c.given_len-length.ensures in
    apart (goal.at.returns-then-out-length-clause-answer c).In-Open _ _ (key-short (image_at e) c.args.out.now (past p).0 c.in-Open.kind c.in-Open.top c.in-Open.last (belonging e) (omega arith) (omega arith))

pub returns-then-out-length-clause-answer : goal.returns-then-out-length-clause-answer
returns-then-out-length-clause-answer c = sym (short (goal.at.returns-then-out-length-clause-answer c).Then-out-length).says_is

pub returns-then-out-length-clause-written : goal.returns-then-out-length-clause-written
returns-then-out-length-clause-written c = sym (short (goal.at.returns-then-out-length-clause-written c).Then-out-length).after_is

pub returns-clause-answer : goal.returns-clause-answer
returns-clause-answer c =
    let e = (goal.at.returns-clause-answer c).Else-not-stands in
    let size = long e _ c.given_len-length.ensures in
    ap (λ n. 0 ∷ n ∷ []) size ∙ sym (kept e (omega (arith, c.if-out-length.false, size))).says_is

pub returns-clause-written : goal.returns-clause-written
returns-clause-written c =
    let e = (goal.at.returns-clause-written c).Else-not-stands in
    let i = image_at e in
    let map = (past (goal.at.returns-clause-written c).In_ok-accept).1 in
    let under = below e in
    let size = long e _ c.given_len-length.ensures in
    let within = given_key-within (image_map i) c.in-Open.top c.in-Open.last under c.in-Open.kind in
    c.spell.ensures
    ∙ spell-path i map c.in-Open.last under.inside _ (omega (arith, size, within)) c.args.out.now (omega (arith, c.if-out-length.false))
    ∙ given_key-spelled (image_map i) c.in-Open.top c.in-Open.last under c.in-Open.kind _ c.args.out.now size
    ∙ sym (kept e (omega (arith, c.if-out-length.false, size))).after_is

-- asked here so that the laws above can look back from it
pub overflow_cast-top : goal.overflow_cast-top
overflow_cast-top c = search rules
