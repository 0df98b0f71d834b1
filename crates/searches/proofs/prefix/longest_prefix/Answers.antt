-- `searches::prefix::longest_prefix` meets its contract: the glide from the query's node ends at the common prefix (`end_of`), and at each return the tests
-- that led there say which case of the definitions holds. Assumes nothing.
use mathlib.Core.Path.{◌≡◌, sym, ap, ◌∙◌}
use Prim.Native.Nat.{◌+◌}
use native.Mathlib.Omega.{arith}
use mathlib.Core.Bool.{true}
use mathlib.Core.List.{[], ◌∷◌}
use lib.ListN.{length}
use Rattle.keymap.specs.Refusals.{refuses}
use Rattle.keymap.specs.declared.refusals.Refusal.TheVariants.{KeyRoom}
use Rattle.image.specs.AcceptTest.{image_test}
use Rattle.image.specs.Meaning.{image_in, MapImage}
use Rattle.image.proofs.Laws.AcceptAnswer.{passed-fails, passed-says, past-test}
use Rattle.walks.specs.Rule.{node_by}
use Rattle.walks.proofs.Laws.Stands.{reached_at-to, reached_at-lost}
use Rattle.climbs.proofs.Laws.Spelling.{spell-path, spelled-all}
use Rattle.keymap.specs.Answers.{told_value}
use Rattle.searches.specs.Prefix.{longest_says}
use Rattle.searches.proofs.Laws.Prefix.{LongestIs, EndOf, common-unreached, end_of, longest-refused, longest-missed, longest-short, longest-written}
use Rattle.searches.proofs.prefix.longest_prefix.Goals.{In_ok-accept, In_default, After-glide-g, Then-length-eq0, Then-out-length}
use Rattle.searches.proofs.prefix.longest_prefix.Goals as goal

pub returns-in_err-accept-clause-answer : goal.returns-in_err-accept-clause-answer
unfolding longest_says
returns-in_err-accept-clause-answer c = passed-says (image_in c.args.labels c.args.values c.args.words) _ _ _ c.accept.ensures.tested c.in_err-accept.was c.from_residual.ensures.1 told_value _

pub returns-in_err-accept-clause-written : goal.returns-in_err-accept-clause-written
returns-in_err-accept-clause-written c =
    sym (longest-refused (image_in c.args.labels c.args.values c.args.words) c.args.query.now c.args.out.now (passed-fails (image_in c.args.labels c.args.values c.args.words) _ _ c.from_residual.result c.accept.ensures.tested c.in_err-accept.was)).after_is

-- past the test the image is a map's
past : (c : In_ok-accept) → (image_test (image_in c.args.labels c.args.values c.args.words) ≡ true) × MapImage (image_in c.args.labels c.args.values c.args.words)
past c =
    past-test (image_in c.args.labels c.args.values c.args.words)
    (record { words-wide = λ w. (c.type_inv.words w).fits; values-wide = λ e. (c.type_inv.values e).fits }) _ _
    c.accept.ensures.tested
    c.in_ok-accept.was

-- the walk led nowhere
missed : (c : In_default) → LongestIs (image_in c.args.labels c.args.values c.args.words) c.args.query.now c.args.out.now (0 ∷ []) c.args.out.now
missed c =
    let i = image_in c.args.labels c.args.values c.args.words in
    let q = c.args.query.now in
    let lost = reached_at-lost _ _ (node_by i q) (sym c.walk.ensures ∙ c.in_default.is) in
    longest-missed i q c.args.out.now (past (goal.at.returns-in_default-clause-answer c).In_ok-accept).0 (ap length (common-unreached i (past (goal.at.returns-in_default-clause-answer c).In_ok-accept).1 q lost))

pub returns-in_default-clause-answer : goal.returns-in_default-clause-answer
returns-in_default-clause-answer c = sym (missed c).says_is

pub returns-in_default-clause-written : goal.returns-in_default-clause-written
returns-in_default-clause-written c = sym (missed c).after_is

-- where the glide from the walk's end ended
ended : (c : After-glide-g) → MapImage (image_in c.args.labels c.args.values c.args.words) → EndOf (image_in c.args.labels c.args.values c.args.words) c.args.query.now c.glide-g.result
ended c map = end_of _ map _ _ _ (reached_at-to _ _ _ _ (sym c.walk.ensures ∙ c.in-Some.is)) c.glide-g.ensures

pub overflow_add-length : goal.overflow_add-length
overflow_add-length c = let e = ended (goal.at.overflow_add-length c).After-glide-g (past (goal.at.overflow_add-length c).In_ok-accept).1 in omega (arith, e.far, e.short)

-- the prefix is empty
empty : (c : Then-length-eq0) → LongestIs (image_in c.args.labels c.args.values c.args.words) c.args.query.now c.args.out.now (0 ∷ []) c.args.out.now
empty c =
    let e = ended (goal.at.returns-then-length-eq0-clause-answer c).After-glide-g (past (goal.at.returns-then-length-eq0-clause-answer c).In_ok-accept).1 in
    longest-missed (image_in c.args.labels c.args.values c.args.words) c.args.query.now c.args.out.now (past (goal.at.returns-then-length-eq0-clause-answer c).In_ok-accept).0 (omega (arith, e.far, c.if-length-eq0.true))

pub returns-then-length-eq0-clause-answer : goal.returns-then-length-eq0-clause-answer
returns-then-length-eq0-clause-answer c = sym (empty c).says_is

pub returns-then-length-eq0-clause-written : goal.returns-then-length-eq0-clause-written
returns-then-length-eq0-clause-written c = sym (empty c).after_is

short : (c : Then-out-length) → LongestIs (image_in c.args.labels c.args.values c.args.words) c.args.query.now c.args.out.now (refuses KeyRoom) c.args.out.now
short c =
    let e = ended (goal.at.returns-then-out-length-clause-answer c).After-glide-g (past (goal.at.returns-then-out-length-clause-answer c).In_ok-accept).1 in
    longest-short (image_in c.args.labels c.args.values c.args.words) c.args.query.now c.args.out.now (past (goal.at.returns-then-out-length-clause-answer c).In_ok-accept).0 (omega (arith, e.far, c.if-length-eq0.false)) (omega (arith, e.far, c.if-out-length.true))

pub returns-then-out-length-clause-answer : goal.returns-then-out-length-clause-answer
returns-then-out-length-clause-answer c = sym (short c).says_is

pub returns-then-out-length-clause-written : goal.returns-then-out-length-clause-written
returns-then-out-length-clause-written c = sym (short c).after_is

pub returns-clause-answer : goal.returns-clause-answer
returns-clause-answer c =
    let e = ended (goal.at.returns-clause-answer c).After-glide-g (past (goal.at.returns-clause-answer c).In_ok-accept).1 in
    let is = longest-written (image_in c.args.labels c.args.values c.args.words) c.args.query.now c.args.out.now (past (goal.at.returns-clause-answer c).In_ok-accept).0 (omega (arith, e.far, c.if-length-eq0.false)) (omega (arith, e.far, c.if-out-length.false)) in
    ap (λ n. 0 ∷ n ∷ []) e.far ∙ sym is.says_is

pub returns-clause-written : goal.returns-clause-written
returns-clause-written c =
    let e = ended (goal.at.returns-clause-written c).After-glide-g (past (goal.at.returns-clause-written c).In_ok-accept).1 in
    let is = longest-written (image_in c.args.labels c.args.values c.args.words) c.args.query.now c.args.out.now (past (goal.at.returns-clause-written c).In_ok-accept).0 (omega (arith, e.far, c.if-length-eq0.false)) (omega (arith, e.far, c.if-out-length.false)) in
    let r = c.glide-g.result in
    let spelled = spell-path (image_in c.args.labels c.args.values c.args.words) (past (goal.at.returns-clause-written c).In_ok-accept).1 r.stand.node e.inside (length c.args.query.now + r.steps) (omega (arith, e.far, ap length e.path)) c.args.out.now (omega (arith, c.if-out-length.false)) in
    c.spell.ensures ∙ spelled ∙ spelled-all _ _ _ c.args.out.now e.path e.far ∙ sym is.after_is
