-- `image::acceptance::is_image` meets its contract: at each return the tests that led there say which case of `image_test` holds. Assumes nothing.
use mathlib.Core.Path.{◌≡◌, sym, ◌∙◌}
use mathlib.Core.Bool.{true}
use native.Mathlib.Omega.{arith}
use lib.ListN.{length}
use Rattle.image.specs.AcceptTest.{lengths_fit}
use Rattle.image.specs.Meaning.{image_in}
use Rattle.image.proofs.Laws.AcceptTest.{lengths-told, image_test-unfit, image_test-unused, image_test-start, image_test-pass}
use Rattle.image.proofs.Laws.Ends.{first-bits, unused-bits}
use Rattle.image.proofs.acceptance.is_image.Goals.{Else-not-lengths_fit}
use Rattle.image.proofs.acceptance.is_image.Goals as goal

pub returns-then-not-lengths_fit : goal.returns-then-not-lengths_fit
returns-then-not-lengths_fit c =
    sym (image_test-unfit (image_in c.args.labels c.args.values c.args.words) (sym c.lengths_fit.ensures ∙ c.if-not-lengths_fit.true))

-- past the test of the lengths
fit : (c : Else-not-lengths_fit) → lengths_fit (image_in c.args.labels c.args.values c.args.words) ≡ true
fit c = sym c.lengths_fit.ensures ∙ c.if-not-lengths_fit.false

pub bounds-words-len : goal.bounds-words-len
bounds-words-len c =
    omega (arith, (lengths-told (image_in c.args.labels c.args.values c.args.words) (fit (goal.at.bounds-words-len c).Else-not-lengths_fit)).words-fit)

pub returns-then-words-len-ne0 : goal.returns-then-words-len-ne0
returns-then-words-len-ne0 c =
    sym (image_test-unused (image_in c.args.labels c.args.values c.args.words) (fit (goal.at.returns-then-words-len-ne0 c).Else-not-lengths_fit) c.if-words-len-ne0.true)

pub bounds-words-0 : goal.bounds-words-0
bounds-words-0 c =
    omega (arith, (lengths-told (image_in c.args.labels c.args.values c.args.words) (fit (goal.at.bounds-words-0 c).Else-not-lengths_fit)).words-fit)

pub returns-then-words-ne1 : goal.returns-then-words-ne1
returns-then-words-ne1 c =
    sym (image_test-start (image_in c.args.labels c.args.values c.args.words) (fit (goal.at.returns-then-words-ne1 c).Else-not-lengths_fit) c.if-words-len-ne0.false c.if-words-ne1.true)

pub passes-requires : goal.passes-requires
passes-requires c =
    let i = image_in c.args.labels c.args.values c.args.words in
    let told = lengths-told i (fit (goal.at.passes-requires c).Else-not-lengths_fit) in
    let start = (first-bits i.words).1 c.if-words-ne1.false in record {
      as_many = told.values-fit;
      framed = record {
        few = told.few;
        words-fit = told.words-fit;
        wide = λ w. (c.type_inv.words w).fits;
        unused = unused-bits (length i.labels) i.words told.words-fit c.if-words-len-ne0.false;
        first = start.0;
        second = start.1;
      };
    }

pub returns : goal.returns
returns c =
    let i = image_in c.args.labels c.args.values c.args.words in
    c.passes.ensures ∙ sym (image_test-pass i (fit (goal.at.returns c).Else-not-lengths_fit) c.if-words-len-ne0.false c.if-words-ne1.false)
