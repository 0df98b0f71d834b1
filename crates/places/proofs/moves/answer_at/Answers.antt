-- `places::moves::answer_at` meets its contract: its two calls are the definition's. Assumes nothing.
use mathlib.Core.Path.{◌≡◌, sym, ap, ◌∙◌}
use native.Mathlib.Omega.{arith}
use Rattle.image.specs.Meaning.{image_in}
use Rattle.walks.specs.declared.answers.Kids.{Kids}
use Rattle.places.specs.Moves.{count_from}
use Rattle.places.proofs.Laws.Moves.{answer-leaf, answer-inner}
use Rattle.places.proofs.moves.answer_at.Goals.{Else-k-eq0}
use Rattle.places.proofs.moves.answer_at.Goals as goal

pub returns-then-k-eq0 : goal.returns-then-k-eq0
returns-then-k-eq0 c =
    let count = ap (λ (k : Kids). k.count) c.kids-k.ensures in
    sym (answer-leaf (image_in c.args.labels c.args.values c.args.words) c.args.s (omega (arith, count)))

-- past the test there are children
some-kids : (c : Else-k-eq0) → ¬ (count_from (image_in c.args.labels c.args.values c.args.words) c.args.s ≡ 0)
some-kids c e = let count = ap (λ (k : Kids). k.count) c.kids-k.ensures in omega (arith, count)

pub returns-in-Some : goal.returns-in-Some
returns-in-Some c =
    sym (answer-inner (image_in c.args.labels c.args.values c.args.words) c.args.s _ (some-kids (goal.at.returns-in-Some c).Else-k-eq0) (sym c.value_at.ensures ∙ c.in-Some.is))

pub returns-in-None : goal.returns-in-None
returns-in-None c =
    sym (answer-inner (image_in c.args.labels c.args.values c.args.words) c.args.s _ (some-kids (goal.at.returns-in-None c).Else-k-eq0) (sym c.value_at.ensures ∙ c.in-None.is))
