-- `image::word_test::parents_fit` meets its contract: either all ones fit by the law `parents-all`, or each is looked at. The invariant: `rest` has the ones
-- from a place on, `m` counts those before, and these fit. The measure is `rest`. Assumes nothing.
use Rattle.image.proofs.Laws.WordWalks.{ParentsKept}
use Rattle.image.proofs.word_test.parents_fit.Given as goal

abbrev pub invariant-loop-rest : goal.invariant-loop-rest
invariant-loop-rest l = ParentsKept l.x l.at l.before l.rest l.m

abbrev pub decreases-loop-rest : goal.decreases-loop-rest
decreases-loop-rest l = l.rest
