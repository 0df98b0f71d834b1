-- `image::word_test::siblings_fit` meets its contract. The invariant: `y` has the flags from a place on, and the places before fit. A turn takes a run of
-- flags off. The measure is `y`. Assumes nothing.
use Rattle.image.proofs.Laws.WordWalks.{SiblingsKept}
use Rattle.image.proofs.word_test.siblings_fit.Given as goal

abbrev pub invariant-loop-y : goal.invariant-loop-y
invariant-loop-y l = SiblingsKept l.labels l.x l.prev l.before l.y

abbrev pub decreases-loop-y : goal.decreases-loop-y
decreases-loop-y l = l.y
