-- `image::word_test::leaves_fit` meets its contract. The invariant of both loops: `rest` has the zeros from a place on, `m` counts those before, and `bad`, which is 0
-- in the first loop, is 0 exactly if these fit. The measures are how far m is from 2, and `rest`. Assumes nothing.
use Prim.Native.Nat.{◌-◌, ◌≤◌}
use Rattle.image.proofs.Laws.WordWalks.{LeavesKept}
use Rattle.image.proofs.word_test.leaves_fit.Given as goal

abbrev pub invariant-loop-m : goal.invariant-loop-m
invariant-loop-m l = LeavesKept l.labels l.zeros l.lone l.before l.rest l.m 0

abbrev pub decreases-loop-m : goal.decreases-loop-m
decreases-loop-m l = 2 - l.m

abbrev pub invariant-loop-rest : goal.invariant-loop-rest
invariant-loop-rest l = (2 ≤ l.m) × LeavesKept l.labels l.zeros l.lone l.before l.rest l.m l.bad

abbrev pub decreases-loop-rest : goal.decreases-loop-rest
decreases-loop-rest l = l.rest
