-- `louds::select::picked` meets its contract. The invariant: with the ones taken away `left` makes j, and `rest` has the others. Assumes nothing.
use Rattle.louds.proofs.Laws.NthOne.{Picking}
use Rattle.louds.proofs.select.picked.Given as goal

abbrev pub invariant-loop-rest : goal.invariant-loop-rest
invariant-loop-rest l = Picking l.word l.j l.left l.rest

abbrev pub decreases-loop-rest : goal.decreases-loop-rest
decreases-loop-rest l = l.left
