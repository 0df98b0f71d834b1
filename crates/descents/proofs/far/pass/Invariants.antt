-- `descents::far::pass` meets its contract. The invariant: the words from the first on are passed up to word w. Assumes nothing.
use Rattle.descents.specs.Far.{PassedFrom}
use Rattle.descents.proofs.far.pass.Given as goal

abbrev pub invariant-loop-w : goal.invariant-loop-w
invariant-loop-w l = PassedFrom l.words l.first l.k (record { words = l.w; left = l.left })
