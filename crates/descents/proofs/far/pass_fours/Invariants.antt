-- `descents::far::pass_fours` meets its contract. The invariant: the words from the first on are passed up to word w. Assumes nothing.
use Prim.Native.Nat.{◌-◌, ◌≤◌}
use Rattle.descents.specs.Far.{PassedFrom}
use Rattle.descents.proofs.far.pass_fours.Given as goal

abbrev pub invariant-loop-w : goal.invariant-loop-w
invariant-loop-w l = (l.w ≤ l.whole) × PassedFrom l.words l.first l.k (record { words = l.w; left = l.left })

abbrev pub decreases-loop-w : goal.decreases-loop-w
decreases-loop-w l = l.whole - l.w
