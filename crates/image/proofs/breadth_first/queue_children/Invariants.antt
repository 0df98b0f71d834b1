-- `image::breadth_first::queue_children` meets its contract. The invariant is `Queueing`: what is left of the chain is what is left of the children.
-- The measure is how many are left. Assumes nothing.
use Prim.Native.Nat.{◌-◌}
use lib.ListN.{length}
use Rattle.records.specs.Words.{next_sibling}
use Rattle.image.specs.LevelOrder.{child_records}
use Rattle.image.proofs.Laws.Queueing.{Queueing}
use Rattle.image.proofs.breadth_first.queue_children.Given as goal

abbrev pub invariant-loop-x : goal.invariant-loop-x
invariant-loop-x l = Queueing (next_sibling l.pool) (child_records l.pool l.c) l.initial.words l.initial.queue l.at l.tail l.words l.queue l.d l.x

abbrev pub decreases-loop-x : goal.decreases-loop-x
decreases-loop-x l = length (child_records l.pool l.c) - l.d
