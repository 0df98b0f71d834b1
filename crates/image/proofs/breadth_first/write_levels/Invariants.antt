-- `image::breadth_first::write_levels` meets its contract. The invariant is `Turn`: after k nodes the queue's front and the words are what these give.
-- Assumes nothing.
use mathlib.Core.Path.{◌≡◌}
use lib.ListN.{length}
use Rattle.image.specs.Build.{Levels}
use Rattle.image.proofs.Laws.Turns.{Turn}
use Rattle.image.proofs.breadth_first.write_levels.Given as goal

abbrev pub invariant-loop-k : goal.invariant-loop-k
invariant-loop-k l = (length l.words ≡ length l.initial.words) × Levels l.pool l.n l.initial.words l.initial.queue × Turn l.pool l.n l.initial.words l.initial.queue l.words l.queue l.at l.tail l.k
