-- `descents::far::word_with_zero` meets its contract. The invariant: the words passed have no zero. Assumes nothing.
use mathlib.Core.Path.{◌≡◌}
use Rattle.descents.specs.Far.{zeros_up_to}
use Rattle.descents.proofs.far.word_with_zero.Given as goal

abbrev pub invariant-loop-w : goal.invariant-loop-w
invariant-loop-w l = zeros_up_to l.words l.w ≡ zeros_up_to l.words l.first
