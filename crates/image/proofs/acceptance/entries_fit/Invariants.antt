-- `image::acceptance::entries_fit` meets its contract. The invariant: what was gathered of the entries passed has the test that they have. Assumes nothing.
use mathlib.Core.Path.{◌≡◌}
use lib.ListN.{length, get_or}
use Rattle.image.specs.AcceptTest.{entry_fits}
use Rattle.image.specs.WordTest.{all_below}
use Rattle.image.proofs.Laws.Gathered.{gathered}
use Rattle.image.proofs.acceptance.entries_fit.Given as goal

abbrev pub invariant-loop-entry : goal.invariant-loop-entry
invariant-loop-entry l = gathered l.any l.bad ≡ all_below (λ j. entry_fits (get_or l.labels j 0) (get_or l.values j 0)) (length l.yielded)
