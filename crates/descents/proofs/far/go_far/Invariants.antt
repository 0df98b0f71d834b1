-- `descents::far::go_far` meets its contract. The invariant: the word kept has the node's zero or stands before it (`Keeping`), the walk is the walk from the node along what is left, and no step is left out so far.
-- Assumes nothing.
use mathlib.Core.Path.{◌≡◌}
use Rattle.std.specs.Prelude.{Some}
use lib.ListN.{length, drop}
use Rattle.keymap.specs.Bits.{bit}
use Rattle.walks.specs.Rule.{walked_from, walked}
use Rattle.descents.proofs.Laws.Far.{Keeping}
use Rattle.descents.proofs.far.go_far.Given as goal

abbrev pub invariant-loop-i : goal.invariant-loop-i
invariant-loop-i l =
    Keeping l.bits.words.now l.whole l.node l.kept
    × (walked l.labels (bit l.bits.words.now) l.bits.len l.query ≡ walked_from l.labels (bit l.bits.words.now) l.bits.len (drop l.i l.query) (Some l.node))
    × (l.steps ≡ length l.query)
