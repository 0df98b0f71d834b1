-- `climbs::below::is_below` meets its contract. The invariant: the perch knows its one, and its node is below the top exactly if the node is.
-- The measure is the perch's number: parents have lower ones. Assumes nothing.
use mathlib.Core.Path.{◌≡◌}
use Rattle.keymap.specs.Bits.{bit}
use Rattle.climbs.specs.Perches.{perch_at}
use Rattle.climbs.specs.Below.{below_by}
use Rattle.climbs.proofs.below.is_below.Given as goal

abbrev pub invariant-loop-at : goal.invariant-loop-at
invariant-loop-at l =
    (l.at ≡ perch_at (bit l.bits.words.now) l.bits.len l.at.node) × (below_by (bit l.bits.words.now) l.bits.len l.top l.node ≡ below_by (bit l.bits.words.now) l.bits.len l.top l.at.node)

abbrev pub decreases-loop-at : goal.decreases-loop-at
decreases-loop-at l = l.at.node
