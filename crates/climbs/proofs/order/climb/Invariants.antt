-- `climbs::order::climb` meets its contract. The invariant: the climb from the perch is the climb from the first.
-- The measure is the perch's number: parents have lower ones. Assumes nothing.
use mathlib.Core.Path.{◌≡◌}
use Rattle.keymap.specs.Bits.{bit}
use Rattle.climbs.specs.Moves.{climb_from}
use Rattle.climbs.proofs.order.climb.Given as goal

abbrev pub invariant-loop-at : goal.invariant-loop-at
invariant-loop-at l = climb_from (bit l.bits.words.now) l.bits.len l.last l.top l.initial.at ≡ climb_from (bit l.bits.words.now) l.bits.len l.last l.top l.at

abbrev pub decreases-loop-at : goal.decreases-loop-at
decreases-loop-at l = l.at.node
