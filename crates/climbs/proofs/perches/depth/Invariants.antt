-- `climbs::perches::depth` meets its contract. The invariant: the perch knows its one, and as many parents as were counted are below it. Assumes nothing.
use mathlib.Core.Path.{◌≡◌}
use Prim.Native.Nat.{◌+◌, ◌≤◌}
use Rattle.keymap.specs.Bits.{bit}
use Rattle.climbs.specs.Perches.{depth_by, perch_at}
use Rattle.climbs.proofs.perches.depth.Given as goal

abbrev pub invariant-loop-up : goal.invariant-loop-up
invariant-loop-up l =
    (l.at ≡ perch_at (bit l.bits.words.now) l.bits.len l.at.node) × (l.count + l.at.node ≤ l.node) × (depth_by (bit l.bits.words.now) l.bits.len l.node ≡ l.count + depth_by (bit l.bits.words.now) l.bits.len l.at.node)

abbrev pub decreases-loop-up : goal.decreases-loop-up
decreases-loop-up l = l.at.node
