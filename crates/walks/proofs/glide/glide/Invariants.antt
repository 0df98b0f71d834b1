-- `walks::glide::glide` meets its contract. The invariant: the glide from the first stand is the one that goes on from here, and each step led to a higher number. Assumes nothing.
use mathlib.Core.Path.{◌≡◌}
use Prim.Native.Nat.{◌+◌, ◌-◌, ◌≤◌}
use lib.ListN.{length}
use Rattle.keymap.specs.Bits.{bit}
use Rattle.walks.specs.Glide.{glides, glided_from}
use Rattle.walks.proofs.glide.glide.Given as goal

abbrev pub invariant-loop-t : goal.invariant-loop-t
invariant-loop-t l =
    (l.steps ≤ l.stand.node) × (glided_from l.labels l.values (bit l.bits.words.now) l.bits.len l.initial.stand ≡ glides l.labels l.values (bit l.bits.words.now) l.bits.len (length l.labels + 1 - l.stand.node) l.stand l.steps)

abbrev pub decreases-loop-t : goal.decreases-loop-t
decreases-loop-t l = length l.labels + 1 - l.stand.node
