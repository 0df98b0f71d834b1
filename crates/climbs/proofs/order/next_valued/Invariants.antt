-- `climbs::order::next_valued` meets its contract. The invariant: the perch knows its one, and the search goes on from behind its node, with as many steps as are left. Assumes nothing.
use mathlib.Core.Path.{◌≡◌}
use Prim.Native.Nat.{◌+◌, ◌-◌}
use lib.ListN.{length}
use Rattle.keymap.specs.Bits.{bit}
use Rattle.climbs.specs.Perches.{perch_at}
use Rattle.climbs.specs.Order.{advance_by, sought_from, next_by}
use Rattle.climbs.proofs.order.next_valued.Given as goal

abbrev pub invariant-loop : goal.invariant-loop
invariant-loop l =
    (l.at ≡ perch_at (bit l.bits.words.now) l.bits.len l.at.node)
    × (next_by l.labels l.values (bit l.bits.words.now) l.bits.len l.top l.node ≡ sought_from l.labels l.values (bit l.bits.words.now) l.bits.len l.top (length l.labels + 1 - l.counter) (advance_by (bit l.bits.words.now) l.bits.len (length l.labels + 1) l.top l.at.node))
