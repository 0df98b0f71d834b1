-- `pool::siblings::slot_of` meets its contract. The invariant: the slot is what the search finds from here on, in the steps that are left.
-- Assumes nothing.
use Prim.Native.Nat.{◌-◌}
use mathlib.Core.Path.{◌≡◌}
use Rattle.pool.specs.Siblings.{slot_from, slot_of}
use Rattle.pool.proofs.siblings.slot_of.Given as goal

abbrev pub invariant-loop : goal.invariant-loop
invariant-loop l = slot_of l.pool l.i l.b ≡ slot_from l.pool (l.end - l.counter) l.slot.prev l.slot.next l.b
