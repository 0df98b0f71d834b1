-- `pool::path::enter_all` meets its contract. The invariant: the bytes that remain can be entered below the record reached, and entering them gives what was to be.
-- Assumes nothing.
use mathlib.Core.Path.{◌≡◌}
use lib.ListN.{length, drop}
use Rattle.pool.specs.Entering.{CanEnterAll, entered_all, last_entered}
use Rattle.pool.proofs.path.enter_all.Given as goal

abbrev pub invariant-loop-label : goal.invariant-loop-label
invariant-loop-label l = (length l.pool ≡ length l.initial.pool) × CanEnterAll l.pool l.last (drop l.label-index l.bytes) × (last_entered l.initial.pool l.at l.bytes ≡ last_entered l.pool l.last (drop l.label-index l.bytes)) × (entered_all l.initial.pool l.at l.bytes ≡ entered_all l.pool l.last (drop l.label-index l.bytes))
