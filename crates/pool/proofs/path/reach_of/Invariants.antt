-- `pool::path::reach_of` meets its contract. The invariant: the key reaches what its remaining bytes reach from here on.
-- Assumes nothing.
use mathlib.Core.Path.{◌≡◌}
use lib.ListN.{drop}
use Rattle.pool.specs.Path.{reach_from, reach_of}
use Rattle.pool.proofs.path.reach_of.Given as goal

abbrev pub invariant-loop-depth : goal.invariant-loop-depth
invariant-loop-depth l = reach_of l.pool l.key ≡ reach_from l.pool l.at l.depth (drop l.depth l.key)
