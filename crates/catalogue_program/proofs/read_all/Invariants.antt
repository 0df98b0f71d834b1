-- `catalogue_program::read_all` meets its contract: the place for the next read is that of the reading.
-- Assumes nothing.
use Rattle.std.proofs.Common.{◌≡◌, ◌-◌}
use Rattle.catalogue.specs.Reading.{file_room, next_at}
use Rattle.catalogue_program.proofs.read_all.Given as goal

abbrev pub invariant-loop-at : goal.invariant-loop-at
invariant-loop-at g l = l.at ≡ next_at l.reading

abbrev pub decreases-loop-at : goal.decreases-loop-at
decreases-loop-at g l = file_room - l.at
