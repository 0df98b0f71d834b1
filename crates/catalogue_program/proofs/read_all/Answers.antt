-- `catalogue_program::read_all` ends: each read that is wanted goes on or ends the reading. Assumes nothing.
use Rattle.catalogue.proofs.Laws.Reading.{room-shrinks}
use Rattle.catalogue_program.proofs.read_all.Goals as goal

pub loop-at-smaller : goal.loop-at-smaller
loop-at-smaller g c =
    room-shrinks c.loop-at.reading c.take_read-reading.result _ c.loop-at.at c.next_at-at-in-loop-at.result c.loop-at.invariant c.loop-at-test.true c.take_read-reading.ensures c.next_at-at-in-loop-at.ensures
