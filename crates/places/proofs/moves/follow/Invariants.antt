-- `places::moves::follow` meets its contract. The invariant: the stand knows its zero, and what the query answers is what is answered from its node by what is left of it.
-- Assumes nothing.
use mathlib.Core.Path.{◌≡◌}
use lib.ListN.{drop}
use Rattle.image.specs.Meaning.{as_image}
use Rattle.places.specs.Moves.{stand_in, follow_from, follow_by}
use Rattle.places.proofs.moves.follow.Given as goal

abbrev pub invariant-loop-j : goal.invariant-loop-j
invariant-loop-j l =
    (l.s ≡ stand_in (as_image l.labels l.values l.words) l.s.node)
    × (follow_by (as_image l.labels l.values l.words) l.node l.query ≡ follow_from (as_image l.labels l.values l.words) (drop l.j l.query) l.j l.s.node)
