-- `searches::common_prefixes::shortest` meets its contract. The invariant: the stand knows its zero, and what the walk finds is what is found from its node on. Assumes nothing.
use mathlib.Core.Path.{◌≡◌}
use Rattle.std.specs.Prelude.{Some}
use lib.ListN.{length, drop}
use Rattle.keymap.specs.Bits.{bit}
use Rattle.keymap.specs.Image.{bits_for}
use Rattle.image.specs.Meaning.{as_image}
use Rattle.walks.specs.Stands.{stand_at}
use Rattle.searches.specs.CommonPrefixes.{shortest_from}
use Rattle.searches.proofs.common_prefixes.shortest.Given as goal

abbrev pub invariant-loop-depth : goal.invariant-loop-depth
invariant-loop-depth l =
    (l.s ≡ stand_at (bit l.words) (bits_for (length l.labels)) l.s.node)
    × (shortest_from (as_image l.labels l.values l.words) l.seen l.query 0 (Some 1) ≡ shortest_from (as_image l.labels l.values l.words) l.seen (drop l.depth l.query) l.depth (Some l.s.node))
