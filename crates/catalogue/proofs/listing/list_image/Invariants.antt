-- `catalogue::listing::list_image` meets its contract and ends: entry after entry, the text of the map is put up to the node given last, 0 before the first. Assumes nothing.
use mathlib.Core.Path.{◌≡◌}
use lib.ListN.{length}
use Rattle.keymap.specs.Decode.{image_map}
use Rattle.image.specs.Meaning.{as_image}
use Rattle.listings.specs.declared.answers.Kind.TheVariants as kinds
use Rattle.listings.specs.declared.answers.Cursor.TheVariants.{Open}
use Rattle.catalogue.proofs.Laws.Next.{rest_of}
use Rattle.catalogue.proofs.Laws.Listing.{Listed}
use Rattle.catalogue.proofs.listing.list_image.Given as goal

abbrev pub invariant-loop-key : goal.invariant-loop-key
invariant-loop-key l = (length l.out ≡ length l.initial.out) × (l.root ≡ 1) × Listed (as_image l.labels l.values l.words) l.initial.out (Open kinds.Predictive 1 l.node) l.at l.out

abbrev pub decreases-loop-key : goal.decreases-loop-key
decreases-loop-key l = length (rest_of (image_map (as_image l.labels l.values l.words)) (Open kinds.Predictive 1 l.node))
