-- What each public call's contract says, in the definitions of specs/. Each tie is over the contract's own claim, so a contract that cites another definition breaks it.
-- Assumes nothing.
use mathlib.Core.Path.{◌≡◌}
use Rattle.keymap.specs.Contract.{Tells}
use Rattle.keymap.specs.Bits.{bit}
use Rattle.climbs.specs.Perches.{perch_at, parent_from, depth_by}
use Rattle.climbs.specs.Spelling.{spelled_by}
use Rattle.climbs.specs.Below.{below_by}
use Rattle.climbs.specs.Order.{next_by, given_of}
use Rattle.climbs.proofs.perches.perch_at.Kinds as perch-at-kinds
use Rattle.climbs.proofs.perches.perch_at.Reads as perch-at-reads
use Rattle.climbs.proofs.perches.parent_of.Kinds as parent-of-kinds
use Rattle.climbs.proofs.perches.parent_of.Reads as parent-of-reads
use Rattle.climbs.proofs.perches.depth.Kinds as depth-kinds
use Rattle.climbs.proofs.perches.depth.Reads as depth-reads
use Rattle.climbs.proofs.spelling.spell.Kinds as spell-kinds
use Rattle.climbs.proofs.spelling.spell.Reads as spell-reads
use Rattle.climbs.proofs.below.is_below.Kinds as is-below-kinds
use Rattle.climbs.proofs.below.is_below.Reads as is-below-reads
use Rattle.climbs.proofs.order.next_valued.Kinds as next-valued-kinds
use Rattle.climbs.proofs.order.next_valued.Reads as next-valued-reads

pub perch-at-says : Tells 1 perch-at-kinds.ps perch-at-kinds.r perch-at-reads.Post (λ κs a r s. r ≡ perch_at (bit a.0.words.now) a.0.len a.1.0)
perch-at-says κs a r s p = p

pub parent-of-says : Tells 1 parent-of-kinds.ps parent-of-kinds.r parent-of-reads.Post (λ κs a r s. r ≡ parent_from (bit a.0.words.now) a.0.len a.1.0)
parent-of-says κs a r s p = p

pub depth-says : Tells 1 depth-kinds.ps depth-kinds.r depth-reads.Post (λ κs a r s. r ≡ depth_by (bit a.0.words.now) a.0.len a.1.0)
depth-says κs a r s p = p

pub spell-says : Tells 3 spell-kinds.ps spell-kinds.r spell-reads.Post (λ κs a r s. s.1.1.1.1.0.now ≡ spelled_by a.0.now (bit a.1.0.words.now) a.1.0.len a.1.1.0 a.1.1.1.0 a.1.1.1.1.0.now)
spell-says κs a r s p = p

pub is-below-says : Tells 1 is-below-kinds.ps is-below-kinds.r is-below-reads.Post (λ κs a r s. r ≡ below_by (bit a.0.words.now) a.0.len a.1.0 a.1.1.0)
is-below-says κs a r s p = p

pub next-valued-says : Tells 3 next-valued-kinds.ps next-valued-kinds.r next-valued-reads.Post (λ κs a r s. r ≡ given_of (next_by a.0.now a.1.0.now (bit a.1.1.0.words.now) a.1.1.0.len a.1.1.1.0 a.1.1.1.1.0))
next-valued-says κs a r s p = p
