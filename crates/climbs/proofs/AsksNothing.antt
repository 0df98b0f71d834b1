-- No public call asks anything of its caller: what its contract requires holds of any arguments, so that a clause that is added breaks the law. Assumes nothing.
use contract.Lifetimes.{Lfts}
use borrow.Fn.World.{ArgsD}
use Rattle.climbs.specs.contracts.perches.perch_at
use Rattle.climbs.proofs.perches.perch_at.Reads as perch-at-reads
use Rattle.climbs.specs.contracts.perches.parent_of
use Rattle.climbs.proofs.perches.parent_of.Reads as parent-of-reads
use Rattle.climbs.specs.contracts.perches.depth
use Rattle.climbs.proofs.perches.depth.Reads as depth-reads
use Rattle.climbs.specs.contracts.spelling.spell
use Rattle.climbs.proofs.spelling.spell.Reads as spell-reads
use Rattle.climbs.specs.contracts.below.is_below
use Rattle.climbs.proofs.below.is_below.Reads as is-below-reads
use Rattle.climbs.specs.contracts.order.next_valued
use Rattle.climbs.proofs.order.next_valued.Reads as next-valued-reads

pub perch-at-asks-nothing : (κs : Lfts 1) (a : ArgsD perch_at.signature κs) → perch-at-reads.Pre κs a
perch-at-asks-nothing κs a = tt

pub parent-of-asks-nothing : (κs : Lfts 1) (a : ArgsD parent_of.signature κs) → parent-of-reads.Pre κs a
parent-of-asks-nothing κs a = tt

pub depth-asks-nothing : (κs : Lfts 1) (a : ArgsD depth.signature κs) → depth-reads.Pre κs a
depth-asks-nothing κs a = tt

pub spell-asks-nothing : (κs : Lfts 3) (a : ArgsD spell.signature κs) → spell-reads.Pre κs a
spell-asks-nothing κs a = tt

pub is-below-asks-nothing : (κs : Lfts 1) (a : ArgsD is_below.signature κs) → is-below-reads.Pre κs a
is-below-asks-nothing κs a = tt

pub next-valued-asks-nothing : (κs : Lfts 3) (a : ArgsD next_valued.signature κs) → next-valued-reads.Pre κs a
next-valued-asks-nothing κs a = tt
