-- No public call asks anything of its caller: what its contract requires holds of any arguments, so that a clause that is added breaks the law. Assumes nothing.
use contract.Lifetimes.{Lfts}
use borrow.Fn.World.{ArgsD}
use Rattle.descents.specs.contracts.queries.walk
use Rattle.descents.proofs.queries.walk.Reads as walk-reads
use Rattle.descents.specs.contracts.queries.end_of
use Rattle.descents.proofs.queries.end_of.Reads as end-of-reads

pub walk-asks-nothing : (κs : Lfts 3) (a : ArgsD walk.signature κs) → walk-reads.Pre κs a
walk-asks-nothing κs a = tt

pub end-of-asks-nothing : (κs : Lfts 3) (a : ArgsD end_of.signature κs) → end-of-reads.Pre κs a
end-of-asks-nothing κs a = tt
