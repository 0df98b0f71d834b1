-- The public call asks nothing of its caller: what its contract requires holds of any argument, so that a clause that is added breaks the law. Assumes nothing.
use contract.Lifetimes.{Lfts}
use borrow.Fn.World.{ArgsD}
use Rattle.keymap.specs.contracts.refusals.Refusal.number as refusal-number
use Rattle.keymap.proofs.refusals.Refusal.number.Reads as refusal-number-reads

pub refusal-number-asks-nothing : (κs : Lfts 0) (a : ArgsD refusal-number.signature κs) → refusal-number-reads.Pre κs a
refusal-number-asks-nothing κs a = tt
