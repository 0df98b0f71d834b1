-- No public call asks anything of its caller: what its contract requires holds of any arguments, so that a clause that is added breaks the law. Assumes nothing.
use contract.Lifetimes.{Lfts}
use borrow.Fn.World.{ArgsD}
use Rattle.catalogue.specs.contracts.answer
use Rattle.catalogue.proofs.answer.Reads as answer-reads
use Rattle.catalogue.specs.contracts.reading.begin
use Rattle.catalogue.proofs.reading.begin.Reads as begin-reads
use Rattle.catalogue.specs.contracts.reading.next_at
use Rattle.catalogue.proofs.reading.next_at.Reads as next-at-reads
use Rattle.catalogue.specs.contracts.reading.take_read
use Rattle.catalogue.proofs.reading.take_read.Reads as take-read-reads

pub answer-asks-nothing : (κs : Lfts 7) (a : ArgsD answer.signature κs) → answer-reads.Pre κs a
answer-asks-nothing κs a = tt

pub begin-asks-nothing : (κs : Lfts 0) (a : ArgsD begin.signature κs) → begin-reads.Pre κs a
begin-asks-nothing κs a = tt

pub next-at-asks-nothing : (κs : Lfts 0) (a : ArgsD next_at.signature κs) → next-at-reads.Pre κs a
next-at-asks-nothing κs a = tt

pub take-read-asks-nothing : (κs : Lfts 0) (a : ArgsD take_read.signature κs) → take-read-reads.Pre κs a
take-read-asks-nothing κs a = tt
