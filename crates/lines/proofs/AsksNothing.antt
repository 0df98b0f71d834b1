-- No public call asks anything of its caller: what its contract requires holds of any arguments, so that a clause that is added breaks the law. Assumes nothing.
use contract.Lifetimes.{Lfts}
use borrow.Fn.World.{ArgsD}
use Rattle.lines.specs.contracts.tab_line
use Rattle.lines.proofs.tab_line.Reads as tab-line-reads
use Rattle.lines.specs.contracts.tab_line_key
use Rattle.lines.proofs.tab_line_key.Reads as tab-line-key-reads
use Rattle.lines.specs.contracts.next_line
use Rattle.lines.proofs.next_line.Reads as next-line-reads
use Rattle.lines.specs.contracts.write_line
use Rattle.lines.proofs.write_line.Reads as write-line-reads

pub tab-line-asks-nothing : (κs : Lfts 1) (a : ArgsD tab_line.signature κs) → tab-line-reads.Pre κs a
tab-line-asks-nothing κs a = tt

pub tab-line-key-asks-nothing : (κs : Lfts 1) (a : ArgsD tab_line_key.signature κs) → tab-line-key-reads.Pre κs a
tab-line-key-asks-nothing κs a = tt

pub next-line-asks-nothing : (κs : Lfts 1) (a : ArgsD next_line.signature κs) → next-line-reads.Pre κs a
next-line-asks-nothing κs a = tt

pub write-line-asks-nothing : (κs : Lfts 2) (a : ArgsD write_line.signature κs) → write-line-reads.Pre κs a
write-line-asks-nothing κs a = tt
