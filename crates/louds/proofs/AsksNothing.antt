-- No public call asks anything of its caller: what its contract requires holds of any arguments, so that a clause that is added breaks the law. Assumes nothing.
use contract.Lifetimes.{Lfts}
use borrow.Fn.World.{ArgsD}
use Rattle.louds.specs.contracts.bits.bit_at
use Rattle.louds.proofs.bits.bit_at.Reads as bit-at-reads
use Rattle.louds.specs.contracts.rank.ones_in
use Rattle.louds.proofs.rank.ones_in.Reads as ones-in-reads
use Rattle.louds.specs.contracts.rank.ones_before
use Rattle.louds.proofs.rank.ones_before.Reads as ones-before-reads
use Rattle.louds.specs.contracts.rank.zeros_before
use Rattle.louds.proofs.rank.zeros_before.Reads as zeros-before-reads
use Rattle.louds.specs.contracts.select.lowest_one
use Rattle.louds.proofs.select.lowest_one.Reads as lowest-one-reads
use Rattle.louds.specs.contracts.bits.Sequence.zero_at
use Rattle.louds.proofs.bits.Sequence.zero_at.Reads as zero-at-reads
use Rattle.louds.specs.contracts.bits.Sequence.zero_from
use Rattle.louds.proofs.bits.Sequence.zero_from.Reads as zero-from-reads
use Rattle.louds.specs.contracts.bits.Sequence.one_at
use Rattle.louds.proofs.bits.Sequence.one_at.Reads as one-at-reads
use Rattle.louds.specs.contracts.select.one_back
use Rattle.louds.proofs.select.one_back.Reads as one-back-reads
use Rattle.louds.specs.contracts.bits.Sequence.children
use Rattle.louds.proofs.bits.Sequence.children.Reads as children-reads
use Rattle.louds.specs.contracts.bits.Sequence.parent
use Rattle.louds.proofs.bits.Sequence.parent.Reads as parent-reads
use Rattle.louds.specs.contracts.bits.put_one
use Rattle.louds.proofs.bits.put_one.Reads as put-one-reads
use Rattle.louds.specs.contracts.rank.ones_by_byte
use Rattle.louds.proofs.rank.ones_by_byte.Reads as ones-by-byte-reads
use Rattle.louds.specs.contracts.select.ones_from
use Rattle.louds.proofs.select.ones_from.Reads as ones-from-reads

pub bit-at-asks-nothing : (κs : Lfts 1) (a : ArgsD bit_at.signature κs) → bit-at-reads.Pre κs a
bit-at-asks-nothing κs a = tt

pub ones-in-asks-nothing : (κs : Lfts 0) (a : ArgsD ones_in.signature κs) → ones-in-reads.Pre κs a
ones-in-asks-nothing κs a = tt

pub ones-before-asks-nothing : (κs : Lfts 1) (a : ArgsD ones_before.signature κs) → ones-before-reads.Pre κs a
ones-before-asks-nothing κs a = tt

pub zeros-before-asks-nothing : (κs : Lfts 1) (a : ArgsD zeros_before.signature κs) → zeros-before-reads.Pre κs a
zeros-before-asks-nothing κs a = tt

pub lowest-one-asks-nothing : (κs : Lfts 0) (a : ArgsD lowest_one.signature κs) → lowest-one-reads.Pre κs a
lowest-one-asks-nothing κs a = tt

pub zero-at-asks-nothing : (κs : Lfts 1) (a : ArgsD zero_at.signature κs) → zero-at-reads.Pre κs a
zero-at-asks-nothing κs a = tt

pub zero-from-asks-nothing : (κs : Lfts 1) (a : ArgsD zero_from.signature κs) → zero-from-reads.Pre κs a
zero-from-asks-nothing κs a = tt

pub one-at-asks-nothing : (κs : Lfts 1) (a : ArgsD one_at.signature κs) → one-at-reads.Pre κs a
one-at-asks-nothing κs a = tt

pub one-back-asks-nothing : (κs : Lfts 1) (a : ArgsD one_back.signature κs) → one-back-reads.Pre κs a
one-back-asks-nothing κs a = tt

pub children-asks-nothing : (κs : Lfts 1) (a : ArgsD children.signature κs) → children-reads.Pre κs a
children-asks-nothing κs a = tt

pub parent-asks-nothing : (κs : Lfts 1) (a : ArgsD parent.signature κs) → parent-reads.Pre κs a
parent-asks-nothing κs a = tt

pub put-one-asks-nothing : (κs : Lfts 1) (a : ArgsD put_one.signature κs) → put-one-reads.Pre κs a
put-one-asks-nothing κs a = tt

pub ones-by-byte-asks-nothing : (κs : Lfts 0) (a : ArgsD ones_by_byte.signature κs) → ones-by-byte-reads.Pre κs a
ones-by-byte-asks-nothing κs a = tt

pub ones-from-asks-nothing : (κs : Lfts 0) (a : ArgsD ones_from.signature κs) → ones-from-reads.Pre κs a
ones-from-asks-nothing κs a = tt
