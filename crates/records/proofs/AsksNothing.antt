-- No public call asks anything of its caller: what its contract requires holds of any arguments, so that a clause that is added breaks the law. Assumes nothing.
use contract.Lifetimes.{Lfts}
use borrow.Fn.World.{ArgsD}
use Rattle.records.specs.contracts.words.entry_of
use Rattle.records.proofs.words.entry_of.Reads as entry-of-reads
use Rattle.records.specs.contracts.words.label_of
use Rattle.records.proofs.words.label_of.Reads as label-of-reads
use Rattle.records.specs.contracts.words.value_of
use Rattle.records.proofs.words.value_of.Reads as value-of-reads
use Rattle.records.specs.contracts.words.first_child
use Rattle.records.proofs.words.first_child.Reads as first-child-reads
use Rattle.records.specs.contracts.words.next_sibling
use Rattle.records.proofs.words.next_sibling.Reads as next-sibling-reads
use Rattle.records.specs.contracts.words.parent_of
use Rattle.records.proofs.words.parent_of.Reads as parent-of-reads
use Rattle.records.specs.contracts.words.last_record
use Rattle.records.proofs.words.last_record.Reads as last-record-reads
use Rattle.records.specs.contracts.words.used_count
use Rattle.records.proofs.words.used_count.Reads as used-count-reads
use Rattle.records.specs.contracts.words.capacity_of
use Rattle.records.proofs.words.capacity_of.Reads as capacity-of-reads
use Rattle.records.specs.contracts.soundness.is_sound
use Rattle.records.proofs.soundness.is_sound.Reads as is-sound-reads

pub entry-of-asks-nothing : (κs : Lfts 1) (a : ArgsD entry_of.signature κs) → entry-of-reads.Pre κs a
entry-of-asks-nothing κs a = tt

pub label-of-asks-nothing : (κs : Lfts 1) (a : ArgsD label_of.signature κs) → label-of-reads.Pre κs a
label-of-asks-nothing κs a = tt

pub value-of-asks-nothing : (κs : Lfts 1) (a : ArgsD value_of.signature κs) → value-of-reads.Pre κs a
value-of-asks-nothing κs a = tt

pub first-child-asks-nothing : (κs : Lfts 1) (a : ArgsD first_child.signature κs) → first-child-reads.Pre κs a
first-child-asks-nothing κs a = tt

pub next-sibling-asks-nothing : (κs : Lfts 1) (a : ArgsD next_sibling.signature κs) → next-sibling-reads.Pre κs a
next-sibling-asks-nothing κs a = tt

pub parent-of-asks-nothing : (κs : Lfts 1) (a : ArgsD parent_of.signature κs) → parent-of-reads.Pre κs a
parent-of-asks-nothing κs a = tt

pub last-record-asks-nothing : (κs : Lfts 1) (a : ArgsD last_record.signature κs) → last-record-reads.Pre κs a
last-record-asks-nothing κs a = tt

pub used-count-asks-nothing : (κs : Lfts 1) (a : ArgsD used_count.signature κs) → used-count-reads.Pre κs a
used-count-asks-nothing κs a = tt

pub capacity-of-asks-nothing : (κs : Lfts 1) (a : ArgsD capacity_of.signature κs) → capacity-of-reads.Pre κs a
capacity-of-asks-nothing κs a = tt

pub is-sound-asks-nothing : (κs : Lfts 1) (a : ArgsD is_sound.signature κs) → is-sound-reads.Pre κs a
is-sound-asks-nothing κs a = tt
