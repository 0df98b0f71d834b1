-- No public call asks anything of its caller: what its contract requires holds of any arguments, so that a clause that is added breaks the law. Assumes nothing.
use contract.Lifetimes.{Lfts}
use borrow.Fn.World.{ArgsD}
use Rattle.walks.specs.contracts.entries.is_node
use Rattle.walks.proofs.entries.is_node.Reads as is-node-reads
use Rattle.walks.specs.contracts.entries.counts_to
use Rattle.walks.proofs.entries.counts_to.Reads as counts-to-reads
use Rattle.walks.specs.contracts.entries.value_at
use Rattle.walks.proofs.entries.value_at.Reads as value-at-reads
use Rattle.walks.specs.contracts.stands.stand_at
use Rattle.walks.proofs.stands.stand_at.Reads as stand-at-reads
use Rattle.walks.specs.contracts.stands.kids
use Rattle.walks.proofs.stands.kids.Reads as kids-reads
use Rattle.walks.specs.contracts.stands.kid_at
use Rattle.walks.proofs.stands.kid_at.Reads as kid-at-reads
use Rattle.walks.specs.contracts.moves.down
use Rattle.walks.proofs.moves.down.Reads as down-reads
use Rattle.walks.specs.contracts.glide.glide
use Rattle.walks.proofs.glide.glide.Reads as glide-reads
use Rattle.walks.specs.contracts.entries.entry_matches
use Rattle.walks.proofs.entries.entry_matches.Reads as entry-matches-reads
use Rattle.walks.specs.contracts.siblings.child_within
use Rattle.walks.proofs.siblings.child_within.Reads as child-within-reads

pub is-node-asks-nothing : (κs : Lfts 1) (a : ArgsD is_node.signature κs) → is-node-reads.Pre κs a
is-node-asks-nothing κs a = tt

pub counts-to-asks-nothing : (κs : Lfts 0) (a : ArgsD counts_to.signature κs) → counts-to-reads.Pre κs a
counts-to-asks-nothing κs a = tt

pub value-at-asks-nothing : (κs : Lfts 2) (a : ArgsD value_at.signature κs) → value-at-reads.Pre κs a
value-at-asks-nothing κs a = tt

pub stand-at-asks-nothing : (κs : Lfts 1) (a : ArgsD stand_at.signature κs) → stand-at-reads.Pre κs a
stand-at-asks-nothing κs a = tt

pub kids-asks-nothing : (κs : Lfts 1) (a : ArgsD kids.signature κs) → kids-reads.Pre κs a
kids-asks-nothing κs a = tt

pub kid-at-asks-nothing : (κs : Lfts 1) (a : ArgsD kid_at.signature κs) → kid-at-reads.Pre κs a
kid-at-asks-nothing κs a = tt

pub down-asks-nothing : (κs : Lfts 2) (a : ArgsD down.signature κs) → down-reads.Pre κs a
down-asks-nothing κs a = tt

pub glide-asks-nothing : (κs : Lfts 3) (a : ArgsD glide.signature κs) → glide-reads.Pre κs a
glide-asks-nothing κs a = tt

pub entry-matches-asks-nothing : (κs : Lfts 0) (a : ArgsD entry_matches.signature κs) → entry-matches-reads.Pre κs a
entry-matches-asks-nothing κs a = tt

pub child-within-asks-nothing : (κs : Lfts 1) (a : ArgsD child_within.signature κs) → child-within-reads.Pre κs a
child-within-asks-nothing κs a = tt
