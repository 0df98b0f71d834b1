-- What each public call's contract says, in the definitions of specs/. Each tie is over the contract's own claim, so a contract that cites another definition breaks it.
-- Assumes nothing.
use mathlib.Core.Path.{◌≡◌}
use Prim.Native.Nat.{◌+◌, ◌-◌}
use lib.ListN.{length}
use Rattle.keymap.specs.Contract.{Tells}
use Rattle.keymap.specs.Bits.{bit}
use Rattle.walks.specs.Rule.{is_node_of, counts_to, matches, lowest_by, value_of_node}
use Rattle.walks.specs.Stands.{stand_at, kids_from, kid_from, down_from}
use Rattle.walks.specs.Glide.{glided_from}
use Rattle.walks.proofs.entries.is_node.Kinds as is-node-kinds
use Rattle.walks.proofs.entries.is_node.Reads as is-node-reads
use Rattle.walks.proofs.entries.counts_to.Kinds as counts-to-kinds
use Rattle.walks.proofs.entries.counts_to.Reads as counts-to-reads
use Rattle.walks.proofs.entries.value_at.Kinds as value-at-kinds
use Rattle.walks.proofs.entries.value_at.Reads as value-at-reads
use Rattle.walks.proofs.stands.stand_at.Kinds as stand-at-kinds
use Rattle.walks.proofs.stands.stand_at.Reads as stand-at-reads
use Rattle.walks.proofs.stands.kids.Kinds as kids-kinds
use Rattle.walks.proofs.stands.kids.Reads as kids-reads
use Rattle.walks.proofs.stands.kid_at.Kinds as kid-at-kinds
use Rattle.walks.proofs.stands.kid_at.Reads as kid-at-reads
use Rattle.walks.proofs.moves.down.Kinds as down-kinds
use Rattle.walks.proofs.moves.down.Reads as down-reads
use Rattle.walks.proofs.glide.glide.Kinds as glide-kinds
use Rattle.walks.proofs.glide.glide.Reads as glide-reads
use Rattle.walks.proofs.entries.entry_matches.Kinds as entry-matches-kinds
use Rattle.walks.proofs.entries.entry_matches.Reads as entry-matches-reads
use Rattle.walks.proofs.siblings.child_within.Kinds as child-within-kinds
use Rattle.walks.proofs.siblings.child_within.Reads as child-within-reads

pub is-node-says : Tells 1 is-node-kinds.ps is-node-kinds.r is-node-reads.Post (λ κs a r s. r ≡ is_node_of (length a.0.now) a.1.0)
is-node-says κs a r s p = p

pub counts-to-says : Tells 0 counts-to-kinds.ps counts-to-kinds.r counts-to-reads.Post (λ κs a r s. r ≡ counts_to a.0 a.1.0 a.1.1.0)
counts-to-says κs a r s p = p

pub value-at-says : Tells 2 value-at-kinds.ps value-at-kinds.r value-at-reads.Post (λ κs a r s. r ≡ (value_of_node a.0.now a.1.0.now a.1.1.0))
value-at-says κs a r s p = p

pub stand-at-says : Tells 1 stand-at-kinds.ps stand-at-kinds.r stand-at-reads.Post (λ κs a r s. r ≡ stand_at (bit a.0.words.now) a.0.len a.1.0)
stand-at-says κs a r s p = p

pub kids-says : Tells 1 kids-kinds.ps kids-kinds.r kids-reads.Post (λ κs a r s. r ≡ kids_from (bit a.0.words.now) a.0.len a.1.0)
kids-says κs a r s p = p

pub kid-at-says : Tells 1 kid-at-kinds.ps kid-at-kinds.r kid-at-reads.Post (λ κs a r s. r ≡ kid_from (bit a.0.words.now) a.0.len a.1.0 a.1.1.0 a.1.1.1.0)
kid-at-says κs a r s p = p

pub down-says : Tells 2 down-kinds.ps down-kinds.r down-reads.Post (λ κs a r s. r ≡ down_from a.0.now (bit a.1.0.words.now) a.1.0.len a.1.1.0 a.1.1.1.0)
down-says κs a r s p = p

pub glide-says : Tells 3 glide-kinds.ps glide-kinds.r glide-reads.Post (λ κs a r s. r ≡ glided_from a.0.now a.1.0.now (bit a.1.1.0.words.now) a.1.1.0.len a.1.1.1.0)
glide-says κs a r s p = p

pub entry-matches-says : Tells 0 entry-matches-kinds.ps entry-matches-kinds.r entry-matches-reads.Post (λ κs a r s. r ≡ matches a.0 a.1.0)
entry-matches-says κs a r s p = p

pub child-within-says : Tells 1 child-within-kinds.ps child-within-kinds.r child-within-reads.Post (λ κs a r s. r ≡ (lowest_by a.0.now a.1.0 (a.1.1.1.0 - a.1.1.0) (a.1.1.0 + 1) a.1.1.1.1.0))
child-within-says κs a r s p = p
