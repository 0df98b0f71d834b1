-- Of each public call any two outcomes that its contract allows are equal. Stated over the contract's own claim, so that a clause which is weakened or left out breaks it.
-- Assumes nothing.
use mathlib.Core.Path.{◌≡◌, sym, ◌∙◌}
use contract.Lifetimes.{Lfts}
use denote.Triple.Clauses.{AtExit}
use borrow.Fn.Kinds.{ended_of}
use borrow.Fn.World.{ArgsD, ResD}
use Rattle.walks.specs.contracts.entries.is_node
use Rattle.walks.proofs.entries.is_node.Kinds as is-node-kinds
use Rattle.walks.proofs.entries.is_node.Reads as is-node-reads
use Rattle.walks.specs.contracts.entries.counts_to
use Rattle.walks.proofs.entries.counts_to.Kinds as counts-to-kinds
use Rattle.walks.proofs.entries.counts_to.Reads as counts-to-reads
use Rattle.walks.specs.contracts.entries.value_at
use Rattle.walks.proofs.entries.value_at.Kinds as value-at-kinds
use Rattle.walks.proofs.entries.value_at.Reads as value-at-reads
use Rattle.walks.specs.contracts.stands.stand_at
use Rattle.walks.proofs.stands.stand_at.Kinds as stand-at-kinds
use Rattle.walks.proofs.stands.stand_at.Reads as stand-at-reads
use Rattle.walks.specs.contracts.stands.kids
use Rattle.walks.proofs.stands.kids.Kinds as kids-kinds
use Rattle.walks.proofs.stands.kids.Reads as kids-reads
use Rattle.walks.specs.contracts.stands.kid_at
use Rattle.walks.proofs.stands.kid_at.Kinds as kid-at-kinds
use Rattle.walks.proofs.stands.kid_at.Reads as kid-at-reads
use Rattle.walks.specs.contracts.moves.down
use Rattle.walks.proofs.moves.down.Kinds as down-kinds
use Rattle.walks.proofs.moves.down.Reads as down-reads
use Rattle.walks.specs.contracts.glide.glide
use Rattle.walks.proofs.glide.glide.Kinds as glide-kinds
use Rattle.walks.proofs.glide.glide.Reads as glide-reads
use Rattle.walks.specs.contracts.entries.entry_matches
use Rattle.walks.proofs.entries.entry_matches.Kinds as entry-matches-kinds
use Rattle.walks.proofs.entries.entry_matches.Reads as entry-matches-reads
use Rattle.walks.specs.contracts.siblings.child_within
use Rattle.walks.proofs.siblings.child_within.Kinds as child-within-kinds
use Rattle.walks.proofs.siblings.child_within.Reads as child-within-reads

pub is-node-determined : (κs : Lfts 1) (a : ArgsD is_node.signature κs) (r₁ r₂ : ResD is_node.signature κs) (s₁ s₂ : AtExit (ended_of 1 is-node-kinds.ps is-node-kinds.r) κs)
    → is-node-reads.Post κs a r₁ s₁ → is-node-reads.Post κs a r₂ s₂ → r₁ ≡ r₂
is-node-determined κs a r₁ r₂ s₁ s₂ p q = p ∙ sym q

pub counts-to-determined : (κs : Lfts 0) (a : ArgsD counts_to.signature κs) (r₁ r₂ : ResD counts_to.signature κs) (s₁ s₂ : AtExit (ended_of 0 counts-to-kinds.ps counts-to-kinds.r) κs)
    → counts-to-reads.Post κs a r₁ s₁ → counts-to-reads.Post κs a r₂ s₂ → r₁ ≡ r₂
counts-to-determined κs a r₁ r₂ s₁ s₂ p q = p ∙ sym q

pub value-at-determined : (κs : Lfts 2) (a : ArgsD value_at.signature κs) (r₁ r₂ : ResD value_at.signature κs) (s₁ s₂ : AtExit (ended_of 2 value-at-kinds.ps value-at-kinds.r) κs)
    → value-at-reads.Post κs a r₁ s₁ → value-at-reads.Post κs a r₂ s₂ → r₁ ≡ r₂
value-at-determined κs a r₁ r₂ s₁ s₂ p q = p ∙ sym q

pub stand-at-determined : (κs : Lfts 1) (a : ArgsD stand_at.signature κs) (r₁ r₂ : ResD stand_at.signature κs) (s₁ s₂ : AtExit (ended_of 1 stand-at-kinds.ps stand-at-kinds.r) κs)
    → stand-at-reads.Post κs a r₁ s₁ → stand-at-reads.Post κs a r₂ s₂ → r₁ ≡ r₂
stand-at-determined κs a r₁ r₂ s₁ s₂ p q = p ∙ sym q

pub kids-determined : (κs : Lfts 1) (a : ArgsD kids.signature κs) (r₁ r₂ : ResD kids.signature κs) (s₁ s₂ : AtExit (ended_of 1 kids-kinds.ps kids-kinds.r) κs)
    → kids-reads.Post κs a r₁ s₁ → kids-reads.Post κs a r₂ s₂ → r₁ ≡ r₂
kids-determined κs a r₁ r₂ s₁ s₂ p q = p ∙ sym q

pub kid-at-determined : (κs : Lfts 1) (a : ArgsD kid_at.signature κs) (r₁ r₂ : ResD kid_at.signature κs) (s₁ s₂ : AtExit (ended_of 1 kid-at-kinds.ps kid-at-kinds.r) κs)
    → kid-at-reads.Post κs a r₁ s₁ → kid-at-reads.Post κs a r₂ s₂ → r₁ ≡ r₂
kid-at-determined κs a r₁ r₂ s₁ s₂ p q = p ∙ sym q

pub down-determined : (κs : Lfts 2) (a : ArgsD down.signature κs) (r₁ r₂ : ResD down.signature κs) (s₁ s₂ : AtExit (ended_of 2 down-kinds.ps down-kinds.r) κs)
    → down-reads.Post κs a r₁ s₁ → down-reads.Post κs a r₂ s₂ → r₁ ≡ r₂
down-determined κs a r₁ r₂ s₁ s₂ p q = p ∙ sym q

pub glide-determined : (κs : Lfts 3) (a : ArgsD glide.signature κs) (r₁ r₂ : ResD glide.signature κs) (s₁ s₂ : AtExit (ended_of 3 glide-kinds.ps glide-kinds.r) κs)
    → glide-reads.Post κs a r₁ s₁ → glide-reads.Post κs a r₂ s₂ → r₁ ≡ r₂
glide-determined κs a r₁ r₂ s₁ s₂ p q = p ∙ sym q

pub entry-matches-determined : (κs : Lfts 0) (a : ArgsD entry_matches.signature κs) (r₁ r₂ : ResD entry_matches.signature κs) (s₁ s₂ : AtExit (ended_of 0 entry-matches-kinds.ps entry-matches-kinds.r) κs)
    → entry-matches-reads.Post κs a r₁ s₁ → entry-matches-reads.Post κs a r₂ s₂ → r₁ ≡ r₂
entry-matches-determined κs a r₁ r₂ s₁ s₂ p q = p ∙ sym q

pub child-within-determined : (κs : Lfts 1) (a : ArgsD child_within.signature κs) (r₁ r₂ : ResD child_within.signature κs) (s₁ s₂ : AtExit (ended_of 1 child-within-kinds.ps child-within-kinds.r) κs)
    → child-within-reads.Post κs a r₁ s₁ → child-within-reads.Post κs a r₂ s₂ → r₁ ≡ r₂
child-within-determined κs a r₁ r₂ s₁ s₂ p q = p ∙ sym q
