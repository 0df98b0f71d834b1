-- Two outcomes that a call's contract allows are equal. Each law is over the contract's own claim, so a clause that is weakened breaks it.
-- Assumes nothing.
use mathlib.Core.Path.{◌≡◌, sym, ◌∙◌}
use contract.Lifetimes.{Lfts}
use denote.Triple.Clauses.{AtExit}
use borrow.Fn.World.{ArgsD, ResD}
use borrow.Fn.Kinds.{ended_of}
use Rattle.records.specs.contracts.words.entry_of
use Rattle.records.proofs.words.entry_of.Kinds as entry-of-kinds
use Rattle.records.proofs.words.entry_of.Reads as entry-of-reads
use Rattle.records.specs.contracts.words.label_of
use Rattle.records.proofs.words.label_of.Kinds as label-of-kinds
use Rattle.records.proofs.words.label_of.Reads as label-of-reads
use Rattle.records.specs.contracts.words.value_of
use Rattle.records.proofs.words.value_of.Kinds as value-of-kinds
use Rattle.records.proofs.words.value_of.Reads as value-of-reads
use Rattle.records.specs.contracts.words.first_child
use Rattle.records.proofs.words.first_child.Kinds as first-child-kinds
use Rattle.records.proofs.words.first_child.Reads as first-child-reads
use Rattle.records.specs.contracts.words.next_sibling
use Rattle.records.proofs.words.next_sibling.Kinds as next-sibling-kinds
use Rattle.records.proofs.words.next_sibling.Reads as next-sibling-reads
use Rattle.records.specs.contracts.words.parent_of
use Rattle.records.proofs.words.parent_of.Kinds as parent-of-kinds
use Rattle.records.proofs.words.parent_of.Reads as parent-of-reads
use Rattle.records.specs.contracts.words.last_record
use Rattle.records.proofs.words.last_record.Kinds as last-record-kinds
use Rattle.records.proofs.words.last_record.Reads as last-record-reads
use Rattle.records.specs.contracts.words.used_count
use Rattle.records.proofs.words.used_count.Kinds as used-count-kinds
use Rattle.records.proofs.words.used_count.Reads as used-count-reads
use Rattle.records.specs.contracts.words.capacity_of
use Rattle.records.proofs.words.capacity_of.Kinds as capacity-of-kinds
use Rattle.records.proofs.words.capacity_of.Reads as capacity-of-reads
use Rattle.records.specs.contracts.soundness.is_sound
use Rattle.records.proofs.soundness.is_sound.Kinds as is-sound-kinds
use Rattle.records.proofs.soundness.is_sound.Reads as is-sound-reads

module _ (κs : Lfts 1) (a : ArgsD entry_of.signature κs) (r₁ r₂ : ResD entry_of.signature κs) (s₁ s₂ : AtExit (ended_of 1 entry-of-kinds.ps entry-of-kinds.r) κs) where
  pub entry-of-determined : entry-of-reads.Post κs a r₁ s₁ → entry-of-reads.Post κs a r₂ s₂ → r₁ ≡ r₂
  entry-of-determined p q = p ∙ sym q

module _ (κs : Lfts 1) (a : ArgsD label_of.signature κs) (r₁ r₂ : ResD label_of.signature κs) (s₁ s₂ : AtExit (ended_of 1 label-of-kinds.ps label-of-kinds.r) κs) where
  pub label-of-determined : label-of-reads.Post κs a r₁ s₁ → label-of-reads.Post κs a r₂ s₂ → r₁ ≡ r₂
  label-of-determined p q = p ∙ sym q

module _ (κs : Lfts 1) (a : ArgsD value_of.signature κs) (r₁ r₂ : ResD value_of.signature κs) (s₁ s₂ : AtExit (ended_of 1 value-of-kinds.ps value-of-kinds.r) κs) where
  pub value-of-determined : value-of-reads.Post κs a r₁ s₁ → value-of-reads.Post κs a r₂ s₂ → r₁ ≡ r₂
  value-of-determined p q = p ∙ sym q

module _ (κs : Lfts 1) (a : ArgsD first_child.signature κs) (r₁ r₂ : ResD first_child.signature κs) (s₁ s₂ : AtExit (ended_of 1 first-child-kinds.ps first-child-kinds.r) κs) where
  pub first-child-determined : first-child-reads.Post κs a r₁ s₁ → first-child-reads.Post κs a r₂ s₂ → r₁ ≡ r₂
  first-child-determined p q = p ∙ sym q

module _ (κs : Lfts 1) (a : ArgsD next_sibling.signature κs) (r₁ r₂ : ResD next_sibling.signature κs) (s₁ s₂ : AtExit (ended_of 1 next-sibling-kinds.ps next-sibling-kinds.r) κs) where
  pub next-sibling-determined : next-sibling-reads.Post κs a r₁ s₁ → next-sibling-reads.Post κs a r₂ s₂ → r₁ ≡ r₂
  next-sibling-determined p q = p ∙ sym q

module _ (κs : Lfts 1) (a : ArgsD parent_of.signature κs) (r₁ r₂ : ResD parent_of.signature κs) (s₁ s₂ : AtExit (ended_of 1 parent-of-kinds.ps parent-of-kinds.r) κs) where
  pub parent-of-determined : parent-of-reads.Post κs a r₁ s₁ → parent-of-reads.Post κs a r₂ s₂ → r₁ ≡ r₂
  parent-of-determined p q = p ∙ sym q

module _ (κs : Lfts 1) (a : ArgsD last_record.signature κs) (r₁ r₂ : ResD last_record.signature κs) (s₁ s₂ : AtExit (ended_of 1 last-record-kinds.ps last-record-kinds.r) κs) where
  pub last-record-determined : last-record-reads.Post κs a r₁ s₁ → last-record-reads.Post κs a r₂ s₂ → r₁ ≡ r₂
  last-record-determined p q = p ∙ sym q

module _ (κs : Lfts 1) (a : ArgsD used_count.signature κs) (r₁ r₂ : ResD used_count.signature κs) (s₁ s₂ : AtExit (ended_of 1 used-count-kinds.ps used-count-kinds.r) κs) where
  pub used-count-determined : used-count-reads.Post κs a r₁ s₁ → used-count-reads.Post κs a r₂ s₂ → r₁ ≡ r₂
  used-count-determined p q = p ∙ sym q

module _ (κs : Lfts 1) (a : ArgsD capacity_of.signature κs) (r₁ r₂ : ResD capacity_of.signature κs) (s₁ s₂ : AtExit (ended_of 1 capacity-of-kinds.ps capacity-of-kinds.r) κs) where
  pub capacity-of-determined : capacity-of-reads.Post κs a r₁ s₁ → capacity-of-reads.Post κs a r₂ s₂ → r₁ ≡ r₂
  capacity-of-determined p q = p ∙ sym q

module _ (κs : Lfts 1) (a : ArgsD is_sound.signature κs) (r₁ r₂ : ResD is_sound.signature κs) (s₁ s₂ : AtExit (ended_of 1 is-sound-kinds.ps is-sound-kinds.r) κs) where
  pub is-sound-determined : is-sound-reads.Post κs a r₁ s₁ → is-sound-reads.Post κs a r₂ s₂ → r₁ ≡ r₂
  is-sound-determined p q = p.0 ∙ sym q.0
