-- Of each public call any two outcomes that its contract allows are equal: the contract gives the answer, or what the lent words hold at exit, by an equation.
-- Stated over the contract's own claim, so that a clause which is weakened or left out breaks it. Assumes nothing.
use Rattle.std.proofs.Common.{◌≡◌, sym, ◌∙◌}
use contract.Lifetimes.{Lfts}
use denote.Triple.Clauses.{AtExit}
use borrow.Fn.Kinds.{ended_of}
use borrow.Fn.World.{ArgsD, ResD}
use Rattle.louds.specs.contracts.bits.bit_at
use Rattle.louds.proofs.bits.bit_at.Kinds as bit-at-kinds
use Rattle.louds.proofs.bits.bit_at.Reads as bit-at-reads
use Rattle.louds.specs.contracts.rank.ones_in
use Rattle.louds.proofs.rank.ones_in.Kinds as ones-in-kinds
use Rattle.louds.proofs.rank.ones_in.Reads as ones-in-reads
use Rattle.louds.specs.contracts.rank.ones_before
use Rattle.louds.proofs.rank.ones_before.Kinds as ones-before-kinds
use Rattle.louds.proofs.rank.ones_before.Reads as ones-before-reads
use Rattle.louds.specs.contracts.rank.zeros_before
use Rattle.louds.proofs.rank.zeros_before.Kinds as zeros-before-kinds
use Rattle.louds.proofs.rank.zeros_before.Reads as zeros-before-reads
use Rattle.louds.specs.contracts.select.lowest_one
use Rattle.louds.proofs.select.lowest_one.Kinds as lowest-one-kinds
use Rattle.louds.proofs.select.lowest_one.Reads as lowest-one-reads
use Rattle.louds.specs.contracts.bits.Sequence.zero_at
use Rattle.louds.proofs.bits.Sequence.zero_at.Kinds as zero-at-kinds
use Rattle.louds.proofs.bits.Sequence.zero_at.Reads as zero-at-reads
use Rattle.louds.specs.contracts.bits.Sequence.zero_from
use Rattle.louds.proofs.bits.Sequence.zero_from.Kinds as zero-from-kinds
use Rattle.louds.proofs.bits.Sequence.zero_from.Reads as zero-from-reads
use Rattle.louds.specs.contracts.bits.Sequence.one_at
use Rattle.louds.proofs.bits.Sequence.one_at.Kinds as one-at-kinds
use Rattle.louds.proofs.bits.Sequence.one_at.Reads as one-at-reads
use Rattle.louds.specs.contracts.select.one_back
use Rattle.louds.proofs.select.one_back.Kinds as one-back-kinds
use Rattle.louds.proofs.select.one_back.Reads as one-back-reads
use Rattle.louds.specs.contracts.bits.Sequence.children
use Rattle.louds.proofs.bits.Sequence.children.Kinds as children-kinds
use Rattle.louds.proofs.bits.Sequence.children.Reads as children-reads
use Rattle.louds.specs.contracts.bits.Sequence.parent
use Rattle.louds.proofs.bits.Sequence.parent.Kinds as parent-kinds
use Rattle.louds.proofs.bits.Sequence.parent.Reads as parent-reads
use Rattle.louds.specs.contracts.bits.put_one
use Rattle.louds.proofs.bits.put_one.Kinds as put-one-kinds
use Rattle.louds.proofs.bits.put_one.Reads as put-one-reads
use Rattle.louds.specs.contracts.rank.ones_by_byte
use Rattle.louds.proofs.rank.ones_by_byte.Kinds as ones-by-byte-kinds
use Rattle.louds.proofs.rank.ones_by_byte.Reads as ones-by-byte-reads
use Rattle.louds.specs.contracts.select.ones_from
use Rattle.louds.proofs.select.ones_from.Kinds as ones-from-kinds
use Rattle.louds.proofs.select.ones_from.Reads as ones-from-reads

module _ (κs : Lfts 1) where
  pub bit-at-determined : (a : ArgsD bit_at.signature κs) (r₁ r₂ : ResD bit_at.signature κs) (s₁ s₂ : AtExit (ended_of 1 bit-at-kinds.ps bit-at-kinds.r) κs)
      → bit-at-reads.Post κs a r₁ s₁ → bit-at-reads.Post κs a r₂ s₂ → r₁ ≡ r₂
  bit-at-determined a r₁ r₂ s₁ s₂ p q = p ∙ sym q

  pub ones-before-determined : (a : ArgsD ones_before.signature κs) (r₁ r₂ : ResD ones_before.signature κs) (s₁ s₂ : AtExit (ended_of 1 ones-before-kinds.ps ones-before-kinds.r) κs)
      → ones-before-reads.Post κs a r₁ s₁ → ones-before-reads.Post κs a r₂ s₂ → r₁ ≡ r₂
  ones-before-determined a r₁ r₂ s₁ s₂ p q = p ∙ sym q

  pub zeros-before-determined : (a : ArgsD zeros_before.signature κs) (r₁ r₂ : ResD zeros_before.signature κs) (s₁ s₂ : AtExit (ended_of 1 zeros-before-kinds.ps zeros-before-kinds.r) κs)
      → zeros-before-reads.Post κs a r₁ s₁ → zeros-before-reads.Post κs a r₂ s₂ → r₁ ≡ r₂
  zeros-before-determined a r₁ r₂ s₁ s₂ p q = p ∙ sym q

  pub zero-at-determined : (a : ArgsD zero_at.signature κs) (r₁ r₂ : ResD zero_at.signature κs) (s₁ s₂ : AtExit (ended_of 1 zero-at-kinds.ps zero-at-kinds.r) κs)
      → zero-at-reads.Post κs a r₁ s₁ → zero-at-reads.Post κs a r₂ s₂ → r₁ ≡ r₂
  zero-at-determined a r₁ r₂ s₁ s₂ p q = p ∙ sym q

  pub zero-from-determined : (a : ArgsD zero_from.signature κs) (r₁ r₂ : ResD zero_from.signature κs) (s₁ s₂ : AtExit (ended_of 1 zero-from-kinds.ps zero-from-kinds.r) κs)
      → zero-from-reads.Post κs a r₁ s₁ → zero-from-reads.Post κs a r₂ s₂ → r₁ ≡ r₂
  zero-from-determined a r₁ r₂ s₁ s₂ p q = p ∙ sym q

  pub one-at-determined : (a : ArgsD one_at.signature κs) (r₁ r₂ : ResD one_at.signature κs) (s₁ s₂ : AtExit (ended_of 1 one-at-kinds.ps one-at-kinds.r) κs)
      → one-at-reads.Post κs a r₁ s₁ → one-at-reads.Post κs a r₂ s₂ → r₁ ≡ r₂
  one-at-determined a r₁ r₂ s₁ s₂ p q = p ∙ sym q

  pub one-back-determined : (a : ArgsD one_back.signature κs) (r₁ r₂ : ResD one_back.signature κs) (s₁ s₂ : AtExit (ended_of 1 one-back-kinds.ps one-back-kinds.r) κs)
      → one-back-reads.Post κs a r₁ s₁ → one-back-reads.Post κs a r₂ s₂ → r₁ ≡ r₂
  one-back-determined a r₁ r₂ s₁ s₂ p q = p ∙ sym q

  pub children-determined : (a : ArgsD children.signature κs) (r₁ r₂ : ResD children.signature κs) (s₁ s₂ : AtExit (ended_of 1 children-kinds.ps children-kinds.r) κs)
      → children-reads.Post κs a r₁ s₁ → children-reads.Post κs a r₂ s₂ → r₁ ≡ r₂
  children-determined a r₁ r₂ s₁ s₂ p q = p ∙ sym q

  pub parent-determined : (a : ArgsD parent.signature κs) (r₁ r₂ : ResD parent.signature κs) (s₁ s₂ : AtExit (ended_of 1 parent-kinds.ps parent-kinds.r) κs)
      → parent-reads.Post κs a r₁ s₁ → parent-reads.Post κs a r₂ s₂ → r₁ ≡ r₂
  parent-determined a r₁ r₂ s₁ s₂ p q = p ∙ sym q

  pub put-one-determined : (a : ArgsD put_one.signature κs) (r₁ r₂ : ResD put_one.signature κs) (s₁ s₂ : AtExit (ended_of 1 put-one-kinds.ps put-one-kinds.r) κs)
      → put-one-reads.Post κs a r₁ s₁ → put-one-reads.Post κs a r₂ s₂ → s₁.0.now ≡ s₂.0.now
  put-one-determined a r₁ r₂ s₁ s₂ p q = p ∙ sym q

module _ (κs : Lfts 0) where
  pub ones-in-determined : (a : ArgsD ones_in.signature κs) (r₁ r₂ : ResD ones_in.signature κs) (s₁ s₂ : AtExit (ended_of 0 ones-in-kinds.ps ones-in-kinds.r) κs)
      → ones-in-reads.Post κs a r₁ s₁ → ones-in-reads.Post κs a r₂ s₂ → r₁ ≡ r₂
  ones-in-determined a r₁ r₂ s₁ s₂ p q = p ∙ sym q

  pub lowest-one-determined : (a : ArgsD lowest_one.signature κs) (r₁ r₂ : ResD lowest_one.signature κs) (s₁ s₂ : AtExit (ended_of 0 lowest-one-kinds.ps lowest-one-kinds.r) κs)
      → lowest-one-reads.Post κs a r₁ s₁ → lowest-one-reads.Post κs a r₂ s₂ → r₁ ≡ r₂
  lowest-one-determined a r₁ r₂ s₁ s₂ p q = p ∙ sym q

  pub ones-by-byte-determined : (a : ArgsD ones_by_byte.signature κs) (r₁ r₂ : ResD ones_by_byte.signature κs) (s₁ s₂ : AtExit (ended_of 0 ones-by-byte-kinds.ps ones-by-byte-kinds.r) κs)
      → ones-by-byte-reads.Post κs a r₁ s₁ → ones-by-byte-reads.Post κs a r₂ s₂ → r₁ ≡ r₂
  ones-by-byte-determined a r₁ r₂ s₁ s₂ p q = p ∙ sym q

  pub ones-from-determined : (a : ArgsD ones_from.signature κs) (r₁ r₂ : ResD ones_from.signature κs) (s₁ s₂ : AtExit (ended_of 0 ones-from-kinds.ps ones-from-kinds.r) κs)
      → ones-from-reads.Post κs a r₁ s₁ → ones-from-reads.Post κs a r₂ s₂ → r₁ ≡ r₂
  ones-from-determined a r₁ r₂ s₁ s₂ p q = p ∙ sym q
