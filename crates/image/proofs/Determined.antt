-- Of each public call any two outcomes that its contract allows are equal: its answer, and each buffer that it writes, is given by an equation.
-- Stated over the contract's own claim, so that a clause which is weakened or left out breaks it. Assumes nothing.
use mathlib.Core.Path.{◌≡◌, sym, ◌∙◌}
use contract.Lifetimes.{Lfts}
use denote.Triple.Clauses.{AtExit}
use borrow.Fn.Kinds.{ended_of}
use borrow.Fn.World.{ArgsD, ResD}
use Rattle.image.specs.contracts.accept
use Rattle.image.proofs.accept.Kinds as accept-kinds
use Rattle.image.proofs.accept.Reads as accept-reads
use Rattle.image.specs.contracts.acceptance.is_image
use Rattle.image.proofs.acceptance.is_image.Kinds as is-image-kinds
use Rattle.image.proofs.acceptance.is_image.Reads as is-image-reads
use Rattle.image.specs.contracts.acceptance.lengths_fit
use Rattle.image.proofs.acceptance.lengths_fit.Kinds as lengths-fit-kinds
use Rattle.image.proofs.acceptance.lengths_fit.Reads as lengths-fit-reads
use Rattle.image.specs.contracts.build
use Rattle.image.proofs.build.Kinds as build-kinds
use Rattle.image.proofs.build.Reads as build-reads
use Rattle.image.proofs.Laws.Build.{said-built-one}
use Rattle.image.specs.contracts.buffers.words_for as words-for
use Rattle.image.proofs.buffers.words_for.Kinds as words-for-kinds
use Rattle.image.proofs.buffers.words_for.Reads as words-for-reads

module _ (κs : Lfts 3) where
  pub accept-determined : (a : ArgsD accept.signature κs) (r₁ r₂ : ResD accept.signature κs) (s₁ s₂ : AtExit (ended_of 3 accept-kinds.ps accept-kinds.r) κs)
      → accept-reads.Post κs a r₁ s₁ → accept-reads.Post κs a r₂ s₂ → r₁ ≡ r₂
  accept-determined a r₁ r₂ s₁ s₂ p q = p.0 ∙ sym q.0

  pub is-image-determined : (a : ArgsD is_image.signature κs) (r₁ r₂ : ResD is_image.signature κs) (s₁ s₂ : AtExit (ended_of 3 is-image-kinds.ps is-image-kinds.r) κs)
      → is-image-reads.Post κs a r₁ s₁ → is-image-reads.Post κs a r₂ s₂ → r₁ ≡ r₂
  is-image-determined a r₁ r₂ s₁ s₂ p q = p ∙ sym q

  pub lengths-fit-determined : (a : ArgsD lengths_fit.signature κs) (r₁ r₂ : ResD lengths_fit.signature κs) (s₁ s₂ : AtExit (ended_of 3 lengths-fit-kinds.ps lengths-fit-kinds.r) κs)
      → lengths-fit-reads.Post κs a r₁ s₁ → lengths-fit-reads.Post κs a r₂ s₂ → r₁ ≡ r₂
  lengths-fit-determined a r₁ r₂ s₁ s₂ p q = p ∙ sym q

-- the answer, then labels, values, words and scratch at exit
pub build-determined : (κs : Lfts 5) (a : ArgsD build.signature κs) (r₁ r₂ : ResD build.signature κs) (s₁ s₂ : AtExit (ended_of 5 build-kinds.ps build-kinds.r) κs)
    → build-reads.Post κs a r₁ s₁ → build-reads.Post κs a r₂ s₂
    → (r₁ ≡ r₂) × (s₁.1.0.now ≡ s₂.1.0.now) × (s₁.1.1.0.now ≡ s₂.1.1.0.now) × (s₁.1.1.1.0.now ≡ s₂.1.1.1.0.now) × (s₁.1.1.1.1.0.now ≡ s₂.1.1.1.1.0.now)
build-determined κs a r₁ r₂ s₁ s₂ p q = (
  said-built-one r₁ r₂ (p.0 ∙ sym q.0),
  p.1.0 ∙ sym q.1.0,
  p.1.1.0 ∙ sym q.1.1.0,
  p.1.1.1.0 ∙ sym q.1.1.1.0,
  p.1.1.1.1 ∙ sym q.1.1.1.1,
)

module _ (κs : Lfts 0) (a : ArgsD words-for.signature κs) (r₁ r₂ : ResD words-for.signature κs) (s₁ s₂ : AtExit (ended_of 0 words-for-kinds.ps words-for-kinds.r) κs) where
  pub words-for-determined : words-for-reads.Post κs a r₁ s₁ → words-for-reads.Post κs a r₂ s₂ → r₁ ≡ r₂
  words-for-determined p q = p ∙ sym q
