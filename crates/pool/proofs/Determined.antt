-- Two outcomes that a call's contract allows are equal: the answer, and the pool at exit. Each law is over the contract's own claim, so a clause that is weakened breaks it.
-- Assumes nothing.
use mathlib.Core.Path.{◌≡◌, sym, ◌∙◌}
use contract.Lifetimes.{Lfts}
use denote.Triple.Clauses.{AtExit}
use borrow.Fn.World.{ArgsD, ResD}
use borrow.Fn.Kinds.{ended_of}
use Rattle.pool.proofs.Laws.Answers.{said-cleared-one, said-counted-one, said-pushed-one}
use Rattle.pool.specs.contracts.reset
use Rattle.pool.proofs.reset.Kinds as reset-kinds
use Rattle.pool.proofs.reset.Reads as reset-reads
use Rattle.pool.specs.contracts.use_count
use Rattle.pool.proofs.use_count.Kinds as use-count-kinds
use Rattle.pool.proofs.use_count.Reads as use-count-reads
use Rattle.pool.specs.contracts.push
use Rattle.pool.proofs.push.Kinds as push-kinds
use Rattle.pool.proofs.push.Reads as push-reads
use Rattle.pool.specs.contracts.soundness.check_sound
use Rattle.pool.proofs.soundness.check_sound.Kinds as check-sound-kinds
use Rattle.pool.proofs.soundness.check_sound.Reads as check-sound-reads

module _ (κs : Lfts 1) (a : ArgsD reset.signature κs) (r₁ r₂ : ResD reset.signature κs) (s₁ s₂ : AtExit (ended_of 1 reset-kinds.ps reset-kinds.r) κs) where
  pub reset-determined : reset-reads.Post κs a r₁ s₁ → reset-reads.Post κs a r₂ s₂ → (r₁ ≡ r₂) × (s₁.0.now ≡ s₂.0.now)
  reset-determined p q = (said-cleared-one r₁ r₂ (p.0 ∙ sym q.0), p.1 ∙ sym q.1)

module _ (κs : Lfts 1) (a : ArgsD use_count.signature κs) (r₁ r₂ : ResD use_count.signature κs) (s₁ s₂ : AtExit (ended_of 1 use-count-kinds.ps use-count-kinds.r) κs) where
  pub use-count-determined : use-count-reads.Post κs a r₁ s₁ → use-count-reads.Post κs a r₂ s₂ → r₁ ≡ r₂
  use-count-determined p q = said-counted-one r₁ r₂ (p ∙ sym q)

module _ (κs : Lfts 2) (a : ArgsD push.signature κs) (r₁ r₂ : ResD push.signature κs) (s₁ s₂ : AtExit (ended_of 2 push-kinds.ps push-kinds.r) κs) where
  pub push-determined : push-reads.Post κs a r₁ s₁ → push-reads.Post κs a r₂ s₂ → (r₁ ≡ r₂) × (s₁.0.now ≡ s₂.0.now)
  push-determined p q = (said-pushed-one r₁ r₂ (p.0 ∙ sym q.0), p.1 ∙ sym q.1)

module _ (κs : Lfts 1) (a : ArgsD check_sound.signature κs) (r₁ r₂ : ResD check_sound.signature κs) (s₁ s₂ : AtExit (ended_of 1 check-sound-kinds.ps check-sound-kinds.r) κs) where
  pub check-sound-determined : check-sound-reads.Post κs a r₁ s₁ → check-sound-reads.Post κs a r₂ s₂ → r₁ ≡ r₂
  check-sound-determined p q = p.0 ∙ sym q.0
