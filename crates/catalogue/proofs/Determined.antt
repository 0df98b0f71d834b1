-- Two outcomes that a public call's contract allows are equal: the answer, and at exit every buffer that is lent to be written. Each law is over the contract's own claim, so a clause that is weakened breaks it.
-- Assumes nothing.
use mathlib.Core.Path.{◌≡◌, sym, ◌∙◌}
use contract.Lifetimes.{Lfts}
use denote.Triple.Clauses.{AtExit}
use borrow.Fn.World.{ArgsD, ResD}
use borrow.Fn.Kinds.{ended_of}
use Rattle.catalogue.specs.contracts.answer
use Rattle.catalogue.proofs.answer.Kinds as answer-kinds
use Rattle.catalogue.proofs.answer.Reads as answer-reads
use Rattle.catalogue.specs.contracts.reading.begin
use Rattle.catalogue.proofs.reading.begin.Kinds as begin-kinds
use Rattle.catalogue.proofs.reading.begin.Reads as begin-reads
use Rattle.catalogue.specs.contracts.reading.next_at
use Rattle.catalogue.proofs.reading.next_at.Kinds as next-at-kinds
use Rattle.catalogue.proofs.reading.next_at.Reads as next-at-reads
use Rattle.catalogue.specs.contracts.reading.take_read
use Rattle.catalogue.proofs.reading.take_read.Kinds as take-read-kinds
use Rattle.catalogue.proofs.reading.take_read.Reads as take-read-reads

module _ (κs : Lfts 7) (a : ArgsD answer.signature κs) (r₁ r₂ : ResD answer.signature κs) (s₁ s₂ : AtExit (ended_of 7 answer-kinds.ps answer-kinds.r) κs) where
  -- the bytes written, and the pool, the labels, the values, the words and the scratch
  pub answer-determined : answer-reads.Post κs a r₁ s₁ → answer-reads.Post κs a r₂ s₂
      → (r₁ ≡ r₂) ×
      (s₁.1.1.1.1.1.1.1.0.now ≡ s₂.1.1.1.1.1.1.1.0.now) ×
      (s₁.1.1.0.now ≡ s₂.1.1.0.now) ×
      (s₁.1.1.1.0.now ≡ s₂.1.1.1.0.now) ×
      (s₁.1.1.1.1.0.now ≡ s₂.1.1.1.1.0.now) ×
      (s₁.1.1.1.1.1.0.now ≡ s₂.1.1.1.1.1.0.now) ×
      (s₁.1.1.1.1.1.1.0.now ≡ s₂.1.1.1.1.1.1.0.now)
  answer-determined p q = (
    p.0 ∙ sym q.0,
    p.1.0 ∙ sym q.1.0,
    p.1.1.0 ∙ sym q.1.1.0,
    p.1.1.1.0 ∙ sym q.1.1.1.0,
    p.1.1.1.1.0 ∙ sym q.1.1.1.1.0,
    p.1.1.1.1.1.0 ∙ sym q.1.1.1.1.1.0,
    p.1.1.1.1.1.1 ∙ sym q.1.1.1.1.1.1,
  )

module _ (κs : Lfts 0) (a : ArgsD begin.signature κs) (r₁ r₂ : ResD begin.signature κs) (s₁ s₂ : AtExit (ended_of 0 begin-kinds.ps begin-kinds.r) κs) where
  pub begin-determined : begin-reads.Post κs a r₁ s₁ → begin-reads.Post κs a r₂ s₂ → r₁ ≡ r₂
  begin-determined p q = p ∙ sym q

module _ (κs : Lfts 0) (a : ArgsD next_at.signature κs) (r₁ r₂ : ResD next_at.signature κs) (s₁ s₂ : AtExit (ended_of 0 next-at-kinds.ps next-at-kinds.r) κs) where
  pub next-at-determined : next-at-reads.Post κs a r₁ s₁ → next-at-reads.Post κs a r₂ s₂ → r₁ ≡ r₂
  next-at-determined p q = p ∙ sym q

module _ (κs : Lfts 0) (a : ArgsD take_read.signature κs) (r₁ r₂ : ResD take_read.signature κs) (s₁ s₂ : AtExit (ended_of 0 take-read-kinds.ps take-read-kinds.r) κs) where
  pub take-read-determined : take-read-reads.Post κs a r₁ s₁ → take-read-reads.Post κs a r₂ s₂ → r₁ ≡ r₂
  take-read-determined p q = p ∙ sym q
