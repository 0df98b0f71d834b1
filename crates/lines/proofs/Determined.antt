-- Of each public call any two outcomes that its contract allows are equal: the contract gives what the answer says, the part handed back,
-- and what the lent buffer holds at exit by equations, and equal numbers mean equal answers.
-- Stated over the contract's own claim, so that a clause which is weakened or left out breaks it. Assumes nothing.
use mathlib.Core.Path.{◌≡◌, sym, ◌∙◌}
use contract.Lifetimes.{Lfts}
use denote.Triple.Clauses.{AtExit}
use borrow.Fn.Kinds.{ended_of}
use borrow.Fn.World.{ArgsD, ResD}
use Rattle.lines.proofs.Laws.Answers.{said-parsed-one, said-cut-one, said-written-one}
use Rattle.lines.specs.contracts.tab_line
use Rattle.lines.proofs.tab_line.Kinds as tab-line-kinds
use Rattle.lines.proofs.tab_line.Reads as tab-line-reads
use Rattle.lines.specs.contracts.tab_line_key
use Rattle.lines.proofs.tab_line_key.Kinds as tab-line-key-kinds
use Rattle.lines.proofs.tab_line_key.Reads as tab-line-key-reads
use Rattle.lines.specs.contracts.next_line
use Rattle.lines.proofs.next_line.Kinds as next-line-kinds
use Rattle.lines.proofs.next_line.Reads as next-line-reads
use Rattle.lines.specs.contracts.write_line
use Rattle.lines.proofs.write_line.Kinds as write-line-kinds
use Rattle.lines.proofs.write_line.Reads as write-line-reads

module _ (κs : Lfts 1) where
  pub tab-line-determined : (a : ArgsD tab_line.signature κs) (r₁ r₂ : ResD tab_line.signature κs) (s₁ s₂ : AtExit (ended_of 1 tab-line-kinds.ps tab-line-kinds.r) κs)
      → tab-line-reads.Post κs a r₁ s₁ → tab-line-reads.Post κs a r₂ s₂ → r₁ ≡ r₂
  tab-line-determined a r₁ r₂ s₁ s₂ p q = said-parsed-one r₁ r₂ (p ∙ sym q)

  pub tab-line-key-determined : (a : ArgsD tab_line_key.signature κs) (r₁ r₂ : ResD tab_line_key.signature κs) (s₁ s₂ : AtExit (ended_of 1 tab-line-key-kinds.ps tab-line-key-kinds.r) κs)
      → tab-line-key-reads.Post κs a r₁ s₁ → tab-line-key-reads.Post κs a r₂ s₂ → (r₁.now ≡ r₂.now) × (r₁.ref_ptr ≡ r₂.ref_ptr)
  tab-line-key-determined a r₁ r₂ s₁ s₂ p q = (p.0 ∙ sym q.0, p.1 ∙ sym q.1)

  pub next-line-determined : (a : ArgsD next_line.signature κs) (r₁ r₂ : ResD next_line.signature κs) (s₁ s₂ : AtExit (ended_of 1 next-line-kinds.ps next-line-kinds.r) κs)
      → next-line-reads.Post κs a r₁ s₁ → next-line-reads.Post κs a r₂ s₂ → r₁ ≡ r₂
  next-line-determined a r₁ r₂ s₁ s₂ p q = said-cut-one r₁ r₂ (p ∙ sym q)

pub write-line-determined : (κs : Lfts 2) (a : ArgsD write_line.signature κs) (r₁ r₂ : ResD write_line.signature κs) (s₁ s₂ : AtExit (ended_of 2 write-line-kinds.ps write-line-kinds.r) κs)
    → write-line-reads.Post κs a r₁ s₁ → write-line-reads.Post κs a r₂ s₂ → (r₁ ≡ r₂) × (s₁.1.1.0.now ≡ s₂.1.1.0.now)
write-line-determined κs a r₁ r₂ s₁ s₂ p q = (said-written-one r₁ r₂ (p.0 ∙ sym q.0), p.1 ∙ sym q.1)
