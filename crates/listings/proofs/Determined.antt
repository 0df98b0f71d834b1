-- Of each public call any two outcomes that its contract allows are equal: the answer, and the lent buffer that it may write.
-- Stated over the contract's own claim, so that a clause which is weakened or left out breaks it. Assumes nothing.
use mathlib.Core.Path.{◌≡◌, sym, ◌∙◌}
use contract.Lifetimes.{Lfts}
use denote.Triple.Clauses.{AtExit}
use borrow.Fn.Kinds.{ended_of}
use borrow.Fn.World.{ArgsD, ResD}
use Rattle.climbs.proofs.Laws.Spelling.{said_spelled-one}
use Rattle.listings.proofs.Laws.Answers.{said_started-one, said_stepped-one}
use Rattle.listings.specs.contracts.cursors.predictive_search
use Rattle.listings.proofs.cursors.predictive_search.Kinds as predictive-search-kinds
use Rattle.listings.proofs.cursors.predictive_search.Reads as predictive-search-reads
use Rattle.listings.specs.contracts.cursors.postfix_search
use Rattle.listings.proofs.cursors.postfix_search.Kinds as postfix-search-kinds
use Rattle.listings.proofs.cursors.postfix_search.Reads as postfix-search-reads
use Rattle.listings.specs.contracts.cursors.step
use Rattle.listings.proofs.cursors.step.Kinds as step-kinds
use Rattle.listings.proofs.cursors.step.Reads as step-reads
use Rattle.listings.specs.contracts.given_key.cursor_key
use Rattle.listings.proofs.given_key.cursor_key.Kinds as cursor-key-kinds
use Rattle.listings.proofs.given_key.cursor_key.Reads as cursor-key-reads
use Rattle.listings.specs.contracts.answers.Cursor.top
use Rattle.listings.proofs.answers.Cursor.top.Kinds as top-kinds
use Rattle.listings.proofs.answers.Cursor.top.Reads as top-reads
use Rattle.listings.specs.contracts.answers.Cursor.finished
use Rattle.listings.proofs.answers.Cursor.finished.Kinds as finished-kinds
use Rattle.listings.proofs.answers.Cursor.finished.Reads as finished-reads

module _ (κs : Lfts 4) where
  pub predictive-search-determined : (a : ArgsD predictive_search.signature κs) (r₁ r₂ : ResD predictive_search.signature κs) (s₁ s₂ : AtExit (ended_of 4 predictive-search-kinds.ps predictive-search-kinds.r) κs)
      → predictive-search-reads.Post κs a r₁ s₁ → predictive-search-reads.Post κs a r₂ s₂ → r₁ ≡ r₂
  predictive-search-determined a r₁ r₂ s₁ s₂ p q = said_started-one r₁ r₂ (p ∙ sym q)

  pub postfix-search-determined : (a : ArgsD postfix_search.signature κs) (r₁ r₂ : ResD postfix_search.signature κs) (s₁ s₂ : AtExit (ended_of 4 postfix-search-kinds.ps postfix-search-kinds.r) κs)
      → postfix-search-reads.Post κs a r₁ s₁ → postfix-search-reads.Post κs a r₂ s₂ → r₁ ≡ r₂
  postfix-search-determined a r₁ r₂ s₁ s₂ p q = said_started-one r₁ r₂ (p ∙ sym q)

  pub cursor-key-determined : (a : ArgsD cursor_key.signature κs) (r₁ r₂ : ResD cursor_key.signature κs) (s₁ s₂ : AtExit (ended_of 4 cursor-key-kinds.ps cursor-key-kinds.r) κs)
      → cursor-key-reads.Post κs a r₁ s₁ → cursor-key-reads.Post κs a r₂ s₂ → (r₁ ≡ r₂) × (s₁.1.1.1.1.0.now ≡ s₂.1.1.1.1.0.now)
  cursor-key-determined a r₁ r₂ s₁ s₂ p q = (said_spelled-one r₁ r₂ (p.0 ∙ sym q.0), p.1 ∙ sym q.1)

module _ (κs : Lfts 3) where
  pub step-determined : (a : ArgsD step.signature κs) (r₁ r₂ : ResD step.signature κs) (s₁ s₂ : AtExit (ended_of 3 step-kinds.ps step-kinds.r) κs)
      → step-reads.Post κs a r₁ s₁ → step-reads.Post κs a r₂ s₂ → r₁ ≡ r₂
  step-determined a r₁ r₂ s₁ s₂ p q = said_stepped-one r₁ r₂ (p ∙ sym q)

module _ (κs : Lfts 0) where
  pub top-determined : (a : ArgsD top.signature κs) (r₁ r₂ : ResD top.signature κs) (s₁ s₂ : AtExit (ended_of 0 top-kinds.ps top-kinds.r) κs)
      → top-reads.Post κs a r₁ s₁ → top-reads.Post κs a r₂ s₂ → r₁ ≡ r₂
  top-determined a r₁ r₂ s₁ s₂ p q = p ∙ sym q

  pub finished-determined : (a : ArgsD finished.signature κs) (r₁ r₂ : ResD finished.signature κs) (s₁ s₂ : AtExit (ended_of 0 finished-kinds.ps finished-kinds.r) κs)
      → finished-reads.Post κs a r₁ s₁ → finished-reads.Post κs a r₂ s₂ → r₁ ≡ r₂
  finished-determined a r₁ r₂ s₁ s₂ p q = p ∙ sym q
