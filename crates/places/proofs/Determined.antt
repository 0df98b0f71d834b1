-- Of each public call any two outcomes that its contract allows are equal: the answer, and each lent slice that it may write.
-- Stated over the contract's own claim, so that a clause which is weakened or left out breaks it. Of the three calls that are lent a place the whole contract is one
-- definition, and the law is about that definition. Assumes nothing.
use mathlib.Core.Path.{◌≡◌, sym, ◌∙◌}
use Prim.Native.Nat.{ℕ}
use Rattle.std.specs.Prelude.{Option, Result}
use mathlib.Core.List.{List}
use contract.Lifetimes.{Lfts}
use denote.Triple.Clauses.{AtExit}
use borrow.Fn.Kinds.{ended_of}
use borrow.Fn.World.{ArgsD, ResD}
use Rattle.keymap.specs.declared.refusals.Refusal.{Refusal}
use Rattle.keymap.specs.Key.{Key}
use Rattle.keymap.specs.Image.{Image}
use Rattle.places.specs.declared.answers.Place.{Place}
use Rattle.places.specs.declared.answers.Answer.{Answer}
use Rattle.places.specs.Incremental.{Promise, QueryPromise, FollowPromise, GotoPromise}
use Rattle.climbs.proofs.Laws.Spelling.{said_spelled-one}
use Rattle.places.proofs.Laws.Answers.{said_resumed-one, said_valued-one, said_measured-one, said_queried-one, said_followed-one, said_gone-one}
use Rattle.places.specs.contracts.reading.resume
use Rattle.places.proofs.reading.resume.Kinds as resume-kinds
use Rattle.places.proofs.reading.resume.Reads as resume-reads
use Rattle.places.specs.contracts.reading.value
use Rattle.places.proofs.reading.value.Kinds as value-kinds
use Rattle.places.proofs.reading.value.Reads as value-reads
use Rattle.places.specs.contracts.reading.prefix_len
use Rattle.places.proofs.reading.prefix_len.Kinds as prefix-len-kinds
use Rattle.places.proofs.reading.prefix_len.Reads as prefix-len-reads
use Rattle.places.specs.contracts.reading.prefix
use Rattle.places.proofs.reading.prefix.Kinds as prefix-kinds
use Rattle.places.proofs.reading.prefix.Reads as prefix-reads
use Rattle.places.specs.contracts.answers.Place.root
use Rattle.places.proofs.answers.Place.root.Kinds as root-kinds
use Rattle.places.proofs.answers.Place.root.Reads as root-reads
use Rattle.places.specs.contracts.calls.peek
use Rattle.places.proofs.calls.peek.Kinds as peek-kinds
use Rattle.places.proofs.calls.peek.Reads as peek-reads
use Rattle.places.specs.contracts.calls.query_at
use Rattle.places.proofs.calls.query_at.Kinds as query-at-kinds
use Rattle.places.proofs.calls.query_at.Reads as query-at-reads
use Rattle.places.specs.contracts.calls.query_until_at
use Rattle.places.proofs.calls.query_until_at.Kinds as query-until-at-kinds
use Rattle.places.proofs.calls.query_until_at.Reads as query-until-at-reads
use Rattle.places.specs.contracts.calls.goto_at
use Rattle.places.proofs.calls.goto_at.Kinds as goto-at-kinds
use Rattle.places.proofs.calls.goto_at.Reads as goto-at-reads
use Rattle.places.specs.contracts.answers.Answer.is_prefix as answer-is-prefix
use Rattle.places.proofs.answers.Answer.is_prefix.Kinds as answer-is-prefix-kinds
use Rattle.places.proofs.answers.Answer.is_prefix.Reads as answer-is-prefix-reads
use Rattle.places.specs.contracts.answers.Answer.is_match as answer-is-match
use Rattle.places.proofs.answers.Answer.is_match.Kinds as answer-is-match-kinds
use Rattle.places.proofs.answers.Answer.is_match.Reads as answer-is-match-reads

module _ (κs : Lfts 0) where
  pub root-determined : (a : ArgsD root.signature κs) (r₁ r₂ : ResD root.signature κs) (s₁ s₂ : AtExit (ended_of 0 root-kinds.ps root-kinds.r) κs)
      → root-reads.Post κs a r₁ s₁ → root-reads.Post κs a r₂ s₂ → r₁ ≡ r₂
  root-determined a r₁ r₂ s₁ s₂ p q = p.0 ∙ sym q.0

module _ (κs : Lfts 3) where
  pub resume-determined : (a : ArgsD resume.signature κs) (r₁ r₂ : ResD resume.signature κs) (s₁ s₂ : AtExit (ended_of 3 resume-kinds.ps resume-kinds.r) κs)
      → resume-reads.Post κs a r₁ s₁ → resume-reads.Post κs a r₂ s₂ → r₁ ≡ r₂
  resume-determined a r₁ r₂ s₁ s₂ p q = said_resumed-one r₁ r₂ (p ∙ sym q)

  pub value-determined : (a : ArgsD value.signature κs) (r₁ r₂ : ResD value.signature κs) (s₁ s₂ : AtExit (ended_of 3 value-kinds.ps value-kinds.r) κs)
      → value-reads.Post κs a r₁ s₁ → value-reads.Post κs a r₂ s₂ → r₁ ≡ r₂
  value-determined a r₁ r₂ s₁ s₂ p q = said_valued-one r₁ r₂ (p ∙ sym q)

  pub prefix-len-determined : (a : ArgsD prefix_len.signature κs) (r₁ r₂ : ResD prefix_len.signature κs) (s₁ s₂ : AtExit (ended_of 3 prefix-len-kinds.ps prefix-len-kinds.r) κs)
      → prefix-len-reads.Post κs a r₁ s₁ → prefix-len-reads.Post κs a r₂ s₂ → r₁ ≡ r₂
  prefix-len-determined a r₁ r₂ s₁ s₂ p q = said_measured-one r₁ r₂ (p ∙ sym q)

module _ (κs : Lfts 4) where
  pub prefix-determined : (a : ArgsD prefix.signature κs) (r₁ r₂ : ResD prefix.signature κs) (s₁ s₂ : AtExit (ended_of 4 prefix-kinds.ps prefix-kinds.r) κs)
      → prefix-reads.Post κs a r₁ s₁ → prefix-reads.Post κs a r₂ s₂ → (r₁ ≡ r₂) × (s₁.1.1.1.1.0.now ≡ s₂.1.1.1.1.0.now)
  prefix-determined a r₁ r₂ s₁ s₂ p q = (said_spelled-one r₁ r₂ (p.0 ∙ sym q.0), p.1 ∙ sym q.1)

-- ---- moves of a lent place: the whole contract is one definition of the values at entry, the answer and the place at exit

promise-one : (said other says : List ℕ) (after last : Place) (moves : ℕ) → Promise said says after moves → Promise other says last moves → (said ≡ other) × (after ≡ last)
promise-one said other says after last moves p q = (p.answers ∙ sym q.answers, p.stands ∙ sym q.stands)

pub query-determined : (i : Image) (a : ℕ) (before : Place) (r₁ r₂ : Result (Option Answer) Refusal) (after₁ after₂ : Place)
    → QueryPromise i a before r₁ after₁ → QueryPromise i a before r₂ after₂ → (r₁ ≡ r₂) × (after₁ ≡ after₂)
query-determined i a before r₁ r₂ after₁ after₂ p q = let (said, stood) = promise-one _ _ _ _ _ _ p q in (said_queried-one r₁ r₂ said, stood)

pub query-until-determined : (i : Image) (text : Key) (before : Place) (r₁ r₂ : Result (Result Answer ℕ) Refusal) (after₁ after₂ : Place)
    → FollowPromise i text before r₁ after₁ → FollowPromise i text before r₂ after₂ → (r₁ ≡ r₂) × (after₁ ≡ after₂)
query-until-determined i text before r₁ r₂ after₁ after₂ p q = let (said, stood) = promise-one _ _ _ _ _ _ p q in (said_followed-one r₁ r₂ said, stood)

pub goto-longest-prefix-determined : (i : Image) (before : Place) (r₁ r₂ : Result (Result ℕ ℕ) Refusal) (after₁ after₂ : Place)
    → GotoPromise i before r₁ after₁ → GotoPromise i before r₂ after₂ → (r₁ ≡ r₂) × (after₁ ≡ after₂)
goto-longest-prefix-determined i before r₁ r₂ after₁ after₂ p q = let (said, stood) = promise-one _ _ _ _ _ _ p q in (said_gone-one r₁ r₂ said, stood)

-- ---- the same moves on numbers

module _ (κs : Lfts 3) where
  pub peek-determined : (a : ArgsD peek.signature κs) (r₁ r₂ : ResD peek.signature κs) (s₁ s₂ : AtExit (ended_of 3 peek-kinds.ps peek-kinds.r) κs)
      → peek-reads.Post κs a r₁ s₁ → peek-reads.Post κs a r₂ s₂ → r₁ ≡ r₂
  peek-determined a r₁ r₂ s₁ s₂ p q = said_queried-one r₁ r₂ (p ∙ sym q)

  pub query-at-determined : (a : ArgsD query_at.signature κs) (r₁ r₂ : ResD query_at.signature κs) (s₁ s₂ : AtExit (ended_of 3 query-at-kinds.ps query-at-kinds.r) κs)
      → query-at-reads.Post κs a r₁ s₁ → query-at-reads.Post κs a r₂ s₂ → r₁ ≡ r₂
  query-at-determined a r₁ r₂ s₁ s₂ p q =
      let (said, stood) = query-determined _ _ _ _ _ _ _ p q in
      λ x. record { answer = said x; node = (stood x).node }

  pub goto-at-determined : (a : ArgsD goto_at.signature κs) (r₁ r₂ : ResD goto_at.signature κs) (s₁ s₂ : AtExit (ended_of 3 goto-at-kinds.ps goto-at-kinds.r) κs)
      → goto-at-reads.Post κs a r₁ s₁ → goto-at-reads.Post κs a r₂ s₂ → r₁ ≡ r₂
  goto-at-determined a r₁ r₂ s₁ s₂ p q =
      let (said, stood) = goto-longest-prefix-determined _ _ _ _ _ _ p q in
      λ x. record { answer = said x; node = (stood x).node }

module _ (κs : Lfts 4) where
  pub query-until-at-determined : (a : ArgsD query_until_at.signature κs) (r₁ r₂ : ResD query_until_at.signature κs) (s₁ s₂ : AtExit (ended_of 4 query-until-at-kinds.ps query-until-at-kinds.r) κs)
      → query-until-at-reads.Post κs a r₁ s₁ → query-until-at-reads.Post κs a r₂ s₂ → r₁ ≡ r₂
  query-until-at-determined a r₁ r₂ s₁ s₂ p q =
      let (said, stood) = query-until-determined _ _ _ _ _ _ _ p q in
      λ x. record { answer = said x; node = (stood x).node }

module _ (κs : Lfts 0) where
  pub answer-is-prefix-determined : (a : ArgsD answer-is-prefix.signature κs) (r₁ r₂ : ResD answer-is-prefix.signature κs) (s₁ s₂ : AtExit (ended_of 0 answer-is-prefix-kinds.ps answer-is-prefix-kinds.r) κs)
      → answer-is-prefix-reads.Post κs a r₁ s₁ → answer-is-prefix-reads.Post κs a r₂ s₂ → r₁ ≡ r₂
  answer-is-prefix-determined a r₁ r₂ s₁ s₂ p q = p ∙ sym q

  pub answer-is-match-determined : (a : ArgsD answer-is-match.signature κs) (r₁ r₂ : ResD answer-is-match.signature κs) (s₁ s₂ : AtExit (ended_of 0 answer-is-match-kinds.ps answer-is-match-kinds.r) κs)
      → answer-is-match-reads.Post κs a r₁ s₁ → answer-is-match-reads.Post κs a r₂ s₂ → r₁ ≡ r₂
  answer-is-match-determined a r₁ r₂ s₁ s₂ p q = p ∙ sym q
