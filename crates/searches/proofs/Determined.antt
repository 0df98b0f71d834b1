-- Of each public call any two outcomes that its contract allows are equal: the answer, and each lent slice that it may write.
-- Stated over the contract's own claim, so that a clause which is weakened or left out breaks it. Assumes nothing.
use mathlib.Core.Path.{◌≡◌, sym, ◌∙◌}
use contract.Lifetimes.{Lfts}
use denote.Triple.Clauses.{AtExit}
use borrow.Fn.Kinds.{ended_of}
use borrow.Fn.World.{ArgsD, ResD}
use Rattle.searches.proofs.Laws.Answers.{said_looked-one, said_prefixed-one, said_common-one, said_longest-one}
use Rattle.searches.specs.contracts.exact.exact_match
use Rattle.searches.proofs.exact.exact_match.Kinds as exact-match-kinds
use Rattle.searches.proofs.exact.exact_match.Reads as exact-match-reads
use Rattle.searches.specs.contracts.exact.set_value
use Rattle.searches.proofs.exact.set_value.Kinds as set-value-kinds
use Rattle.searches.proofs.exact.set_value.Reads as set-value-reads
use Rattle.searches.specs.contracts.exact.is_prefix
use Rattle.searches.proofs.exact.is_prefix.Kinds as is-prefix-kinds
use Rattle.searches.proofs.exact.is_prefix.Reads as is-prefix-reads
use Rattle.searches.specs.contracts.common_prefixes.common_prefix
use Rattle.searches.proofs.common_prefixes.common_prefix.Kinds as common-prefix-kinds
use Rattle.searches.proofs.common_prefixes.common_prefix.Reads as common-prefix-reads
use Rattle.searches.specs.contracts.common_prefixes.common_prefix_part
use Rattle.searches.proofs.common_prefixes.common_prefix_part.Kinds as common-prefix-part-kinds
use Rattle.searches.proofs.common_prefixes.common_prefix_part.Reads as common-prefix-part-reads
use Rattle.searches.specs.contracts.prefix.longest_prefix
use Rattle.searches.proofs.prefix.longest_prefix.Kinds as longest-prefix-kinds
use Rattle.searches.proofs.prefix.longest_prefix.Reads as longest-prefix-reads
use Rattle.searches.specs.contracts.untested.exact_match_untested
use Rattle.searches.proofs.untested.exact_match_untested.Kinds as exact-match-untested-kinds
use Rattle.searches.proofs.untested.exact_match_untested.Reads as exact-match-untested-reads

module _ (κs : Lfts 4) where
  pub exact-match-determined : (a : ArgsD exact_match.signature κs) (r₁ r₂ : ResD exact_match.signature κs) (s₁ s₂ : AtExit (ended_of 4 exact-match-kinds.ps exact-match-kinds.r) κs)
      → exact-match-reads.Post κs a r₁ s₁ → exact-match-reads.Post κs a r₂ s₂ → r₁ ≡ r₂
  exact-match-determined a r₁ r₂ s₁ s₂ p q = said_looked-one r₁ r₂ (p ∙ sym q)

  pub exact-match-untested-determined : (a : ArgsD exact_match_untested.signature κs) (r₁ r₂ : ResD exact_match_untested.signature κs) (s₁ s₂ : AtExit (ended_of 4 exact-match-untested-kinds.ps exact-match-untested-kinds.r) κs)
      → exact-match-untested-reads.Post κs a r₁ s₁ → exact-match-untested-reads.Post κs a r₂ s₂ → r₁ ≡ r₂
  exact-match-untested-determined a r₁ r₂ s₁ s₂ p q = said_looked-one r₁ r₂ (p ∙ sym q)

  pub set-value-determined : (a : ArgsD set_value.signature κs) (r₁ r₂ : ResD set_value.signature κs) (s₁ s₂ : AtExit (ended_of 4 set-value-kinds.ps set-value-kinds.r) κs)
      → set-value-reads.Post κs a r₁ s₁ → set-value-reads.Post κs a r₂ s₂ → (r₁ ≡ r₂) × (s₁.1.0.now ≡ s₂.1.0.now)
  set-value-determined a r₁ r₂ s₁ s₂ p q = (said_looked-one r₁ r₂ (p.0 ∙ sym q.0), p.1 ∙ sym q.1)

  pub is-prefix-determined : (a : ArgsD is_prefix.signature κs) (r₁ r₂ : ResD is_prefix.signature κs) (s₁ s₂ : AtExit (ended_of 4 is-prefix-kinds.ps is-prefix-kinds.r) κs)
      → is-prefix-reads.Post κs a r₁ s₁ → is-prefix-reads.Post κs a r₂ s₂ → r₁ ≡ r₂
  is-prefix-determined a r₁ r₂ s₁ s₂ p q = said_prefixed-one r₁ r₂ (p ∙ sym q)

  pub common-prefix-determined : (a : ArgsD common_prefix.signature κs) (r₁ r₂ : ResD common_prefix.signature κs) (s₁ s₂ : AtExit (ended_of 4 common-prefix-kinds.ps common-prefix-kinds.r) κs)
      → common-prefix-reads.Post κs a r₁ s₁ → common-prefix-reads.Post κs a r₂ s₂ → r₁ ≡ r₂
  common-prefix-determined a r₁ r₂ s₁ s₂ p q = said_common-one r₁ r₂ (p ∙ sym q)

  pub common-prefix-part-determined : (a : ArgsD common_prefix_part.signature κs) (r₁ r₂ : ResD common_prefix_part.signature κs) (s₁ s₂ : AtExit (ended_of 4 common-prefix-part-kinds.ps common-prefix-part-kinds.r) κs)
      → common-prefix-part-reads.Post κs a r₁ s₁ → common-prefix-part-reads.Post κs a r₂ s₂ → (r₁.now ≡ r₂.now) × (r₁.ref_ptr ≡ r₂.ref_ptr)
  common-prefix-part-determined a r₁ r₂ s₁ s₂ p q = (p.0 ∙ sym q.0, p.1 ∙ sym q.1)

module _ (κs : Lfts 5) where
  pub longest-prefix-determined : (a : ArgsD longest_prefix.signature κs) (r₁ r₂ : ResD longest_prefix.signature κs) (s₁ s₂ : AtExit (ended_of 5 longest-prefix-kinds.ps longest-prefix-kinds.r) κs)
      → longest-prefix-reads.Post κs a r₁ s₁ → longest-prefix-reads.Post κs a r₂ s₂ → (r₁ ≡ r₂) × (s₁.1.1.1.1.0.now ≡ s₂.1.1.1.1.0.now)
  longest-prefix-determined a r₁ r₂ s₁ s₂ p q = (said_longest-one r₁ r₂ (p.0 ∙ sym q.0), p.1 ∙ sym q.1)
