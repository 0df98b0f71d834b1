-- Of each public call any two outcomes that its contract allows are equal. Stated over the contract's own claim, so that a clause which is weakened or left out breaks it.
-- Assumes nothing.
use mathlib.Core.Path.{◌≡◌, sym, ◌∙◌}
use contract.Lifetimes.{Lfts}
use denote.Triple.Clauses.{AtExit}
use borrow.Fn.Kinds.{ended_of}
use borrow.Fn.World.{ArgsD, ResD}
use Rattle.descents.specs.contracts.queries.walk
use Rattle.descents.proofs.queries.walk.Kinds as walk-kinds
use Rattle.descents.proofs.queries.walk.Reads as walk-reads
use Rattle.descents.specs.contracts.queries.end_of
use Rattle.descents.proofs.queries.end_of.Kinds as end-of-kinds
use Rattle.descents.proofs.queries.end_of.Reads as end-of-reads

pub walk-determined : (κs : Lfts 3) (a : ArgsD walk.signature κs) (r₁ r₂ : ResD walk.signature κs) (s₁ s₂ : AtExit (ended_of 3 walk-kinds.ps walk-kinds.r) κs)
    → walk-reads.Post κs a r₁ s₁ → walk-reads.Post κs a r₂ s₂ → r₁ ≡ r₂
walk-determined κs a r₁ r₂ s₁ s₂ p q = p ∙ sym q

pub end-of-determined : (κs : Lfts 3) (a : ArgsD end_of.signature κs) (r₁ r₂ : ResD end_of.signature κs) (s₁ s₂ : AtExit (ended_of 3 end-of-kinds.ps end-of-kinds.r) κs)
    → end-of-reads.Post κs a r₁ s₁ → end-of-reads.Post κs a r₂ s₂ → r₁ ≡ r₂
end-of-determined κs a r₁ r₂ s₁ s₂ p q = p ∙ sym q
