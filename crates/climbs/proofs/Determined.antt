-- Of each public call any two outcomes that its contract allows are equal. Stated over the contract's own claim, so that a clause which is weakened or left out breaks it.
-- Assumes nothing.
use mathlib.Core.Path.{◌≡◌, sym, ◌∙◌}
use contract.Lifetimes.{Lfts}
use denote.Triple.Clauses.{AtExit}
use borrow.Fn.Kinds.{ended_of}
use borrow.Fn.World.{ArgsD, ResD}
use Rattle.climbs.specs.contracts.perches.perch_at
use Rattle.climbs.proofs.perches.perch_at.Kinds as perch-at-kinds
use Rattle.climbs.proofs.perches.perch_at.Reads as perch-at-reads
use Rattle.climbs.specs.contracts.perches.parent_of
use Rattle.climbs.proofs.perches.parent_of.Kinds as parent-of-kinds
use Rattle.climbs.proofs.perches.parent_of.Reads as parent-of-reads
use Rattle.climbs.specs.contracts.perches.depth
use Rattle.climbs.proofs.perches.depth.Kinds as depth-kinds
use Rattle.climbs.proofs.perches.depth.Reads as depth-reads
use Rattle.climbs.specs.contracts.spelling.spell
use Rattle.climbs.proofs.spelling.spell.Kinds as spell-kinds
use Rattle.climbs.proofs.spelling.spell.Reads as spell-reads
use Rattle.climbs.specs.contracts.below.is_below
use Rattle.climbs.proofs.below.is_below.Kinds as is-below-kinds
use Rattle.climbs.proofs.below.is_below.Reads as is-below-reads
use Rattle.climbs.specs.contracts.order.next_valued
use Rattle.climbs.proofs.order.next_valued.Kinds as next-valued-kinds
use Rattle.climbs.proofs.order.next_valued.Reads as next-valued-reads

pub perch-at-determined : (κs : Lfts 1) (a : ArgsD perch_at.signature κs) (r₁ r₂ : ResD perch_at.signature κs) (s₁ s₂ : AtExit (ended_of 1 perch-at-kinds.ps perch-at-kinds.r) κs)
    → perch-at-reads.Post κs a r₁ s₁ → perch-at-reads.Post κs a r₂ s₂ → r₁ ≡ r₂
perch-at-determined κs a r₁ r₂ s₁ s₂ p q = p ∙ sym q

pub parent-of-determined : (κs : Lfts 1) (a : ArgsD parent_of.signature κs) (r₁ r₂ : ResD parent_of.signature κs) (s₁ s₂ : AtExit (ended_of 1 parent-of-kinds.ps parent-of-kinds.r) κs)
    → parent-of-reads.Post κs a r₁ s₁ → parent-of-reads.Post κs a r₂ s₂ → r₁ ≡ r₂
parent-of-determined κs a r₁ r₂ s₁ s₂ p q = p ∙ sym q

pub depth-determined : (κs : Lfts 1) (a : ArgsD depth.signature κs) (r₁ r₂ : ResD depth.signature κs) (s₁ s₂ : AtExit (ended_of 1 depth-kinds.ps depth-kinds.r) κs)
    → depth-reads.Post κs a r₁ s₁ → depth-reads.Post κs a r₂ s₂ → r₁ ≡ r₂
depth-determined κs a r₁ r₂ s₁ s₂ p q = p ∙ sym q

pub spell-determined : (κs : Lfts 3) (a : ArgsD spell.signature κs) (r₁ r₂ : ResD spell.signature κs) (s₁ s₂ : AtExit (ended_of 3 spell-kinds.ps spell-kinds.r) κs)
    → spell-reads.Post κs a r₁ s₁ → spell-reads.Post κs a r₂ s₂ → s₁.1.1.1.1.0.now ≡ s₂.1.1.1.1.0.now
spell-determined κs a r₁ r₂ s₁ s₂ p q = p ∙ sym q

pub is-below-determined : (κs : Lfts 1) (a : ArgsD is_below.signature κs) (r₁ r₂ : ResD is_below.signature κs) (s₁ s₂ : AtExit (ended_of 1 is-below-kinds.ps is-below-kinds.r) κs)
    → is-below-reads.Post κs a r₁ s₁ → is-below-reads.Post κs a r₂ s₂ → r₁ ≡ r₂
is-below-determined κs a r₁ r₂ s₁ s₂ p q = p ∙ sym q

pub next-valued-determined : (κs : Lfts 3) (a : ArgsD next_valued.signature κs) (r₁ r₂ : ResD next_valued.signature κs) (s₁ s₂ : AtExit (ended_of 3 next-valued-kinds.ps next-valued-kinds.r) κs)
    → next-valued-reads.Post κs a r₁ s₁ → next-valued-reads.Post κs a r₂ s₂ → r₁ ≡ r₂
next-valued-determined κs a r₁ r₂ s₁ s₂ p q = p ∙ sym q
