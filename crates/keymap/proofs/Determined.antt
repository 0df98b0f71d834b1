-- Two outcomes that the call's contract allows are equal. The law is over the contract's own claim, so a clause that is weakened breaks it. Assumes nothing.
use mathlib.Core.Path.{◌≡◌, sym, ◌∙◌}
use contract.Lifetimes.{Lfts}
use denote.Triple.Clauses.{AtExit}
use borrow.Fn.World.{ArgsD, ResD}
use borrow.Fn.Kinds.{ended_of}
use Rattle.keymap.specs.contracts.refusals.Refusal.number as refusal-number
use Rattle.keymap.proofs.refusals.Refusal.number.Kinds as refusal-number-kinds
use Rattle.keymap.proofs.refusals.Refusal.number.Reads as refusal-number-reads

module _ (κs : Lfts 0) (a : ArgsD refusal-number.signature κs) (r₁ r₂ : ResD refusal-number.signature κs) (s₁ s₂ : AtExit (ended_of 0 refusal-number-kinds.ps refusal-number-kinds.r) κs) where
  pub refusal-number-determined : refusal-number-reads.Post κs a r₁ s₁ → refusal-number-reads.Post κs a r₂ s₂ → r₁ ≡ r₂
  refusal-number-determined p q = p ∙ sym q
