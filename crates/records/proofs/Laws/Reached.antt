-- What proofs about a whole pool go by: how many records are in use, and that each is reached from the root by way of its parents.
--
--     used-at-most     distinct records in use are no more than are counted
--     used-at-least    a list that has every record in use is as long
--     reached          what holds of the root, and of a record whenever of its parent, holds of every record in use
-- Assumes nothing.
use Prim.Native.Nat.{ℕ, ◌≤◌}
use mathlib.Core.Path.{refl, sym, subst}
use mathlib.Core.Logic.{inl, inr}
use mathlib.Core.List.{List, [], ◌∷◌}
use lib.ListN.{length}
use native.Mathlib.Omega.{arith}
use Rattle.records.specs.Words.{Pool, parent, last_record, used_count, InUse}
use Rattle.records.specs.Sound.{Among, Chain, Sound}
use Rattle.records.proofs.Laws.Distinct.{Once, once-at-most, cover-at-least}
use Rattle.records.proofs.Laws.Words.{count-last}
use Rattle.records.proofs.Laws.Spelling.{sound-climbs}

module _ (p : Pool) (xs : List ℕ) where
  pub used-at-most : Once xs → ((x : ℕ) → Among x xs → InUse p x) → length xs ≤ used_count p
  used-at-most d u = omega (arith, once-at-most (last_record p) xs d u, count-last p)

  pub used-at-least : ((x : ℕ) → InUse p x → Among x xs) → used_count p ≤ length xs
  used-at-least a = omega (arith, cover-at-least (last_record p) xs (λ x l h. a x (l, h)), count-last p)

module _ (p : Pool) (P : ℕ → Type 0) (root : P 0) (step : (c : ℕ) → InUse p c → P (parent p c) → P c) where
  up-reached : (up : List ℕ) (c : ℕ) → Chain (parent p) c up → ((x : ℕ) → Among x up → InUse p x) → P c
  up-reached [] c h u = subst P (sym h) root
  up-reached (x ∷ up) c h u = subst P (sym h.0) (step x (u x (inl refl)) (up-reached up (parent p x) h.2 (λ y i. u y (inr i))))

  pub reached : Sound p → (c : ℕ) → InUse p c → P c
  reached s c v = let w = sound-climbs p s c (inr v) in up-reached w.up c w.chain w.used
