-- No two refusals have one number: the number gives the refusal back. Assumes nothing.
use mathlib.Core.Path.{◌≡◌, refl, sym, ap, ◌∙◌}
use Prim.Native.Nat.{ℕ, ◌-◌}
use native.Mathlib.Omega.{arith}
use mathlib.Core.List.{List, [], ◌∷◌}
use lib.ListN.{get_or}
use Rattle.keymap.specs.Refusals.{refusal_number}
use Rattle.keymap.specs.declared.refusals.Refusal.{Refusal}
use Rattle.keymap.specs.declared.refusals.Refusal.TheVariants.{PoolTooSmall, NotAPool, EmptyKey, NoRoom, OutTooSmall, NotAnImage, BadPlace, KeyRoom, BadLine}

-- the refusals in the order of their numbers, from 1 on
in_order : List Refusal
in_order = PoolTooSmall ∷ NotAPool ∷ EmptyKey ∷ NoRoom ∷ OutTooSmall ∷ NotAnImage ∷ BadPlace ∷ KeyRoom ∷ BadLine ∷ []

refusal_of : ℕ → Refusal
refusal_of n = get_or in_order (n - 1) BadLine

refusal_of-number : (r : Refusal) → refusal_of (refusal_number r) ≡ r
unfolding refusal_of in_order
refusal_of-number PoolTooSmall = refl
refusal_of-number NotAPool = refl
refusal_of-number EmptyKey = refl
refusal_of-number NoRoom = refl
refusal_of-number OutTooSmall = refl
refusal_of-number NotAnImage = refl
refusal_of-number BadPlace = refl
refusal_of-number KeyRoom = refl
refusal_of-number BadLine = refl

pub refusal-one : (r s : Refusal) → refusal_number r ≡ refusal_number s → r ≡ s
refusal-one r s e = sym (refusal_of-number r) ∙ ap refusal_of e ∙ refusal_of-number s

-- 0 is no refusal's number
pub no_zero : (r : Refusal) → 0 ≡ refusal_number r → ⊥
no_zero PoolTooSmall e = omega (arith, e)
no_zero NotAPool e = omega (arith, e)
no_zero EmptyKey e = omega (arith, e)
no_zero NoRoom e = omega (arith, e)
no_zero OutTooSmall e = omega (arith, e)
no_zero NotAnImage e = omega (arith, e)
no_zero BadPlace e = omega (arith, e)
no_zero KeyRoom e = omega (arith, e)
no_zero BadLine e = omega (arith, e)
