-- Membership and order in a list, for what laws say of listings and of prefixes.
--
--     In            an element is one of a list's, at the head (`here`) or behind it (`there`)
--     Ordered       each element stands in a relation to every one behind it
--     Distinct      no element comes twice
--     head_of       the first element, where there is one
-- Assumes nothing.
use Rattle.std.specs.Prelude.{◌≡◌, List, [], ◌∷◌, Option, None, Some}
pub use mathlib.Core.List.Memᴰ.{head as here}
pub use mathlib.Core.List.Memᴰ.{tail as there}
pub use mathlib.Core.List.{Memᴰ as In}

abbrev pub Ordered : {A : Type 0} → (A → A → Type 0) → List A → Type 0
Ordered R [] = Unit {0}
Ordered {A} R (x ∷ xs) = ((y : A) → In y xs → R x y) × Ordered R xs

abbrev pub Distinct : {A : Type 0} → List A → Type 0
Distinct {A} xs = Ordered (λ (x y : A). ¬ (x ≡ y)) xs

abbrev pub head_of : {A : Type 0} → List A → Option A
head_of [] = None
head_of (x ∷ xs) = Some x
