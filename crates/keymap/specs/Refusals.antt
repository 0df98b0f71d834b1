-- The numbered refusals (01), one table for every crate: which call gives which is in its own crate.
-- Assumes nothing.
use Rattle.std.specs.Prelude.{ℕ, List, [], ◌∷◌}
use Rattle.keymap.specs.declared.refusals.Refusal.{Refusal}
use Rattle.keymap.specs.declared.refusals.Refusal.TheVariants.{PoolTooSmall, NotAPool, EmptyKey, NoRoom, OutTooSmall, NotAnImage, BadPlace, KeyRoom, BadLine}

abbrev pub refusal_number : Refusal → ℕ
refusal_number PoolTooSmall = 1
refusal_number NotAPool = 2
refusal_number EmptyKey = 3
refusal_number NoRoom = 4
refusal_number OutTooSmall = 5
refusal_number NotAnImage = 6
refusal_number BadPlace = 7
refusal_number KeyRoom = 8
refusal_number BadLine = 9

-- what a call that refuses says: the number alone
abbrev pub refuses : Refusal → List ℕ
refuses r = refusal_number r ∷ []
