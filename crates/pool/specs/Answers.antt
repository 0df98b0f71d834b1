-- The answers in 01's numbers: done is 0, a count n is 0 and n, a refusal is its number.
-- Assumes nothing.
use Rattle.std.specs.Prelude.{ℕ, Bool, false, List, [], ◌∷◌, eqb, Result}
use Rattle.keymap.specs.Answers.{said, told_nothing, told_count}
use Rattle.keymap.specs.declared.refusals.Refusal.{Refusal}

-- of reset
abbrev pub said_cleared : Result (Unit {0}) Refusal → List ℕ
said_cleared = said told_nothing

-- of the use count
abbrev pub said_counted : Result ℕ Refusal → List ℕ
said_counted = said told_count

-- of push
abbrev pub said_pushed : Result (Unit {0}) Refusal → List ℕ
said_pushed = said told_nothing

-- it is no refusal
abbrev pub accepted : List ℕ → Bool
accepted [] = false
accepted (n ∷ ns) = eqb n 0
