-- The answers of the searches in 01's numbers: a refusal is its number alone, every other answer begins with 0 and goes
-- on with what it tells.
-- Assumes nothing.
use Rattle.std.specs.Prelude.{ℕ, Bool, List, [], ◌∷◌, Option, None, Some, Result}
use Rattle.keymap.specs.declared.refusals.Refusal.{Refusal}
use Rattle.keymap.specs.Answers.{said, told_value, told_flag}
use Rattle.searches.specs.declared.answers.Common.{Common}

abbrev pub said_looked : Result (Option ℕ) Refusal → List ℕ
said_looked = said told_value

abbrev pub said_prefixed : Result Bool Refusal → List ℕ
said_prefixed = said told_flag

abbrev pub said_longest : Result (Option ℕ) Refusal → List ℕ
said_longest = said told_value

abbrev pub told_common : Option Common → List ℕ
told_common None = []
told_common (Some c) = c.length ∷ c.value ∷ []

abbrev pub said_common : Result (Option Common) Refusal → List ℕ
said_common = said told_common
