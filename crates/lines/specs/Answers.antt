-- The answers in 01's numbers: a refusal is its number, any other answer begins with 0.
-- Assumes nothing.
use Rattle.std.specs.Prelude.{ℕ, List, [], ◌∷◌, Option, None, Some, Result}
use Rattle.keymap.specs.Answers.{said, told_count}
use Rattle.keymap.specs.declared.refusals.Refusal.{Refusal}
use Rattle.lines.specs.declared.answers.Parsed.{Parsed}
use Rattle.lines.specs.declared.answers.Cut.{Cut}

abbrev pub told_line : Parsed → List ℕ
told_line p = p.key_len ∷ p.number ∷ []

abbrev pub said_parsed : Result Parsed Refusal → List ℕ
said_parsed = said told_line

abbrev pub said_cut : Option Cut → List ℕ
said_cut None = 0 ∷ []
said_cut (Some l) = 0 ∷ l.end ∷ l.next ∷ []

abbrev pub said_written : Result ℕ Refusal → List ℕ
said_written = said told_count
