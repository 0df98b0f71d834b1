-- A text pushed into a pool (01, module 8): "A line that breaks the rule is 9 and is never pushed, so 9 comes before 3
-- and 4 here. The first refusal stops it".
-- What the text is answered is told without the pool in `TextAnswers`; here is what is left of the pool.
--
--     said_filled            the answers: 0 where every line is pushed, the number and the line of a refusal
--     line_says, line_pool   one line, by its entry: the refusal's number, or 0, and the pool that is left
--     fill_from, left_from   lines in turn, the first of them with a given number
--     fill_pool              what a pool is after a reset and the lines of a text
--     HeldIf                 what the pool then holds
-- Assumes nothing.
use Rattle.std.specs.Prelude.{ℕ, suc, ◌≡◌, cond, List, [], ◌∷◌, ◌++◌, Option, None, Some, Result, Ok, Err}
use Rattle.keymap.specs.Map.{Entry}
use Rattle.keymap.specs.Refusals.{refusal_number, refuses}
use Rattle.keymap.specs.declared.refusals.Refusal.{Refusal}
use Rattle.records.specs.Words.{Pool}
use Rattle.records.specs.Sound.{Sound}
use Rattle.records.specs.Meaning.{pool_map}
use Rattle.pool.specs.Answers.{accepted}
use Rattle.pool.specs.Reset.{reset_pool}
use Rattle.pool.specs.Push.{push_says, push_pool}
use Rattle.lines.specs.TabLine.{tab_entry}
use Rattle.lines.specs.Text.{entry_lines}
use Rattle.catalogue.specs.declared.filling.Refused.{Refused}
use Rattle.catalogue.specs.TextAnswers.{text_map}

abbrev pub said_filled : Result (Unit {0}) Refused → List ℕ
said_filled (Ok u) = 0 ∷ []
said_filled (Err r) = refusal_number r.refusal ∷ r.line ∷ []

abbrev pub line_says : Pool → Option Entry → List ℕ
line_says p None = refuses Refusal.BadLine
line_says p (Some e) = push_says p e.0

abbrev pub line_pool : Pool → Option Entry → Pool
line_pool p None = p
line_pool p (Some e) = push_pool p e.0 e.1

unfoldable pub fill_from : ℕ → Pool → List (List ℕ) → List ℕ
fill_from n p [] = 0 ∷ []
fill_from n p (l ∷ ls) =
    cond (accepted (line_says p (tab_entry l))) (fill_from (suc n) (line_pool p (tab_entry l)) ls)
    (line_says p (tab_entry l) ++ (n ∷ []))

-- a refused line changes nothing, and nothing behind it is looked at
unfoldable pub left_from : Pool → List (List ℕ) → Pool
left_from p [] = p
left_from p (l ∷ ls) = cond (accepted (line_says p (tab_entry l))) (left_from (line_pool p (tab_entry l)) ls) p

unfoldable pub fill_pool : Pool → List ℕ → Pool
fill_pool p text = left_from (reset_pool p) (entry_lines text)

-- a text that is pushed whole leaves a sound pool that holds the map of its entries
abbrev pub HeldIf : Result (Unit {0}) Refused → Pool → List ℕ → Type 0
HeldIf (Ok u) p text = Sound p × (pool_map p ≡ text_map text)
HeldIf (Err r) p text = Unit {0}
