-- The answers of the listings in 01's numbers: a refusal is its number alone, every other answer begins with 0 and goes
-- on with what it tells.
-- A cursor tells its kind, then, unless it is finished, its top and the node given last. A step tells the node that it
-- gives, its value and the next cursor;
-- nodes are numbered from 1, and a step that gives none tells node 0.
-- Assumes nothing.
use Rattle.std.specs.Prelude.{ℕ, List, [], ◌∷◌, Result}
use Rattle.keymap.specs.Answers.{said}
use Rattle.keymap.specs.declared.refusals.Refusal.{Refusal}
use Rattle.listings.specs.declared.answers.Kind.{Kind}
use Rattle.listings.specs.declared.answers.Kind.TheVariants as kinds
use Rattle.listings.specs.declared.answers.Cursor.{Cursor}
use Rattle.listings.specs.declared.answers.Cursor.TheVariants as cursors
use Rattle.listings.specs.declared.answers.Stepped.{Stepped}
use Rattle.listings.specs.declared.answers.Stepped.TheVariants as steps

abbrev pub said_kind : Kind → ℕ
said_kind kinds.Predictive = 0
said_kind kinds.Postfix = 1

abbrev pub said_cursor : Cursor → List ℕ
said_cursor (cursors.Open k top last) = said_kind k ∷ top ∷ last ∷ []
said_cursor (cursors.Finished k) = said_kind k ∷ []

abbrev pub said_started : Result Cursor Refusal → List ℕ
said_started = said said_cursor

abbrev pub told_step : Stepped → List ℕ
told_step (steps.Gave node value next) = node ∷ value ∷ said_cursor next
told_step (steps.End next) = 0 ∷ said_cursor next

abbrev pub said_stepped : Result Stepped Refusal → List ℕ
said_stepped = said told_step
