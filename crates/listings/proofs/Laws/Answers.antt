-- Answers that tell the same numbers are the same: each answer is read back from what it tells.
--
--     said_cursor-one, said_started-one, said_stepped-one  of cursors, starts and steps
-- Assumes nothing.
use mathlib.Core.Path.{◌≡◌, refl, sym, ap, ◌∙◌}
use Prim.Native.Nat.{ℕ, zero, suc}
use mathlib.Core.List.{List, [], ◌∷◌}
use Rattle.std.specs.Prelude.{Result}
use Rattle.keymap.specs.declared.refusals.Refusal.{Refusal}
use Rattle.keymap.proofs.Laws.Answers.{said-one}
use Rattle.listings.specs.declared.answers.Kind.{Kind}
use Rattle.listings.specs.declared.answers.Kind.TheVariants as kinds
use Rattle.listings.specs.declared.answers.Cursor.{Cursor}
use Rattle.listings.specs.declared.answers.Cursor.TheVariants as cursors
use Rattle.listings.specs.declared.answers.Stepped.{Stepped}
use Rattle.listings.specs.declared.answers.Stepped.TheVariants as steps
use Rattle.listings.specs.Answers.{said_kind, said_cursor, said_started, told_step, said_stepped}

abbrev told_kind : ℕ → Kind
told_kind zero = kinds.Predictive
told_kind (suc n) = kinds.Postfix

told_kind-said : (k : Kind) → told_kind (said_kind k) ≡ k
told_kind-said kinds.Predictive = refl
told_kind-said kinds.Postfix = refl

abbrev told_cursor : List ℕ → Cursor
told_cursor [] = cursors.Finished kinds.Predictive
told_cursor (k ∷ []) = cursors.Finished (told_kind k)
told_cursor (k ∷ top ∷ []) = cursors.Finished (told_kind k)
told_cursor (k ∷ top ∷ last ∷ ns) = cursors.Open (told_kind k) top last

told_cursor-said : (c : Cursor) → told_cursor (said_cursor c) ≡ c
told_cursor-said (cursors.Open k top last) = ap (λ (j : Kind). cursors.Open j top last) (told_kind-said k)
told_cursor-said (cursors.Finished k) = ap cursors.Finished (told_kind-said k)

pub said_cursor-one : (c d : Cursor) → said_cursor c ≡ said_cursor d → c ≡ d
said_cursor-one c d e = sym (told_cursor-said c) ∙ ap told_cursor e ∙ told_cursor-said d

pub said_started-one : (a b : Result Cursor Refusal) → said_started a ≡ said_started b → a ≡ b
said_started-one = said-one said_cursor said_cursor-one

-- which step it is, its length tells
abbrev told_back : List ℕ → Stepped
told_back (n ∷ b ∷ []) = steps.End (told_cursor (b ∷ []))
told_back (n ∷ v ∷ b ∷ []) = steps.Gave n v (told_cursor (b ∷ []))
told_back (n ∷ b ∷ c ∷ d ∷ []) = steps.End (told_cursor (b ∷ c ∷ d ∷ []))
told_back (n ∷ v ∷ ns) = steps.Gave n v (told_cursor ns)
told_back ns = steps.End (told_cursor ns)

told_back-step : (s : Stepped) → told_back (told_step s) ≡ s
told_back-step (steps.Gave n v (cursors.Open k top last)) = ap (steps.Gave n v) (told_cursor-said (cursors.Open k top last))
told_back-step (steps.Gave n v (cursors.Finished k)) = ap (steps.Gave n v) (told_cursor-said (cursors.Finished k))
told_back-step (steps.End (cursors.Open k top last)) = ap steps.End (told_cursor-said (cursors.Open k top last))
told_back-step (steps.End (cursors.Finished k)) = ap steps.End (told_cursor-said (cursors.Finished k))

step-one : (s t : Stepped) → told_step s ≡ told_step t → s ≡ t
step-one s t e = sym (told_back-step s) ∙ ap told_back e ∙ told_back-step t

pub said_stepped-one : (a b : Result Stepped Refusal) → said_stepped a ≡ said_stepped b → a ≡ b
said_stepped-one = said-one told_step step-one
