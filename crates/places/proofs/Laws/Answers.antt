-- Answers that tell the same numbers are the same: what each tells gives it back.
--
--     said_resumed-one, said_valued-one, said_measured-one  of what is read of a place
--     said_queried-one, said_followed-one, said_gone-one  of its moves
-- Assumes nothing.
use Rattle.std.specs.Prelude.{Option, None, Some, Result, Ok, Err}
use mathlib.Core.Path.{◌≡◌, refl, sym, ap, ◌∙◌}
use Prim.Native.Nat.{ℕ}
use native.Mathlib.Omega.{arith}
use mathlib.Core.Bool.{cond}
use mathlib.Core.List.{[], ◌∷◌, head-eq_of_cons-eq, tail-eq_of_cons-eq, nil≢cons, cons-ne-nil}
use lib.Dec.{eqb}
use Rattle.keymap.specs.declared.refusals.Refusal.{Refusal}
use Rattle.keymap.specs.Answers.{told_value}
use Rattle.keymap.proofs.Laws.Answers.{said-one, value-one}
use Rattle.places.specs.declared.answers.Place.{Place}
use Rattle.places.specs.declared.answers.Answer.{Answer}
use Rattle.places.specs.declared.answers.Answer.TheVariants.{Prefix, Match, PrefixAndMatch}
use Rattle.places.specs.Incremental.{said_answer, told_child, told_end, said_queried, said_followed, said_gone}
use Rattle.places.specs.Places.{said_resumed, said_valued, said_measured}

pub said_resumed-one : (r s : Result Place Refusal) → said_resumed r ≡ said_resumed s → r ≡ s
said_resumed-one = said-one (λ place. place.node ∷ []) (λ x y e. λ i. record { node = head-eq_of_cons-eq e i })

pub said_valued-one : (r s : Result (Option ℕ) Refusal) → said_valued r ≡ said_valued s → r ≡ s
said_valued-one = said-one told_value value-one

pub said_measured-one : (r s : Result ℕ Refusal) → said_measured r ≡ said_measured s → r ≡ s
said_measured-one = said-one (λ n. n ∷ []) (λ x y e. head-eq_of_cons-eq e)

-- an answer is read back from its number
abbrev told_answer : ℕ → Answer
told_answer n = cond (eqb n 1) Prefix (cond (eqb n 2) Match PrefixAndMatch)

told_answer-said : (a : Answer) → told_answer (said_answer a) ≡ a
told_answer-said Prefix = refl
told_answer-said Match = refl
told_answer-said PrefixAndMatch = refl

answer-one : (x y : Answer) → said_answer x ≡ said_answer y → x ≡ y
answer-one x y e = sym (told_answer-said x) ∙ ap told_answer e ∙ told_answer-said y

child-one : (x y : Option Answer) → told_child x ≡ told_child y → x ≡ y
child-one None None e = refl
child-one (Some a) (Some b) e = ap Some (answer-one a b (head-eq_of_cons-eq e))
child-one None (Some b) e = absurd (nil≢cons e)
child-one (Some a) None e = absurd (cons-ne-nil (said_answer a) [] e)

module _ {T : Type 0} (number : T → ℕ) (one : (x y : T) → number x ≡ number y → x ≡ y) where
  end-one : (x y : Result T ℕ) → told_end number x ≡ told_end number y → x ≡ y
  end-one (Ok x) (Ok y) e = ap Ok (one x y (head-eq_of_cons-eq (tail-eq_of_cons-eq e)))
  end-one (Err m) (Err n) e = ap Err (head-eq_of_cons-eq (tail-eq_of_cons-eq e))
  end-one (Ok x) (Err n) e = absurd (omega (arith, head-eq_of_cons-eq e))
  end-one (Err m) (Ok y) e = absurd (omega (arith, head-eq_of_cons-eq e))

pub said_queried-one : (r s : Result (Option Answer) Refusal) → said_queried r ≡ said_queried s → r ≡ s
said_queried-one = said-one told_child child-one

pub said_followed-one : (r s : Result (Result Answer ℕ) Refusal) → said_followed r ≡ said_followed s → r ≡ s
said_followed-one = said-one (told_end said_answer) (end-one said_answer answer-one)

pub said_gone-one : (r s : Result (Result ℕ ℕ) Refusal) → said_gone r ≡ said_gone s → r ≡ s
said_gone-one = said-one (told_end (λ d. d)) (end-one (λ d. d) (λ x y e. e))
