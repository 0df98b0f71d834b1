-- Answers that tell the same numbers are the same: what each tells gives it back.
--
--     said_looked-one, said_prefixed-one  of a key, and of what begins with a query
--     said_common-one                     of common prefixes
--     said_longest-one                    of what is written to a buffer
-- Assumes nothing.
use Rattle.std.specs.Prelude.{Option, None, Some, Result}
use mathlib.Core.Path.{◌≡◌, refl}
use Prim.Native.Nat.{ℕ}
use mathlib.Core.Bool.{Bool}
use mathlib.Core.List.{[], ◌∷◌, head-eq_of_cons-eq, tail-eq_of_cons-eq, nil≢cons, cons-ne-nil}
use Rattle.keymap.specs.declared.refusals.Refusal.{Refusal}
use Rattle.keymap.specs.Answers.{told_value, told_flag}
use Rattle.keymap.proofs.Laws.Answers.{said-one, value-one, flag-one}
use Rattle.searches.specs.declared.answers.Common.{Common}
use Rattle.searches.specs.Answers.{said_looked, said_prefixed, told_common, said_common, said_longest}

pub said_looked-one : (r s : Result (Option ℕ) Refusal) → said_looked r ≡ said_looked s → r ≡ s
said_looked-one = said-one told_value value-one

pub said_prefixed-one : (r s : Result Bool Refusal) → said_prefixed r ≡ said_prefixed s → r ≡ s
said_prefixed-one = said-one told_flag flag-one

common-one : (x y : Option Common) → told_common x ≡ told_common y → x ≡ y
common-one None None e = refl
common-one (Some c) (Some d) e = λ i. Some (record { length = head-eq_of_cons-eq e i; value = head-eq_of_cons-eq (tail-eq_of_cons-eq e) i })
common-one None (Some d) e = absurd (nil≢cons e)
common-one (Some c) None e = absurd (cons-ne-nil c.length (c.value ∷ []) e)

pub said_common-one : (r s : Result (Option Common) Refusal) → said_common r ≡ said_common s → r ≡ s
said_common-one = said-one told_common common-one

pub said_longest-one : (r s : Result (Option ℕ) Refusal) → said_longest r ≡ said_longest s → r ≡ s
said_longest-one = said-one told_value value-one
