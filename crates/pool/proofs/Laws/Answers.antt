-- Laws of the answers' numbers. A refusal is not accepted, and two answers that say the same are the same.
--
--     refused-not                                          a refusal is not accepted
--     said-cleared-one, said-counted-one, said-pushed-one  equal numbers mean equal answers
-- Assumes nothing.
use Prim.Native.Nat.{ℕ}
use mathlib.Core.Path.{◌≡◌, refl}
use mathlib.Core.Bool.{false}
use Rattle.std.specs.Prelude.{Result}
use Rattle.keymap.specs.Refusals.{refuses}
use Rattle.keymap.specs.declared.refusals.Refusal.{Refusal}
use Rattle.keymap.specs.Answers.{told_nothing, told_count}
use Rattle.pool.specs.Answers.{said_cleared, said_counted, said_pushed, accepted}
use Rattle.keymap.proofs.Laws.Answers.{said-one, nothing-one, count-one}

pub refused-not : (r : Refusal) → accepted (refuses r) ≡ false
refused-not Refusal.PoolTooSmall = refl
refused-not Refusal.NotAPool = refl
refused-not Refusal.EmptyKey = refl
refused-not Refusal.NoRoom = refl
refused-not Refusal.OutTooSmall = refl
refused-not Refusal.NotAnImage = refl
refused-not Refusal.BadPlace = refl
refused-not Refusal.KeyRoom = refl
refused-not Refusal.BadLine = refl

pub said-cleared-one : (r s : Result (Unit {0}) Refusal) → said_cleared r ≡ said_cleared s → r ≡ s
said-cleared-one = said-one told_nothing nothing-one

pub said-counted-one : (r s : Result ℕ Refusal) → said_counted r ≡ said_counted s → r ≡ s
said-counted-one = said-one told_count count-one

pub said-pushed-one : (r s : Result (Unit {0}) Refusal) → said_pushed r ≡ said_pushed s → r ≡ s
said-pushed-one = said-one told_nothing nothing-one
