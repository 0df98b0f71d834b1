-- What is said of an answer gives it back; and a key that is to be written to a lent buffer: what is said of it, and the buffer afterwards, by whether it fits.
--
--     written-fits     it is written
--     written-short    the buffer is shorter, and stays
--     said-number      what is said begins with the number of a refusal, and with 0 where there is none
--     said-one         what is said gives the answer back, if what it tells does
--     nothing-one, count-one, value-one, flag-one  what is told gives back: nothing, a count, a value found, yes or no
-- Assumes nothing.
use Rattle.std.specs.Prelude.{Option, None, Some, Result, Ok, Err}
use mathlib.Core.Path.{◌≡◌, refl, sym, ap}
use mathlib.Core.List.{head-eq_of_cons-eq, tail-eq_of_cons-eq, nil≢cons, cons-ne-nil}
use mathlib.Core.Bool.{Bool, true, false}
use Prim.Native.Nat.{ℕ, ◌≤◌, ◌<◌}
use mathlib.Core.List.{List, [], ◌∷◌, ◌++◌}
use lib.ListN.{length, drop, get_or}
use borrow.Author.Tests.{le-leb, lt-leb}
use Rattle.keymap.specs.Key.{Key}
use Rattle.keymap.specs.Buffers.{over}
use Rattle.keymap.specs.Refusals.{refuses, refusal_number}
use Rattle.keymap.specs.declared.refusals.Refusal.TheVariants.{KeyRoom}
use Rattle.keymap.specs.declared.refusals.Refusal.{Refusal}
use Rattle.keymap.specs.Answers.{said, told_nothing, told_count, told_value, told_flag, says_written, written_to}
use Rattle.keymap.proofs.Laws.Refusals.{refusal-one, no_zero}

pub record KeyWritten (k : Key) (out : List ℕ) (says : List ℕ) (after : List ℕ) : Type 0 where
  pub says_is : says_written k out ≡ says
  pub after_is : written_to k out ≡ after

module _ (k : Key) (out : List ℕ) where
  pub written-fits : length k ≤ length out → KeyWritten k out (0 ∷ length k ∷ []) (k ++ drop (length k) out)
  unfolding over
  written-fits l = record { says_is = rw (le-leb (length k) (length out) l); after_is = rw (le-leb (length k) (length out) l) }

  pub written-short : length out < length k → KeyWritten k out (refuses KeyRoom) out
  written-short l = record { says_is = rw (lt-leb (length k) (length out) l); after_is = rw (lt-leb (length k) (length out) l) }

-- the number of a refusal, 0 of every other answer
abbrev pub number_of : {T : Type 0} → Result T Refusal → ℕ
number_of (Ok x) = 0
number_of (Err r) = refusal_number r

pub said-number : {T : Type 0} (tells : T → List ℕ) (a : Result T Refusal) → get_or (said tells a) 0 0 ≡ number_of a
said-number tells (Ok x) = refl
said-number tells (Err r) = refl

module _ {T : Type 0} (tells : T → List ℕ) (one : (x y : T) → tells x ≡ tells y → x ≡ y) where
  pub said-one : (a b : Result T Refusal) → said tells a ≡ said tells b → a ≡ b
  said-one (Ok x) (Ok y) e = ap Ok (one x y (tail-eq_of_cons-eq e))
  said-one (Err r) (Err s) e = ap Err (refusal-one r s (head-eq_of_cons-eq e))
  said-one (Ok x) (Err s) e = absurd (no_zero s (head-eq_of_cons-eq e))
  said-one (Err r) (Ok y) e = absurd (no_zero r (sym (head-eq_of_cons-eq e)))

pub nothing-one : (x y : Unit {0}) → told_nothing x ≡ told_nothing y → x ≡ y
nothing-one x y e = refl

pub count-one : (x y : ℕ) → told_count x ≡ told_count y → x ≡ y
count-one x y e = head-eq_of_cons-eq e

pub value-one : (x y : Option ℕ) → told_value x ≡ told_value y → x ≡ y
value-one None None e = refl
value-one (Some v) (Some w) e = ap Some (head-eq_of_cons-eq e)
value-one None (Some w) e = absurd (nil≢cons e)
value-one (Some v) None e = absurd (cons-ne-nil v [] e)

pub flag-one : (x y : Bool) → told_flag x ≡ told_flag y → x ≡ y
flag-one true true e = refl
flag-one false false e = refl
flag-one true false e = absurd (cons-ne-nil 1 [] e)
flag-one false true e = absurd (nil≢cons e)
