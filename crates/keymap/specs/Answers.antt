-- What several calls say in numbers: a refusal is its number alone, every other answer begins with 0 and goes on with
-- what it tells.
--
--     said           an answer that may be a refusal: its number, or 0 and what the answer tells
--     told_nothing   what is done tells no more, `told_count`: a count, `told_value`: a value found, `told_flag`: yes
--                    or no
--     given          whether something was found
--     says_value     a value found, or no match
--     says_flag      yes, or no
--     says_written   a key that is to be written to a lent buffer, and `written_to`: the buffer afterwards
--     written_key    the buffer where there may be no key
-- Assumes nothing.
use Rattle.std.specs.Prelude.{ℕ, Bool, true, false, cond, List, [], ◌∷◌, length, leb, Option, None, Some, Result, Ok, Err}
use Rattle.keymap.specs.Key.{Key}
use Rattle.keymap.specs.Buffers.{over}
use Rattle.keymap.specs.Refusals.{refuses}
use Rattle.keymap.specs.declared.refusals.Refusal.{Refusal}
use Rattle.keymap.specs.declared.refusals.Refusal.TheVariants.{KeyRoom}

abbrev pub said : {T : Type 0} → (T → List ℕ) → Result T Refusal → List ℕ
said tells (Ok x) = 0 ∷ tells x
said tells (Err r) = refuses r

abbrev pub told_nothing : Unit {0} → List ℕ
told_nothing u = []

abbrev pub told_count : ℕ → List ℕ
told_count n = n ∷ []

abbrev pub told_value : Option ℕ → List ℕ
told_value None = []
told_value (Some v) = v ∷ []

abbrev pub told_flag : Bool → List ℕ
told_flag true = 1 ∷ []
told_flag false = []

abbrev pub given : Option ℕ → Bool
given None = false
given (Some v) = true

abbrev pub says_value : Option ℕ → List ℕ
says_value o = 0 ∷ told_value o

abbrev pub says_flag : Bool → List ℕ
says_flag b = 0 ∷ told_flag b

-- its length, or refusal 8 where the buffer is shorter
abbrev pub says_written : Key → List ℕ → List ℕ
says_written k out = cond (leb (length k) (length out)) (0 ∷ length k ∷ []) (refuses KeyRoom)

-- the buffer with a key written to its front, as it was where it is shorter
abbrev pub written_to : Key → List ℕ → List ℕ
written_to k out = cond (leb (length k) (length out)) (over k out) out

abbrev pub written_key : Option Key → List ℕ → List ℕ
written_key None out = out
written_key (Some k) out = written_to k out
