-- Numbers as text (01, module 8): "one decimal of 1 to 10 digits, at most 4,294,967,295, no leading zero but "0"
-- itself".
-- Every reader and every writer of numbers cites these.
--
--     decimal        the digits of a number, as they are written
--     is_decimal     a text obeys the rule
--     number_in      the number that a text spells, if it obeys the rule
-- Assumes nothing.
use Rattle.std.specs.Prelude.{ℕ, zero, suc, ◌+◌, ◌*◌, ◌-◌, ◌/◌, ◌%◌, Bool, true, false, cond, not, ◌&&◌, List, [], ◌∷◌, ◌++◌, length, get_or, eqb, leb, ltb, Option, None, Some}
use Rattle.keymap.specs.Limits.{value_limit}

-- the byte of the digit 0; the others follow it
abbrev pub zero_digit : ℕ
zero_digit = 48

abbrev pub most_digits : ℕ
most_digits = 10

-- the first argument bounds the steps, and the second says that n is one digit: no more steps are computed than there
-- are digits
unfoldable pub decimal_from : ℕ → Bool → ℕ → List ℕ
decimal_from zero one n = []
decimal_from (suc k) true n = (zero_digit + n) ∷ []
decimal_from (suc k) false n = decimal_from k (ltb (n / 10) 10) (n / 10) ++ ((zero_digit + n % 10) ∷ [])

-- a number n has no more than n + 1 digits
unfoldable pub decimal : ℕ → List ℕ
decimal n = decimal_from (suc n) (ltb n 10) n

abbrev pub is_digit : ℕ → Bool
is_digit b = leb zero_digit b && leb b (zero_digit + 9)

unfoldable pub are_digits : List ℕ → Bool
are_digits [] = true
are_digits (b ∷ t) = is_digit b && are_digits t

-- what digits stand for behind digits that stand for v
unfoldable pub value_after : ℕ → List ℕ → ℕ
value_after v [] = v
value_after v (b ∷ t) = value_after (v * 10 + (b - zero_digit)) t

-- a zero before other digits: "0" itself has none
unfoldable pub leading_zero : List ℕ → Bool
leading_zero t = ltb 1 (length t) && eqb (get_or t 0 0) zero_digit

unfoldable pub is_decimal : List ℕ → Bool
is_decimal t =
    leb 1 (length t) && leb (length t) most_digits && not (leading_zero t) && are_digits t
    && ltb (value_after 0 t) value_limit

unfoldable pub number_in : List ℕ → Option ℕ
number_in t = cond (is_decimal t) (Some (value_after 0 t)) None
