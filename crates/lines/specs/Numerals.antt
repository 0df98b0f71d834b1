-- What digits stand for. Assumes nothing.
use Rattle.std.specs.Prelude.{ℕ, cond, List, Option, None, Some}
use Rattle.lines.specs.Decimal.{are_digits, value_after}

-- none where a byte is no digit
unfoldable pub digits_in : List ℕ → Option ℕ
digits_in t = cond (are_digits t) (Some (value_after 0 t)) None
