-- Laws of what digits are read as.
--
--     digits_in-value        a value that is answered is what the digits stand for
--     digits_in-other        else a byte is no digit
-- Assumes nothing.
use mathlib.Core.Path.{◌≡◌, refl}
use Prim.Native.Nat.{ℕ}
use mathlib.Core.Bool.{Bool, true, false}
use mathlib.Core.List.{List}
use Rattle.std.specs.Prelude.{Some, None}
use Rattle.lines.specs.Decimal.{are_digits, value_after}
use Rattle.lines.specs.Numerals.{digits_in}

pub digits_in-value : (t : List ℕ) (v : ℕ) → digits_in t ≡ Some v → (are_digits t ≡ true) × (value_after 0 t ≡ v)
unfolding digits_in
digits_in-value t v h = go (are_digits t) refl
  where
    go : (b : Bool) → are_digits t ≡ b → (are_digits t ≡ true) × (value_after 0 t ≡ v)
    go true e = (e, let k : Some (value_after 0 t) ≡ Some v = rw e at h in cc)
    go false e = let k : None ≡ Some v = rw e at h in cc

pub digits_in-other : (t : List ℕ) → digits_in t ≡ None → are_digits t ≡ false
unfolding digits_in
digits_in-other t h = go (are_digits t) refl
  where
    go : (b : Bool) → are_digits t ≡ b → are_digits t ≡ false
    go true e = let k : Some (value_after 0 t) ≡ None = rw e at h in cc
    go false e = e
