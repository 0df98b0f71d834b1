-- Laws of numbers as text. A number's digits are those of a tenth of it and then the last one, whatever bounds the steps; so what they stand for is the number,
-- and digits without a leading zero are those of what they stand for.
--
--     decimal-small          below ten a number is one digit, and `decimal-large` from ten on the digits of its tenth
--                            and the last one
--     length-decimal         below 10 ^ k it has k digits at most, and `length-decimal-is` k from 10 ^ (k - 1) on; a
--                            value `length-decimal-some` one and `length-decimal-most` ten
--     are_digits-decimal     they are digits, and `value_after-decimal` stand for the number, and
--                            `leading_zero-decimal` have no leading zero
--     decimal-value_after    digits behind those of a number but 0 are those of what they stand for together
--     final_digits-all       the last digits of a number, as many as it has, are all of them
--     number_in-obeyed       a text that obeys the rule spells what its digits stand for, and `number_in-broken` any
--                            other spells nothing
--     number_in-decimal      a value's digits spell it
--     number_in-one          what spells a number is its digits, and `number_in-below` the number is a value
-- Assumes nothing.
use mathlib.Core.Path.{◌≡◌, refl, sym, ap, ◌∙◌}
use Prim.Native.Nat.{ℕ, zero, suc, ◌+◌, ◌*◌, ◌-◌, ◌/◌, ◌%◌, ◌^◌, ◌≤◌, ◌<◌}
use mathlib.Core.Bool.{Bool, true, false, not, ◌&&◌, and-false, true≢false}
use mathlib.Core.List.{List, [], ◌∷◌, ◌++◌, append_assoc, append-nil}
use Rattle.std.specs.Prelude.{None, Some}
use native.Mathlib.Nat.{pow-suc, one-le-pow}
use native.Mathlib.Omega.{arith}
use native.Mathlib.Numerals.{add-one}
use lib.ListN.{length, get_or, drop, length-append, get_or-append}
use lib.Seq.{drop-cons}
use lib.Dec.{ltb, leb, eqb}
use borrow.Author.Tests.{ltb-true, ltb-false, lt-ltb, le-ltb, le-leb, leb-true, eqb-false, ne_eqb, not-true}
use Rattle.keymap.specs.Limits.{value_limit}
use Rattle.keymap.proofs.Laws.Begins.{both_true}
use Rattle.lines.specs.Bytes.{holds}
use Rattle.lines.specs.Decimal.{zero_digit, most_digits, decimal_from, decimal, is_digit, are_digits, value_after, leading_zero, is_decimal, number_in}

steps-agree : (k j n : ℕ) → n < k → n < j → decimal_from k (ltb n 10) n ≡ decimal_from j (ltb n 10) n
unfolding decimal_from
steps-agree zero j n h g = absurd (omega arith)
steps-agree (suc k) zero n h g = absurd (omega arith)
steps-agree (suc k) (suc j) n h g = go (ltb n 10) refl (steps-agree k j (n / 10))
  where
    go : (t : Bool) → ltb n 10 ≡ t
        → (n / 10 < k → n / 10 < j → decimal_from k (ltb (n / 10) 10) (n / 10) ≡ decimal_from j (ltb (n / 10) 10) (n / 10))
        → decimal_from (suc k) (ltb n 10) n ≡ decimal_from (suc j) (ltb n 10) n
    go true e ih = rw e
    go false e ih = let l : 10 ≤ n = ltb-false n 10 e in rw (e, ih (omega arith) (omega arith))

pub decimal-small : (n : ℕ) → n < 10 → decimal n ≡ (zero_digit + n) ∷ []
unfolding decimal decimal_from
decimal-small n h = rw (lt-ltb n 10 h)

pub decimal-large : (n : ℕ) → 10 ≤ n → decimal n ≡ decimal (n / 10) ++ ((zero_digit + n % 10) ∷ [])
unfolding decimal decimal_from
decimal-large n h = rw (le-ltb n 10 h, steps-agree n (suc (n / 10)) (n / 10) (omega arith) (omega arith))

-- what holds of one digit, and of a number if it does of its tenth, holds of all
module _ (P : ℕ → Type 0) (small : (n : ℕ) → n < 10 → P n) (large : (n : ℕ) → 10 ≤ n → P (n / 10) → P n) where
  below : (k n : ℕ) → n < k → P n
  below zero n h = absurd (omega arith)
  below (suc k) n h = go (ltb n 10) refl (below k (n / 10))
    where
      go : (t : Bool) → ltb n 10 ≡ t → (n / 10 < k → P (n / 10)) → P n
      go true e ih = small n (ltb-true n 10 e)
      go false e ih = let l : 10 ≤ n = ltb-false n 10 e in large n l (ih (omega arith))

  pub by_digits : (n : ℕ) → P n
  by_digits n = below (suc n) n (omega arith)

pub length-decimal-large : (n : ℕ) → 10 ≤ n → length (decimal n) ≡ suc (length (decimal (n / 10)))
length-decimal-large n h = rw (decimal-large n h, length-append) (omega arith)

pub length-decimal-some : (n : ℕ) → 1 ≤ length (decimal n)
length-decimal-some = by_digits (λ n. 1 ≤ length (decimal n)) small large
  where
    small : (n : ℕ) → n < 10 → 1 ≤ length (decimal n)
    small n h = rw (decimal-small n h) (omega arith)

    large : (n : ℕ) → 10 ≤ n → 1 ≤ length (decimal (n / 10)) → 1 ≤ length (decimal n)
    large n h ih = rw (length-decimal-large n h) (omega arith)

pub length-decimal : (k n : ℕ) → n < 10 ^ suc k → length (decimal n) ≤ suc k
length-decimal zero n h = rw (decimal-small n h) (omega arith)
length-decimal (suc k) n h = go (ltb n 10) refl (length-decimal k (n / 10))
  where
    go : (t : Bool) → ltb n 10 ≡ t → (n / 10 < 10 ^ suc k → length (decimal (n / 10)) ≤ suc k) → length (decimal n) ≤ suc (suc k)
    go true e ih = rw (decimal-small n (ltb-true n 10 e)) (omega arith)
    go false e ih =
        let tenth : length (decimal (n / 10)) ≤ suc k = ih (omega (arith, pow-suc 10 (suc k))) in
        rw (length-decimal-large n (ltb-false n 10 e)) (omega arith)

-- and k digits from 10 ^ (k - 1) on
pub length-decimal-is : (k n : ℕ) → n < 10 ^ suc k → (1 ≤ k → 10 ^ k ≤ n) → length (decimal n) ≡ suc k
length-decimal-is zero n below least = rw (decimal-small n (omega (arith, pow-suc 10 0))) refl
length-decimal-is (suc k) n below least =
    let whole : 10 * 10 ^ k ≤ n = omega (arith, pow-suc 10 k, least (omega arith)) in
    let long : 10 ≤ n = omega (arith, one-le-pow k 10 (omega arith)) in
    length-decimal-large n long
    ∙ ap (λ (j : ℕ). suc j) (length-decimal-is k (n / 10) (omega (arith, pow-suc 10 (suc k))) (λ h. omega arith))

pub length-decimal-most : (n : ℕ) → n < value_limit → length (decimal n) ≤ most_digits
length-decimal-most n h = length-decimal 9 n (omega arith)

-- the last k digits of a number, zeros in front if it has fewer
unfoldable pub final_digits : ℕ → ℕ → List ℕ
final_digits zero n = []
final_digits (suc k) n = final_digits k (n / 10) ++ ((zero_digit + n % 10) ∷ [])

pub final_digits-all : (n : ℕ) → final_digits (length (decimal n)) n ≡ decimal n
unfolding final_digits
final_digits-all = by_digits (λ n. final_digits (length (decimal n)) n ≡ decimal n) small large
  where
    small : (n : ℕ) → n < 10 → final_digits (length (decimal n)) n ≡ decimal n
    small n h = let same : n % 10 ≡ n = omega arith in rw (decimal-small n h, same)

    large : (n : ℕ) → 10 ≤ n → final_digits (length (decimal (n / 10))) (n / 10) ≡ decimal (n / 10) → final_digits (length (decimal n)) n ≡ decimal n
    large n h ih = rw (length-decimal-large n h, ih) (sym (decimal-large n h))

-- the first of some digits is one, and so are the others
pub are_digits-cons : (b : ℕ) (t : List ℕ) → are_digits (b ∷ t) ≡ true → (zero_digit ≤ b) × (b ≤ zero_digit + 9) × (are_digits t ≡ true)
unfolding are_digits
are_digits-cons b t h =
    let both = (both_true (is_digit b) (are_digits t)).0 h in
    let digit = (both_true (leb zero_digit b) (leb b (zero_digit + 9))).0 both.0 in
    (leb-true _ _ digit.0, leb-true _ _ digit.1, both.1)

-- digits from a place on, and what they stand for
pub are_digits-at : (t : List ℕ) (i : ℕ) → i < length t → are_digits (drop i t) ≡ (is_digit (get_or t i 0) && are_digits (drop (i + 1) t))
unfolding are_digits
are_digits-at t i h = rw (add-one, drop-cons t i 0 h)

pub value_after-at : (t : List ℕ) (i v : ℕ) → i < length t → value_after v (drop i t) ≡ value_after (v * 10 + (get_or t i 0 - zero_digit)) (drop (i + 1) t)
unfolding value_after
value_after-at t i v h = rw (add-one, drop-cons t i 0 h)

are_digits-append : (s t : List ℕ) → are_digits s ≡ true → are_digits (s ++ t) ≡ are_digits t
unfolding are_digits
are_digits-append [] t h = refl
are_digits-append (b ∷ s) t h =
    let both = (both_true (is_digit b) (are_digits s)).0 h in
    rw (both.0, are_digits-append s t both.1)

-- a byte below the digits is none of them
pub holds-digits : (b : ℕ) (t : List ℕ) → b < zero_digit → are_digits t ≡ true → holds b t ≡ false
unfolding holds
holds-digits b [] h d = refl
holds-digits b (a ∷ t) h d =
    let digit = are_digits-cons a t d in
    rw (ne_eqb a b (apart digit.0), holds-digits b t h digit.2)
  where
    apart : zero_digit ≤ a → ¬ (a ≡ b)
    apart l e = omega arith

is_digit-digit : (d : ℕ) → d < 10 → is_digit (zero_digit + d) ≡ true
is_digit-digit d h = rw (le-leb 48 (48 + d) (omega arith), le-leb (48 + d) 57 (omega arith))

are_digits-digit : (d : ℕ) → d < 10 → are_digits ((zero_digit + d) ∷ []) ≡ true
unfolding are_digits
are_digits-digit d h = rw (is_digit-digit d h)

pub are_digits-decimal : (n : ℕ) → are_digits (decimal n) ≡ true
are_digits-decimal = by_digits (λ n. are_digits (decimal n) ≡ true) small large
  where
    small : (n : ℕ) → n < 10 → are_digits (decimal n) ≡ true
    small n h = rw (decimal-small n h) (are_digits-digit n h)

    large : (n : ℕ) → 10 ≤ n → are_digits (decimal (n / 10)) ≡ true → are_digits (decimal n) ≡ true
    large n h ih = rw (decimal-large n h) (are_digits-append (decimal (n / 10)) _ ih ∙ are_digits-digit (n % 10) (omega arith))

value_after-append : (v : ℕ) (s t : List ℕ) → value_after v (s ++ t) ≡ value_after (value_after v s) t
unfolding value_after
value_after-append v [] t = refl
value_after-append v (b ∷ s) t = value_after-append (v * 10 + (b - zero_digit)) s t

value_after-digit : (v d : ℕ) → value_after v ((zero_digit + d) ∷ []) ≡ v * 10 + d
unfolding value_after
value_after-digit v d = omega arith

pub value_after-decimal : (n : ℕ) → value_after 0 (decimal n) ≡ n
value_after-decimal = by_digits (λ n. value_after 0 (decimal n) ≡ n) small large
  where
    small : (n : ℕ) → n < 10 → value_after 0 (decimal n) ≡ n
    small n h = rw (decimal-small n h) (value_after-digit 0 n ∙ omega arith)

    large : (n : ℕ) → 10 ≤ n → value_after 0 (decimal (n / 10)) ≡ n / 10 → value_after 0 (decimal n) ≡ n
    large n h ih = rw (decimal-large n h, value_after-append, ih, value_after-digit) (omega arith)

-- a number but 0 does not begin with the digit 0
first_decimal : (n : ℕ) → 1 ≤ n → ¬ (get_or (decimal n) 0 0 ≡ zero_digit)
first_decimal = by_digits (λ n. 1 ≤ n → ¬ (get_or (decimal n) 0 0 ≡ zero_digit)) small large
  where
    small : (n : ℕ) → n < 10 → 1 ≤ n → ¬ (get_or (decimal n) 0 0 ≡ zero_digit)
    small n h l = rw (decimal-small n h) (λ e. omega arith)

    large : (n : ℕ) → 10 ≤ n → (1 ≤ n / 10 → ¬ (get_or (decimal (n / 10)) 0 0 ≡ zero_digit)) → 1 ≤ n → ¬ (get_or (decimal n) 0 0 ≡ zero_digit)
    large n h ih l = rw (decimal-large n h, get_or-append (decimal (n / 10)) _ 0 0 (length-decimal-some (n / 10))) (ih (omega arith))

pub leading_zero-decimal : (n : ℕ) → leading_zero (decimal n) ≡ false
unfolding leading_zero
leading_zero-decimal n = go (ltb n 10) refl
  where
    go : (t : Bool) → ltb n 10 ≡ t → leading_zero (decimal n) ≡ false
    go true e = rw (decimal-small n (ltb-true n 10 e))
    go false e =
        let l : 10 ≤ n = ltb-false n 10 e in
        simp (ne_eqb _ _ (first_decimal n (omega arith)), and-false)

-- a digit behind others makes tenfold what they stand for, so they are its tenth's
pub decimal-value_after : (t : List ℕ) (v : ℕ) → 1 ≤ v → are_digits t ≡ true → decimal (value_after v t) ≡ decimal v ++ t
unfolding value_after
decimal-value_after [] v l h = sym (append-nil (decimal v))
decimal-value_after (b ∷ t) v l h =
    let digit = are_digits-cons b t h in
    let w : ℕ = v * 10 + (b - zero_digit) in
    let tenth : w / 10 ≡ v = omega (arith, digit.0, digit.1) in
    let last : zero_digit + w % 10 ≡ b = omega (arith, digit.0, digit.1) in
    decimal-value_after t w (omega arith) digit.2 ∙ rw (decimal-large w (omega arith), tenth, last, append_assoc)

-- the rule, part by part
pub record Obeyed (t : List ℕ) : Type 0 where
  pub some-digit : 1 ≤ length t
  pub few-digits : length t ≤ most_digits
  pub no-leading-zero : leading_zero t ≡ false
  pub all_digits : are_digits t ≡ true
  pub in-range : value_after 0 t < value_limit

pub is_decimal-obeyed : (t : List ℕ) → Obeyed t → is_decimal t ≡ true
unfolding is_decimal
is_decimal-obeyed t o = simp (le-leb _ _ o.some-digit, le-leb _ _ o.few-digits, o.no-leading-zero, o.all_digits, lt-ltb _ _ o.in-range)

pub obeyed-is_decimal : (t : List ℕ) → is_decimal t ≡ true → Obeyed t
unfolding is_decimal
obeyed-is_decimal t h =
    let range = (both_true (leb 1 (length t) && leb (length t) most_digits && not (leading_zero t) && are_digits t) (ltb (value_after 0 t) value_limit)).0 h in
    let digits = (both_true (leb 1 (length t) && leb (length t) most_digits && not (leading_zero t)) (are_digits t)).0 range.0 in
    let lead = (both_true (leb 1 (length t) && leb (length t) most_digits) (not (leading_zero t))).0 digits.0 in
    let lengths = (both_true (leb 1 (length t)) (leb (length t) most_digits)).0 lead.0 in
    record {
      some-digit = leb-true _ _ lengths.0;
      few-digits = leb-true _ _ lengths.1;
      no-leading-zero = not-true _ lead.1;
      all_digits = digits.1;
      in-range = ltb-true _ _ range.1;
    }

pub number_in-obeyed : (t : List ℕ) → Obeyed t → number_in t ≡ Some (value_after 0 t)
unfolding number_in
number_in-obeyed t o = rw (is_decimal-obeyed t o)

pub number_in-broken : (t : List ℕ) → ¬ Obeyed t → number_in t ≡ None
unfolding number_in
number_in-broken t h = go (is_decimal t) refl
  where
    go : (b : Bool) → is_decimal t ≡ b → number_in t ≡ None
    go true e = absurd (h (obeyed-is_decimal t e))
    go false e = rw e

pub number_in-some : (t : List ℕ) (n : ℕ) → number_in t ≡ Some n → Obeyed t × (value_after 0 t ≡ n)
unfolding number_in
number_in-some t n h = go (is_decimal t) refl
  where
    go : (b : Bool) → is_decimal t ≡ b → Obeyed t × (value_after 0 t ≡ n)
    go true e = (obeyed-is_decimal t e, let v : Some (value_after 0 t) ≡ Some n = rw e at h in cc)
    go false e = absurd (let v : None ≡ Some n = rw e at h in let z : ◌≡◌ {A = ℕ} 0 1 = cc in omega arith)

pub number_in-decimal : (n : ℕ) → n < value_limit → number_in (decimal n) ≡ Some n
number_in-decimal n h =
    number_in-obeyed (decimal n) (record {
      some-digit = length-decimal-some n;
      few-digits = length-decimal-most n h;
      no-leading-zero = leading_zero-decimal n;
      all_digits = are_digits-decimal n;
      in-range = rw value_after-decimal h;
    })
    ∙ ap Some (value_after-decimal n)

obeyed-digits : (t : List ℕ) → Obeyed t → t ≡ decimal (value_after 0 t)
unfolding leading_zero value_after
obeyed-digits [] o = absurd (let h : 1 ≤ 0 = o.some-digit in omega arith)
obeyed-digits (b ∷ []) o =
    let digit = are_digits-cons b [] o.all_digits in
    let d : ℕ = 0 + (b - zero_digit) in
    let same : zero_digit + d ≡ b = omega (arith, digit.0) in
    sym (rw (decimal-small d (omega (arith, digit.1)), same))
obeyed-digits (b ∷ c ∷ t) o =
    let digit = are_digits-cons b (c ∷ t) o.all_digits in
    let d : ℕ = 0 * 10 + (b - zero_digit) in
    let same : zero_digit + d ≡ b = omega (arith, digit.0) in
    let more : ltb 1 (length (b ∷ c ∷ t)) ≡ true = lt-ltb 1 (length (b ∷ c ∷ t)) (omega arith) in
    let first : eqb b zero_digit ≡ false = rw more at o.no-leading-zero in
    let nonzero : ¬ (b ≡ zero_digit) = eqb-false b zero_digit first in
    sym (decimal-value_after (c ∷ t) d (go nonzero digit.0) digit.2 ∙ rw (decimal-small d (omega (arith, digit.1)), same))
  where
    go : ¬ (b ≡ zero_digit) → zero_digit ≤ b → 1 ≤ 0 * 10 + (b - zero_digit)
    go n l = omega arith

pub number_in-one : (t : List ℕ) (n : ℕ) → number_in t ≡ Some n → t ≡ decimal n
number_in-one t n h = let k = number_in-some t n h in obeyed-digits t k.0 ∙ ap decimal k.1

pub number_in-below : (t : List ℕ) (n : ℕ) → number_in t ≡ Some n → n < value_limit
number_in-below t n h = let k = number_in-some t n h in rw (← k.1) k.0.in-range

pub number_in-empty : (t : List ℕ) → length t ≡ 0 → number_in t ≡ None
number_in-empty t h = number_in-broken t (λ o. omega arith)

pub number_in-long : (t : List ℕ) → most_digits < length t → number_in t ≡ None
number_in-long t h = number_in-broken t (λ o. omega arith)

pub number_in-zero : (t : List ℕ) → leading_zero t ≡ true → number_in t ≡ None
number_in-zero t h = number_in-broken t (λ o. true≢false (sym h ∙ o.no-leading-zero))

pub number_in-other : (t : List ℕ) → are_digits t ≡ false → number_in t ≡ None
number_in-other t h = number_in-broken t (λ o. true≢false (sym o.all_digits ∙ h))

pub number_in-large : (t : List ℕ) → value_limit ≤ value_after 0 t → number_in t ≡ None
number_in-large t h = number_in-broken t (λ o. omega arith)
