-- The digits of words: of `and`, `or`, complements, shifts and masks, how many ones there are below a place, and the lowest one.
--
--     digit-small, -either              a digit is 0 or 1
--     digit-first, -half, -shr, ..      of a shifted word
--     digit_and, -or, and_both, ..      of two words
--     complement-digit                  of the complement
--     digit-mod, -mod-none              of a masked word
--     above-all, -same, -end, ..        of a word without its lowest digits
--     ones-few, -step, -flat, -run, ..  the ones below a place
--     trailing-low, -even, -odd         the zeros below the lowest one
--     power-and                         the digit at one place
--     some-positive, cleared-less       a word without its lowest one
--     Turn, turn                        one turn of a walk over the ones of a word
-- Assumes nothing.
use Rattle.std.proofs.Common.{◌≡◌, ℕ, zero, suc, ◌+◌, ◌-◌, ◌*◌, ◌/◌, ◌%◌, ◌^◌, ◌<◌, ◌≤◌, min, max, ◌⊎◌, sym, refl, ap, ◌∙◌, ap₂, inl, inr, ⊎_elim, lt_of_lt_of_le, add-zero, mod-lt, mul_assoc, mul_comm, add-mul, one-mul, pow-suc, mul-one, div-one, one-add, arith, pow_pos, pow_mono, pow-add, shr-shr}
use native.Mathlib.Nat.{zero-div, div-eq_of_lt, mod_self}
use native.Mathlib.Decide.{dec_le}
use lib.Pow.{pow-lt, split, shl-shr, mod-mod-pow, field, high}
use lib.Bits.{bit_and, bit_or, bit_xor, and_step, or_step, and_shr, or_shr, and_block, xor_block, and_self, xor_self, and_comm, and_mask, and_zero_l, and_le_r, xor_zero_r, shifted_even}
use lib.Count.{ones, ones-le, count_trailing_zeros, under}
use Rattle.keymap.specs.Limits.{word_bits}
use Rattle.keymap.proofs.Laws.Sums.{sum_below-suc}
use Rattle.louds.specs.Digits.{digit, complement, above}
use Rattle.louds.proofs.Laws.Words.{ones_low}

pub digit-small : (x t : ℕ) → digit x t ≤ 1
digit-small x t = omega arith

pub digit-either : (x t : ℕ) → (digit x t ≡ 1) ⊎ (digit x t ≡ 0)
digit-either x t = go (digit x t) (digit-small x t)
  where
    go : (d : ℕ) → d ≤ 1 → (d ≡ 1) ⊎ (d ≡ 0)
    go zero h = inr refl
    go (suc zero) h = inl refl
    go (suc (suc d)) h = absurd (omega arith)

-- ---- of two words

and-parity : (a b : ℕ) → bit_and a b % 2 ≡ min (a % 2) (b % 2)
and-parity a b = go (a % 2) (b % 2) (omega arith) (omega arith) (and_step a b)
  where
    go : (d e : ℕ) → d ≤ 1 → e ≤ 1 → bit_and a b ≡ bit_and (a / 2) (b / 2) * 2 + min d e → bit_and a b % 2 ≡ min d e
    go zero e h k s = omega arith
    go (suc zero) zero h k s = omega arith
    go (suc zero) (suc zero) h k s = omega arith
    go (suc (suc d)) e h k s = absurd (omega arith)
    go (suc zero) (suc (suc e)) h k s = absurd (omega arith)

or-parity : (a b : ℕ) → bit_or a b % 2 ≡ max (a % 2) (b % 2)
or-parity a b = go (a % 2) (b % 2) (omega arith) (omega arith) (or_step a b)
  where
    go : (d e : ℕ) → d ≤ 1 → e ≤ 1 → bit_or a b ≡ bit_or (a / 2) (b / 2) * 2 + max d e → bit_or a b % 2 ≡ max d e
    go zero zero h k s = omega arith
    go zero (suc zero) h k s = omega arith
    go (suc zero) zero h k s = omega arith
    go (suc zero) (suc zero) h k s = omega arith
    go (suc (suc d)) e h k s = absurd (omega arith)
    go zero (suc (suc e)) h k s = absurd (omega arith)
    go (suc zero) (suc (suc e)) h k s = absurd (omega arith)

pub digit_and : (a b t : ℕ) → digit (bit_and a b) t ≡ min (digit a t) (digit b t)
digit_and a b t = ap (λ (x : ℕ). x % 2) (and_shr a b t) ∙ and-parity (a / 2 ^ t) (b / 2 ^ t)

pub digit_or : (a b t : ℕ) → digit (bit_or a b) t ≡ max (digit a t) (digit b t)
digit_or a b t = ap (λ (x : ℕ). x % 2) (or_shr a b t) ∙ or-parity (a / 2 ^ t) (b / 2 ^ t)

pub and_both : (a b t : ℕ) → digit a t ≡ 1 → digit b t ≡ 1 → digit (bit_and a b) t ≡ 1
and_both a b t h k = digit_and a b t ∙ ap₂ min h k

pub and_none : (a b t : ℕ) → digit a t ≡ 0 → digit (bit_and a b) t ≡ 0
and_none a b t h = digit_and a b t ∙ ap (λ (x : ℕ). min x (digit b t)) h ∙ omega arith

pub and-none-r : (a b t : ℕ) → digit b t ≡ 0 → digit (bit_and a b) t ≡ 0
and-none-r a b t h = digit_and a b t ∙ ap (min (digit a t)) h ∙ omega arith

pub and_one : (a b t : ℕ) → digit (bit_and a b) t ≡ 1 → (digit a t ≡ 1) × (digit b t ≡ 1)
and_one a b t h = (
  ⊎_elim (λ e. e) (λ e. absurd (omega (arith, and_none a b t e))) (digit-either a t),
  ⊎_elim (λ e. e) (λ e. absurd (omega (arith, and-none-r a b t e))) (digit-either b t),
)

-- ---- of one word

pub digit-shr : (x s t : ℕ) → digit (x / 2 ^ s) t ≡ digit x (s + t)
digit-shr x s t = ap (λ (y : ℕ). y % 2) (shr-shr x s t)

pub digit-half : (x t : ℕ) → digit x (suc t) ≡ digit (x / 2) t
digit-half x t = ap (digit x) (sym (one-add t)) ∙ sym (digit-shr x 1 t)

pub digit-first : (x : ℕ) → digit x 0 ≡ x % 2
digit-first x = ap (λ (y : ℕ). y % 2) (div-one x)

-- beyond its length a number has no digits
pub digit-beyond : (x k : ℕ) → x < 2 ^ k → digit x k ≡ 0
digit-beyond x k h = ap (λ (y : ℕ). y % 2) (div-eq_of_lt h)

complement-below : (k t x : ℕ) → t < k → x < 2 ^ k → digit (2 ^ k - 1 - x) t ≡ 1 - digit x t
complement-below zero t x l h = absurd (omega arith)
complement-below (suc k) zero x l h =
    let e : 2 ^ suc k ≡ 2 ^ k * 2 = pow-suc 2 k in
    let p : 0 < 2 ^ k = pow_pos k in
    digit-first (2 ^ suc k - 1 - x) ∙ omega (arith, e, p, digit-first x, h)
complement-below (suc k) (suc t) x l h =
    let e : 2 ^ suc k ≡ 2 ^ k * 2 = pow-suc 2 k in
    let half : (2 ^ suc k - 1 - x) / 2 ≡ 2 ^ k - 1 - x / 2 = omega (arith, e, h) in
    digit-half (2 ^ suc k - 1 - x) t ∙ ap (λ (y : ℕ). digit y t) half ∙ complement-below k t (x / 2) (omega arith) (omega (arith, e, h))
    ∙ ap (λ (y : ℕ). 1 - y) (sym (digit-half x t))

pub complement-digit : (x t : ℕ) → t < word_bits → x < 2 ^ word_bits → digit (complement x) t ≡ 1 - digit x t
complement-digit x t l h = complement-below word_bits t x l h

pub digit-mod : (x d t : ℕ) → t < d → digit (x % 2 ^ d) t ≡ digit x t
digit-mod x d t h =
    let r : ℕ = d - t - 1 in
    let e : d ≡ (r + 1) + t = omega arith in
    ap (λ (n : ℕ). x % 2 ^ n / 2 ^ t % 2) e ∙ ap (λ (n : ℕ). n % 2) (field x (r + 1) t) ∙ mod-mod-pow (x / 2 ^ t) r 1

pub digit-mod-none : (x d t : ℕ) → d ≤ t → digit (x % 2 ^ d) t ≡ 0
digit-mod-none x d t h = ap (λ (y : ℕ). y % 2) (div-eq_of_lt (lt_of_lt_of_le (mod-lt x (pow_pos d)) (pow_mono {i = d} {j = t} h)))

-- a multiple of 2 ^ q
pub shifted-high : (a q d : ℕ) → a * 2 ^ q / 2 ^ (q + d) ≡ a / 2 ^ d
shifted-high a q d = sym (shr-shr (a * 2 ^ q) q d) ∙ ap (λ (y : ℕ). y / 2 ^ d) (shl-shr a q)

pub shifted-low : (a q t : ℕ) → t < q → digit (a * 2 ^ q) t ≡ 0
shifted-low a q t h =
    let k : ℕ = q - t - 1 in
    let e : q ≡ suc k + t = omega arith in
    let s : a * 2 ^ q ≡ a * 2 ^ suc k * 2 ^ t = ap (λ (n : ℕ). a * 2 ^ n) e ∙ ap (λ (y : ℕ). a * y) (pow-add 2 (suc k) t) ∙ sym (mul_assoc a (2 ^ suc k) (2 ^ t)) in
    ap (λ (y : ℕ). y / 2 ^ t % 2) s ∙ ap (λ (y : ℕ). y % 2) (shl-shr (a * 2 ^ suc k) t) ∙ shifted_even a k

-- ---- a word without its lowest digits

pub above-all : (z : ℕ) → z ≡ above z 0
above-all z = sym (mul-one (z / 1) ∙ div-one z)

pub above_same : (z q t : ℕ) → q ≤ t → digit (above z q) t ≡ digit z t
above_same z q t h =
    let d : ℕ = t - q in
    let e : t ≡ q + d = omega arith in
    ap (digit (above z q)) e ∙ ap (λ (y : ℕ). y % 2) (shifted-high (z / 2 ^ q) q d) ∙ digit-shr z q d ∙ ap (digit z) (sym e)

-- from a lower place and then from this one
pub above-above : (z q s : ℕ) → q ≤ s → above (above z q) s ≡ above z s
above-above z q s h =
    let d : ℕ = s - q in
    let e : s ≡ q + d = omega arith in
    ap (λ (y : ℕ). y * 2 ^ s) (ap (λ (n : ℕ). above z q / 2 ^ n) e ∙ shifted-high (z / 2 ^ q) q d ∙ shr-shr z q d ∙ ap (λ (n : ℕ). z / 2 ^ n) (sym e))

-- nothing is left: the digits from the place on are 0
pub above-end : (z q t : ℕ) → above z q ≡ 0 → q ≤ t → digit z t ≡ 0
above-end z q t none l = sym (above_same z q t l) ∙ ap (λ (y : ℕ). digit y t) none ∙ ap (λ (y : ℕ). y % 2) (zero-div (2 ^ t))

pub above_wide : (z q : ℕ) → z < 2 ^ word_bits → above z q < 2 ^ word_bits
above_wide z q h = omega (arith, split z q, h)

-- a one below s goes with the s lowest digits
pub above-less : (y t s : ℕ) → t < s → digit y t ≡ 1 → above y s < y
above-less y t s l one = go (y % 2 ^ s) refl
  where
    go : (r : ℕ) → y % 2 ^ s ≡ r → above y s < y
    go zero e = absurd (omega (arith, one, sym (digit-mod y s t l) ∙ ap (λ (u : ℕ). digit u t) e ∙ ap (λ (u : ℕ). u % 2) (zero-div (2 ^ t))))
    go (suc r) e = omega (arith, split y s, e)

-- ---- the ones below a place

pub ones-few : (x q : ℕ) → ones (x % 2 ^ q) ≤ q
ones-few x q = ones-le q (x % 2 ^ q) (mod-lt x (pow_pos q))

pub ones_step : (x t : ℕ) → ones (x % 2 ^ suc t) ≡ ones (x % 2 ^ t) + digit x t
ones_step x t = sym (ones_low x (suc t)) ∙ sum_below-suc (λ j. x / 2 ^ j % 2) t ∙ ap (λ (y : ℕ). y + digit x t) (ones_low x t)

pub ones-flat : (x t q : ℕ) → q ≤ t → ((j : ℕ) → q ≤ j → j < t → digit x j ≡ 0) → ones (x % 2 ^ t) ≡ ones (x % 2 ^ q)
ones-flat x zero q l h = let e : 0 ≡ q = omega arith in ap (λ (n : ℕ). ones (x % 2 ^ n)) e
ones-flat x (suc t) q l h = go (dec_le q t) (λ k. ones-flat x t q k (λ j a b. h j a (omega arith)))
  where
    go : Dec (q ≤ t) → (q ≤ t → ones (x % 2 ^ t) ≡ ones (x % 2 ^ q)) → ones (x % 2 ^ suc t) ≡ ones (x % 2 ^ q)
    go (yes k) ih = omega (arith, ones_step x t, h t k (omega arith), ih k)
    go (no k) ih = let e : suc t ≡ q = omega arith in ap (λ (n : ℕ). ones (x % 2 ^ n)) e

pub ones-run : (x t r : ℕ) → ((j : ℕ) → j < r → digit x (t + j) ≡ 1) → ones (x % 2 ^ (t + r)) ≡ ones (x % 2 ^ t) + r
ones-run x t zero h = let e : t + 0 ≡ t = omega arith in ap (λ (n : ℕ). ones (x % 2 ^ n)) e ∙ omega arith
ones-run x t (suc r) h =
    let e : t + suc r ≡ suc (t + r) = omega arith in
    ap (λ (n : ℕ). ones (x % 2 ^ n)) e ∙ omega (arith, ones_step x (t + r), h r (omega arith), ones-run x t r (λ j l. h j (omega arith)))

pub ones-grow : (x t r : ℕ) → ones (x % 2 ^ (t + r)) ≤ ones (x % 2 ^ t) + r
ones-grow x t zero = let e : t + 0 ≡ t = omega arith in let f : ones (x % 2 ^ (t + 0)) ≡ ones (x % 2 ^ t) = ap (λ (n : ℕ). ones (x % 2 ^ n)) e in omega (arith, f)
ones-grow x t (suc r) =
    let e : t + suc r ≡ suc (t + r) = omega arith in
    let f : ones (x % 2 ^ (t + suc r)) ≡ ones (x % 2 ^ suc (t + r)) = ap (λ (n : ℕ). ones (x % 2 ^ n)) e in
    omega (arith, f, ones_step x (t + r), digit-small x (t + r), ones-grow x t r)

-- ---- the lowest one

pub trailing-low : (k x t : ℕ) → t < count_trailing_zeros k x → digit x t ≡ 0
unfolding count_trailing_zeros
trailing-low zero x t h = absurd (omega arith)
trailing-low (suc k) x t h = go (x % 2) refl t h (λ s l. trailing-low k (x / 2) s l)
  where
    go : (d : ℕ) → x % 2 ≡ d → (s : ℕ) → s < under d (count_trailing_zeros k (x / 2)) → ((r : ℕ) → r < count_trailing_zeros k (x / 2) → digit (x / 2) r ≡ 0) → digit x s ≡ 0
    go zero e zero l ih = digit-first x ∙ e
    go zero e (suc s) l ih = digit-half x s ∙ ih s (omega arith)
    go (suc d) e s l ih = absurd (omega arith)

pub trailing_even : (k x : ℕ) → 0 < k → x % 2 ≡ 0 → 1 ≤ count_trailing_zeros k x
unfolding count_trailing_zeros
trailing_even zero x h e = absurd (omega arith)
trailing_even (suc k) x h e = rw e (omega arith)

-- a number that is not 0 is an odd one, shifted by its trailing zeros
pub record Odd (k x t : ℕ) : Type 0 where
  pub half : ℕ
  pub inside : t < k
  pub whole : x ≡ (half * 2 + 1) * 2 ^ t

pub trailing_odd : (k x : ℕ) → 0 < x → x < 2 ^ k → Odd k x (count_trailing_zeros k x)
unfolding count_trailing_zeros
trailing_odd zero x p h = absurd (omega (arith, p, h))
trailing_odd (suc k) x p h = go (x % 2) refl (λ q l. trailing_odd k (x / 2) q l)
  where
    e : 2 ^ suc k ≡ 2 ^ k * 2
    e = pow-suc 2 k

    go : (d : ℕ) → x % 2 ≡ d → (0 < x / 2 → x / 2 < 2 ^ k → Odd k (x / 2) (count_trailing_zeros k (x / 2))) → Odd (suc k) x (under d (count_trailing_zeros k (x / 2)))
    go zero z ih =
        let o = ih (omega arith) (omega (arith, e, h)) in
        record {
          half = o.half;
          inside = omega (arith, o.inside);
          whole =
              let twice : (o.half * 2 + 1) * 2 ^ suc (count_trailing_zeros k (x / 2)) ≡ (o.half * 2 + 1) * 2 ^ count_trailing_zeros k (x / 2) * 2 =
              ap (λ (y : ℕ). (o.half * 2 + 1) * y) (pow-suc 2 (count_trailing_zeros k (x / 2))) ∙ sym (mul_assoc (o.half * 2 + 1) (2 ^ count_trailing_zeros k (x / 2)) 2) in
              omega (arith, o.whole, twice);
        }
    go (suc zero) z ih = record { half = x / 2; inside = omega arith; whole = let w : x ≡ x / 2 * 2 + 1 = omega arith in w ∙ sym (mul-one (x / 2 * 2 + 1)) }
    go (suc (suc d)) z ih = absurd (omega arith)

pub power-and : (t y : ℕ) → bit_and (2 ^ t) y ≡ digit y t * 2 ^ t
power-and t y =
    let p : 2 ^ t ≡ 1 * 2 ^ t + 0 = omega arith in
    ap₂ bit_and p (sym (split y t))
    ∙ and_block t 1 (y / 2 ^ t) 0 (y % 2 ^ t) (pow_pos t) (mod-lt y (pow_pos t))
    ∙ ap₂ (λ (u v : ℕ). u * 2 ^ t + v) (and_comm 1 (y / 2 ^ t) ∙ and_mask (y / 2 ^ t) 1) (and_zero_l (y % 2 ^ t))
    ∙ add-zero (digit y t * 2 ^ t)

pub some-positive : (x : ℕ) → (x ≡ 0 → ⊥) → 0 < x
some-positive zero h = absurd (h refl)
some-positive (suc r) h = omega arith

pub cleared-less : (x : ℕ) → (x ≡ 0 → ⊥) → bit_and x (x - 1) < x
cleared-less x h = omega (arith, some-positive x h, and_le_r x (x - 1))

-- one turn of a walk over the ones of z, of which `rest` has those from place q on: the place of the lowest of them, and the rest without it
pub record Turn (z q rest : ℕ) : Type 0 where
  pub place : ℕ
  pub is-lowest : count_trailing_zeros word_bits rest ≡ place
  pub inside : place < word_bits
  pub from : q ≤ place
  pub one : digit z place ≡ 1
  pub none : (j : ℕ) → q ≤ j → j < place → digit z j ≡ 0
  pub next : bit_and rest (rest - 1) ≡ above z (suc place)
  pub flag : bit_xor rest (bit_and rest (rest - 1)) ≡ 2 ^ place

pub turn : (z q rest : ℕ) → rest ≡ above z q → (rest ≡ 0 → ⊥) → rest < 2 ^ word_bits → Turn z q rest
turn z q rest is some wide = made (trailing_odd word_bits rest (some-positive rest some) wide)
  where
    made : Odd word_bits rest (count_trailing_zeros word_bits rest) → Turn z q rest
    made o = record {
      place = t;
      is-lowest = refl;
      inside = o.inside;
      from = low;
      one = sym (above_same z q t low) ∙ ap (λ (y : ℕ). digit y t) (sym is) ∙ here;
      none = λ j lo hi. sym (above_same z q j lo) ∙ ap (λ (y : ℕ). digit y j) (sym is) ∙ trailing-low word_bits rest j hi;
      next = cleared ∙ ap (λ (y : ℕ). y * 2 ^ suc t) same;
      flag = ap (bit_xor rest) cleared ∙ ap (λ (y : ℕ). bit_xor y (a * 2 ^ suc t)) split ∙ only;
    }
      where
        t : ℕ
        t = count_trailing_zeros word_bits rest

        a : ℕ
        a = o.half

        here : digit rest t ≡ 1
        here = ap (λ (y : ℕ). y / 2 ^ t % 2) o.whole ∙ ap (λ (y : ℕ). y % 2) (shl-shr (a * 2 + 1) t) ∙ omega arith

        low : q ≤ t
        low = go (dec_le q t)
          where
            go : Dec (q ≤ t) → q ≤ t
            go (yes h) = h
            go (no h) = absurd (omega (arith, here, ap (λ (y : ℕ). digit y t) is ∙ shifted-low (z / 2 ^ q) q t (omega arith)))

        twice : 2 ^ suc t ≡ 2 ^ t * 2
        twice = pow-suc 2 t

        split : rest ≡ a * 2 ^ suc t + 2 ^ t
        split =
            let p : (a * 2 + 1) * 2 ^ t ≡ a * (2 ^ t * 2) + 2 ^ t = regroup a (2 ^ t) in
            o.whole ∙ p ∙ ap (λ (y : ℕ). a * y + 2 ^ t) (sym twice)
          where
            regroup : (u v : ℕ) → (u * 2 + 1) * v ≡ u * (v * 2) + v
            regroup u v = add-mul (u * 2) 1 v ∙ ap₂ (λ (x y : ℕ). x + y) (mul_assoc u 2 v ∙ ap (λ (x : ℕ). u * x) (mul_comm 2 v)) (one-mul v)

        less : 2 ^ t < 2 ^ suc t
        less = pow-lt (omega arith)

        cleared : bit_and rest (rest - 1) ≡ a * 2 ^ suc t
        cleared =
            let p : 0 < 2 ^ t = pow_pos t in
            let minus : rest - 1 ≡ a * 2 ^ suc t + (2 ^ t - 1) = omega (arith, split, p) in
            ap₂ bit_and split minus
            ∙ and_block (suc t) a a (2 ^ t) (2 ^ t - 1) less (omega (arith, less))
            ∙ ap₂ (λ (u v : ℕ). u * 2 ^ suc t + v) (and_self a) (and_mask (2 ^ t) t ∙ own)
            ∙ add-zero (a * 2 ^ suc t)
          where
            own : 2 ^ t % 2 ^ t ≡ 0
            own = mod_self (2 ^ t)

        only : bit_xor (a * 2 ^ suc t + 2 ^ t) (a * 2 ^ suc t) ≡ 2 ^ t
        only =
            ap (bit_xor (a * 2 ^ suc t + 2 ^ t)) (sym (add-zero (a * 2 ^ suc t)))
            ∙ xor_block (suc t) a a (2 ^ t) 0 less (pow_pos (suc t))
            ∙ ap₂ (λ (u v : ℕ). u * 2 ^ suc t + v) (xor_self a) (xor_zero_r (2 ^ t))
            ∙ omega arith

        same : a ≡ z / 2 ^ suc t
        same =
            let d : ℕ = suc t - q in
            let e : suc t ≡ q + d = omega (arith, low) in
            sym (high a (suc t) less)
            ∙ ap (λ (y : ℕ). y / 2 ^ suc t) (sym split ∙ is)
            ∙ ap (λ (n : ℕ). z / 2 ^ q * 2 ^ q / 2 ^ n) e
            ∙ shifted-high (z / 2 ^ q) q d ∙ shr-shr z q d ∙ ap (λ (n : ℕ). z / 2 ^ n) (sym e)
