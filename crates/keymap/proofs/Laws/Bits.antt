-- Bits packed into words and read back. A word is told by its 64 digits, and a pack's digits are the bits that were packed;
-- so packing and unpacking undo each other where bits are 0 or 1, words below 2^64 and unused bits 0.
--
--     high-none       a number without digits from a place on is 0 there
--     bit-small       a bit is at most 1
--     bit-either      so it is 1 or 0
--     bit_in          a bit by its word and its place in the word
--     bit-beyond      beyond the last word every bit is 0
--     words-ext       words of one length with the same bits are the same
--     length-table    how many f a table has
--     get_or-table    which
--     number_lt       d digits make a number below 2^d
--     digit-number    its digits
--     length-pack     how many words a pack has
--     pack-lt         each below 2^64
--     bit-pack        its bits are those that were packed
--     length-unpack   how many bits
--     get_or-unpack   which
--     unpack-small    each at most 1
--     unpack-pack     what was packed is read back
--     pack-unpack     words whose unused bits are 0 are the pack of their first n bits
--
-- Assumes nothing.
use mathlib.Core.Path.{◌≡◌, refl, sym, ap, ap₂, ◌∙◌, subst}
use mathlib.Core.Logic.{◌⊎◌, inl, inr, ⊎_elim}
use mathlib.Core.List.{List}
use Prim.Native.Nat.{ℕ, zero, suc, ◌+◌, ◌-◌, ◌*◌, ◌/◌, ◌%◌, ◌^◌, ◌≤◌, ◌<◌, zero-le}
use native.Mathlib.Nat.{le_trans, le-suc, le_of_suc-le-suc, not-suc-le-zero, zero-lt-suc, lt-suc_self, lt_of_le_of_lt, eq-or-lt_of_le, mod-lt, mod-eq_of_lt, mod-one, add_comm, add-zero, zero-add, zero-div, zero-mod}
use native.Mathlib.Decide.{dec_lt}
use native.Mathlib.Numerals.{one-add}
use native.Mathlib.Omega.{arith}
use lib.Dec.{lit<}
use lib.Arith.{digits_lt, digits_div, digits_mod}
use lib.ListN.{length, get_or, get_or-eq_default}
use lib.Seq.{ext_get_or}
use lib.Pow.{pow_pos, pow-add, mod-pow-add, mod-mod-pow, shr_mod, shr-shr, field, high, low}
use Rattle.keymap.specs.Limits.{word_bits}
use Rattle.keymap.specs.Bits.{bit, sum_below, table, number, words_for, pack, unpack}
use Rattle.keymap.proofs.Laws.Sums.{sum_below-suc}

-- ---- digits

-- a digit below d is a digit of the d lowest
digit_low : (x d j : ℕ) → j < d → x % 2 ^ d / 2 ^ j % 2 ≡ x / 2 ^ j % 2
digit_low x d j h =
    let r : ℕ = d - j - 1 in
    let e : d ≡ (r + 1) + j = omega arith in
    ap (λ (n : ℕ). x % 2 ^ n / 2 ^ j % 2) e ∙ ap (λ (n : ℕ). n % 2) (field x (r + 1) j) ∙ mod-mod-pow (x / 2 ^ j) r 1

-- numbers of d digits are told apart by their digits
digits-ext : (x y d : ℕ) → ((j : ℕ) → j < d → x / 2 ^ j % 2 ≡ y / 2 ^ j % 2) → x % 2 ^ d ≡ y % 2 ^ d
digits-ext x y zero h = mod-one x ∙ sym (mod-one y)
digits-ext x y (suc d) h =
    ap (λ (n : ℕ). x % 2 ^ n) (sym (one-add d))
    ∙ mod-pow-add x 1 d
    ∙ ap₂ (λ (p q : ℕ). p * 2 ^ d + q) (h d (lt-suc_self d)) (digits-ext x y d (λ j l. h j (le_trans l (le-suc d))))
    ∙ sym (mod-pow-add y 1 d)
    ∙ ap (λ (n : ℕ). y % 2 ^ n) (one-add d)

-- a number of r + u digits without any from u on is 0 there
pub high-none : (x u r : ℕ) → x < 2 ^ (r + u) → ((j : ℕ) → j < r → x / 2 ^ (u + j) % 2 ≡ 0) → x / 2 ^ u ≡ 0
high-none x u r l h =
    sym (shr_mod r u l)
    ∙ digits-ext (x / 2 ^ u) 0 r (λ j b. ap (λ (y : ℕ). y % 2) (shr-shr x u j) ∙ h j b ∙ sym (ap (λ (y : ℕ). y % 2) (zero-div (2 ^ j))))
    ∙ zero-mod (2 ^ r)

-- ---- bits of words

pub bit-small : (ws : List ℕ) (i : ℕ) → bit ws i ≤ 1
unfolding bit
bit-small ws i = le_of_suc-le-suc (mod-lt (get_or ws (i / word_bits) 0 / 2 ^ (i % word_bits)) (zero-lt-suc 1))

pub bit-either : (ws : List ℕ) (i : ℕ) → (bit ws i ≡ 1) ⊎ (bit ws i ≡ 0)
bit-either ws i = go (bit ws i) (bit-small ws i)
  where
    go : (x : ℕ) → x ≤ 1 → (x ≡ 1) ⊎ (x ≡ 0)
    go zero h = inr refl
    go (suc zero) h = inl refl
    go (suc (suc x)) h = absurd (omega arith)

pub bit_in : (ws : List ℕ) (w j : ℕ) → j < word_bits → bit ws (w * word_bits + j) ≡ get_or ws w 0 / 2 ^ j % 2
unfolding bit
bit_in ws w j h = rw (digits_div w h, digits_mod w h)

pub bit-beyond : (ws : List ℕ) (i : ℕ) → length ws ≤ i / word_bits → bit ws i ≡ 0
unfolding bit
bit-beyond ws i h = ap (λ (x : ℕ). x / 2 ^ (i % word_bits) % 2) (get_or-eq_default ws 0 h) ∙ ap (λ (x : ℕ). x % 2) (zero-div (2 ^ (i % word_bits)))

pub words-ext : (ws vs : List ℕ) → length ws ≡ length vs → ((w : ℕ) → get_or ws w 0 < 2 ^ word_bits) → ((w : ℕ) → get_or vs w 0 < 2 ^ word_bits)
    → ((i : ℕ) → bit ws i ≡ bit vs i) → ws ≡ vs
words-ext ws vs l ws-lt vs-lt same =
    ext_get_or 0 ws vs l
    (λ w h. sym (mod-eq_of_lt (ws-lt w)) ∙ digits-ext (get_or ws w 0) (get_or vs w 0) word_bits (λ j b. sym (bit_in ws w j b) ∙ same (w * word_bits + j) ∙ bit_in vs w j b) ∙ mod-eq_of_lt (vs-lt w))

-- ---- tables

pub length-table : (f : ℕ → ℕ) (i n : ℕ) → length (table f i n) ≡ n
unfolding table
length-table f i zero = refl
length-table f i (suc n) = ap suc (length-table f (suc i) n)

pub get_or-table : (f : ℕ → ℕ) (i n w : ℕ) → w < n → get_or (table f i n) w 0 ≡ f (i + w)
unfolding table
get_or-table f i zero w h = absurd (not-suc-le-zero h)
get_or-table f i (suc n) zero h = ap f (sym (add-zero i))
get_or-table f i (suc n) (suc w) h = get_or-table f (suc i) n w (le_of_suc-le-suc h) ∙ ap f (omega arith)

-- ---- numbers of d digits

module _ (b : ℕ → ℕ) (small : (j : ℕ) → b j ≤ 1) where
  number-suc : (d : ℕ) → number b (suc d) ≡ b d * 2 ^ d + number b d
  unfolding number
  number-suc d = sum_below-suc (λ j. b j * 2 ^ j) d ∙ add_comm (sum_below (λ j. b j * 2 ^ j) d) (b d * 2 ^ d)

  pub number_lt : (d : ℕ) → number b d < 2 ^ d
  unfolding number sum_below
  number_lt zero = lit< tt
  number_lt (suc d) =
      subst (λ (x : ℕ). x < 2 ^ suc d) (sym (number-suc d))
      (subst (λ (x : ℕ). b d * 2 ^ d + number b d < x) (sym (pow-add 2 1 d) ∙ ap (λ (n : ℕ). 2 ^ n) (one-add d)) (digits_lt (lt_of_le_of_lt (small d) (lit< tt)) (number_lt d)))

  pub digit-number : (d j : ℕ) → j < d → number b d / 2 ^ j % 2 ≡ b j
  digit-number zero j h = absurd (not-suc-le-zero h)
  digit-number (suc d) j h = ⊎_elim top (λ l. rest l (digit-number d j l)) (eq-or-lt_of_le (le_of_suc-le-suc h))
    where
      top : j ≡ d → number b (suc d) / 2 ^ j % 2 ≡ b j
      top e =
          ap (λ (n : ℕ). number b (suc d) / 2 ^ n % 2) e ∙ ap (λ (x : ℕ). x / 2 ^ d % 2) (number-suc d) ∙ ap (λ (x : ℕ). x % 2) (high (b d) d (number_lt d))
          ∙ mod-eq_of_lt (lt_of_le_of_lt (small d) (lit< tt)) ∙ ap b (sym e)

      rest : j < d → number b d / 2 ^ j % 2 ≡ b j → number b (suc d) / 2 ^ j % 2 ≡ b j
      rest l ih =
          sym (digit_low (number b (suc d)) d j l)
          ∙ ap (λ (x : ℕ). x / 2 ^ j % 2) (ap (λ (x : ℕ). x % 2 ^ d) (number-suc d) ∙ low (b d) d (number_lt d))
          ∙ ih

-- ---- packing

pub length-pack : (xs : List ℕ) → length (pack xs) ≡ words_for (length xs)
unfolding pack
length-pack xs = length-table (λ w. number (λ j. get_or xs (w * word_bits + j) 0) word_bits) 0 (words_for (length xs))

get_or-pack : (xs : List ℕ) (w : ℕ) → w < words_for (length xs) → get_or (pack xs) w 0 ≡ number (λ j. get_or xs (w * word_bits + j) 0) word_bits
unfolding pack
get_or-pack xs w h =
    get_or-table (λ q. number (λ j. get_or xs (q * word_bits + j) 0) word_bits) 0 (words_for (length xs)) w h
    ∙ ap (λ (q : ℕ). number (λ j. get_or xs (q * word_bits + j) 0) word_bits) (zero-add w)

module _ (xs : List ℕ) (small : (i : ℕ) → get_or xs i 0 ≤ 1) where
  pub pack-lt : (w : ℕ) → get_or (pack xs) w 0 < 2 ^ word_bits
  pack-lt w = go (dec_lt w (words_for (length xs)))
    where
      go : Dec (w < words_for (length xs)) → get_or (pack xs) w 0 < 2 ^ word_bits
      go (yes h) = rw (get_or-pack xs w h) (number_lt (λ j. get_or xs (w * word_bits + j) 0) (λ j. small (w * word_bits + j)) word_bits)
      go (no h) = let out : length (pack xs) ≤ w = omega (arith, length-pack xs) in rw (get_or-eq_default (pack xs) 0 out) (pow_pos word_bits)

  pub bit-pack : (i : ℕ) → bit (pack xs) i ≡ get_or xs i 0
  unfolding bit
  bit-pack i = go (dec_lt (i / word_bits) (words_for (length xs)))
    where
      go : Dec (i / word_bits < words_for (length xs)) → bit (pack xs) i ≡ get_or xs i 0
      go (yes h) =
          ap (λ (x : ℕ). x / 2 ^ (i % word_bits) % 2) (get_or-pack xs (i / word_bits) h)
          ∙ digit-number (λ j. get_or xs (i / word_bits * word_bits + j) 0) (λ j. small (i / word_bits * word_bits + j)) word_bits (i % word_bits) (mod-lt i (lit< tt))
          ∙ ap (λ (n : ℕ). get_or xs n 0) (omega arith)
      go (no h) = bit-beyond (pack xs) i (omega (arith, length-pack xs)) ∙ sym (get_or-eq_default xs 0 (omega arith))

-- ---- and back

pub length-unpack : (n : ℕ) (ws : List ℕ) → length (unpack n ws) ≡ n
unfolding unpack
length-unpack n ws = length-table (bit ws) 0 n

pub get_or-unpack : (n : ℕ) (ws : List ℕ) (i : ℕ) → i < n → get_or (unpack n ws) i 0 ≡ bit ws i
unfolding unpack
get_or-unpack n ws i h = get_or-table (bit ws) 0 n i h ∙ ap (bit ws) (zero-add i)

get_or-unpack-beyond : (n : ℕ) (ws : List ℕ) (i : ℕ) → n ≤ i → get_or (unpack n ws) i 0 ≡ 0
get_or-unpack-beyond n ws i h = get_or-eq_default (unpack n ws) 0 (omega (arith, length-unpack n ws))

pub unpack-small : (n : ℕ) (ws : List ℕ) (i : ℕ) → get_or (unpack n ws) i 0 ≤ 1
unpack-small n ws i = go (dec_lt i n)
  where
    go : Dec (i < n) → get_or (unpack n ws) i 0 ≤ 1
    go (yes h) = rw (get_or-unpack n ws i h) (bit-small ws i)
    go (no h) = rw (get_or-unpack-beyond n ws i (omega arith)) zero-le

pub unpack-pack : (xs : List ℕ) → ((i : ℕ) → get_or xs i 0 ≤ 1) → unpack (length xs) (pack xs) ≡ xs
unpack-pack xs small =
    let l = length-unpack (length xs) (pack xs) in
    ext_get_or 0 (unpack (length xs) (pack xs)) xs l (λ i h. get_or-unpack (length xs) (pack xs) i (omega arith) ∙ bit-pack xs small i)

pub pack-unpack : (n : ℕ) (ws : List ℕ) → length ws ≡ words_for n → ((w : ℕ) → get_or ws w 0 < 2 ^ word_bits) → ((i : ℕ) → n ≤ i → bit ws i ≡ 0) → pack (unpack n ws) ≡ ws
pack-unpack n ws l ws-lt unused =
    words-ext (pack (unpack n ws)) ws
    (length-pack (unpack n ws) ∙ ap words_for (length-unpack n ws) ∙ sym l)
    (pack-lt (unpack n ws) (unpack-small n ws))
    ws-lt
    (λ i. bit-pack (unpack n ws) (unpack-small n ws) i ∙ go i (dec_lt i n))
  where
    go : (i : ℕ) → Dec (i < n) → get_or (unpack n ws) i 0 ≡ bit ws i
    go i (yes h) = get_or-unpack n ws i h
    go i (no h) = get_or-unpack-beyond n ws i (omega arith) ∙ sym (unused i (omega arith))
