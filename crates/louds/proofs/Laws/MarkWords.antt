-- Marks by words of 64: what a word of them tells of the k-th mark.
--
--     mark_word                               word w of some marks
--     mark_word-lt                            it is a word
--     mark_word-ones                          its ones are the marks of its places
--     mark_word-digit, below                  a digit of it, and those below a place
--     Look, look                              of the marks of a word the left-th, where k are all marks up to it
--     look-inside                             a place of the sequence, which is the answer
--     look-past                               or one behind it, and the k-th is missing
--     none_left                               the sequence ends in a word that has too few
--     marks-ext                               the marks of the bits of one value, where these are equal
--     marks-small, onward-small               marks are 0 or 1
--     zeros-marked, ones-marked, none-marked  those of a word's zeros, of its ones, and of no bits
--     first_word                              the word of a place without what stands before it
--     next_word                               and those behind it
--     none_before                             before them there is nothing
--
-- Assumes nothing.
use Rattle.std.specs.Prelude.{None, Some}
use Rattle.std.proofs.Common.{◌≡◌, ℕ, zero, suc, ◌+◌, ◌-◌, ◌*◌, ◌/◌, ◌%◌, ◌^◌, ◌<◌, ◌≤◌, List, get_or, sym, refl, ap, ◌∙◌, zero-le, lt_of_lt_of_le, mod-eq_of_lt, add_comm, lt_of_not-le, one-add, arith, pow_pos}
use native.Mathlib.Nat.{mod-one, zero-div}
use native.Mathlib.Decide.{dec_le}
use lib.Pow.{mod-pow-add}
use lib.Count.{ones}
use Rattle.keymap.specs.Limits.{word_bits}
use Rattle.keymap.specs.Bits.{bit, sum_below, number}
use Rattle.keymap.proofs.Laws.Sums.{sum_below-zero, sum_below-suc, sum_below-add, sum_below-mono, sum_below-ext, sum_below-none}
use Rattle.keymap.proofs.Laws.Bits.{bit_in, number_lt, digit-number}
use Rattle.louds.specs.Digits.{digit, complement, above}
use Rattle.louds.specs.Rank.{gap}
use Rattle.louds.specs.Select.{kth, onward, marks}
use Rattle.louds.proofs.Laws.Rank.{gap-small, gap-ext}
use Rattle.louds.proofs.Laws.Words.{ones_low}
use Rattle.louds.proofs.Laws.Digits.{complement-digit, above_same, above_wide, shifted-low}
use Rattle.louds.proofs.Laws.Select.{kth-at, kth-none, kth-told, onward-at, onward-before}

-- ---- a word by its digits

number_digits : (x d : ℕ) → number (digit x) d ≡ x % 2 ^ d
unfolding number
number_digits x zero = sum_below-zero (λ j. digit x j * 2 ^ j) ∙ sym (mod-one x)
number_digits x (suc d) =
    sum_below-suc (λ j. digit x j * 2 ^ j) d
    ∙ ap (λ (y : ℕ). y + digit x d * 2 ^ d) (number_digits x d)
    ∙ add_comm (x % 2 ^ d) (digit x d * 2 ^ d)
    ∙ sym (ap (λ (e : ℕ). x % 2 ^ e) (sym (one-add d)) ∙ mod-pow-add x 1 d)

number-ext : (b c : ℕ → ℕ) (d : ℕ) → ((j : ℕ) → j < d → b j ≡ c j) → number b d ≡ number c d
unfolding number
number-ext b c d same = sum_below-ext (λ j. b j * 2 ^ j) (λ j. c j * 2 ^ j) d (λ j l. ap (λ (y : ℕ). y * 2 ^ j) (same j l))

abbrev pub mark_word : (ℕ → ℕ) → ℕ → ℕ
mark_word m w = number (λ t. m (w * word_bits + t)) word_bits

mark_word-ext : (m n : ℕ → ℕ) (w u : ℕ) → ((t : ℕ) → t < word_bits → m (w * word_bits + t) ≡ n (u * word_bits + t)) → mark_word m w ≡ mark_word n u
mark_word-ext m n w u same = number-ext (λ t. m (w * word_bits + t)) (λ t. n (u * word_bits + t)) word_bits same

is-mark_word : (m : ℕ → ℕ) (w x : ℕ) → x < 2 ^ word_bits → ((t : ℕ) → t < word_bits → digit x t ≡ m (w * word_bits + t)) → x ≡ mark_word m w
is-mark_word m w x wide same = sym (mod-eq_of_lt wide) ∙ sym (number_digits x word_bits) ∙ number-ext (digit x) (λ t. m (w * word_bits + t)) word_bits same

-- ---- looking into a word

module _ (m : ℕ → ℕ) (small : (i : ℕ) → m i ≤ 1) (w : ℕ) where
  pub mark_word-lt : mark_word m w < 2 ^ word_bits
  mark_word-lt = number_lt (λ t. m (w * word_bits + t)) (λ t. small (w * word_bits + t)) word_bits

  pub mark_word-digit : (t : ℕ) → t < word_bits → digit (mark_word m w) t ≡ m (w * word_bits + t)
  mark_word-digit t l = digit-number (λ j. m (w * word_bits + j)) (λ j. small (w * word_bits + j)) word_bits t l

  -- the marks below a place of the word
  pub below : (r : ℕ) → r ≤ word_bits → sum_below m (w * word_bits + r) ≡ sum_below m (w * word_bits) + sum_below (digit (mark_word m w)) r
  below r h =
      sum_below-add m (w * word_bits) r
      ∙ ap (λ (x : ℕ). sum_below m (w * word_bits) + x) (sum_below-ext (λ t. m (w * word_bits + t)) (digit (mark_word m w)) r (λ t l. sym (mark_word-digit t (lt_of_lt_of_le l h))))

  all_ones : sum_below (digit (mark_word m w)) word_bits ≡ ones (mark_word m w)
  all_ones = ones_low (mark_word m w) word_bits ∙ ap ones (mod-eq_of_lt mark_word-lt)

  pub mark_word-ones : sum_below m ((w + 1) * word_bits) ≡ sum_below m (w * word_bits) + ones (mark_word m w)
  mark_word-ones =
      let next : (w + 1) * word_bits ≡ w * word_bits + word_bits = omega arith in
      ap (sum_below m) next ∙ below word_bits (omega arith) ∙ ap (λ (x : ℕ). sum_below m (w * word_bits) + x) all_ones

  pub record Look (k p : ℕ) : Type 0 where
    pub inside : p < word_bits
    pub before : sum_below m (w * word_bits + p) < k
    pub upto : k ≤ sum_below m (w * word_bits + p) + m (w * word_bits + p)

  pub look : (left k p : ℕ) → sum_below m (w * word_bits) + left ≡ k → kth (digit (mark_word m w)) word_bits left ≡ Some p → Look k p
  look left k p sum is =
      let f = kth-told (digit (mark_word m w)) word_bits left p is in
      let sums = below p (omega (arith, f.inside)) in
      record { inside = f.inside; before = omega (arith, sums, sum, f.before); upto = omega (arith, sums, sum, mark_word-digit p f.inside, f.upto) }

  pub look-inside : (len k p : ℕ) → Look k p → p < len - w * word_bits → Some (w * word_bits + p) ≡ kth m len k
  look-inside len k p l h = sym (kth-at m len (w * word_bits + p) k (omega (arith, h)) l.before l.upto)

  pub look-past : (len k p : ℕ) → Look k p → (p < len - w * word_bits → ⊥) → None ≡ kth m len k
  look-past len k p l h = sym (kth-none m len k (omega (arith, l.before, sum_below-mono m {i = len} {j = w * word_bits + p} (omega (arith, h)))))

  pub none_left : (len k left : ℕ) → len / word_bits ≤ w → sum_below m (w * word_bits) + left ≡ k → ones (mark_word m w) < left → None ≡ kth m len k
  none_left len k left h sum few = sym (kth-none m len k (omega (arith, sum, few, mark_word-ones, sum_below-mono m {i = len} {j = (w + 1) * word_bits} (omega (arith, h)))))

-- ---- the bits of one value

pub marks-ext : (b c : ℕ → ℕ) (v i j : ℕ) → b i ≡ c j → marks b v i ≡ marks c v j
unfolding marks
marks-ext b c zero i j e = gap-ext b c i j e
marks-ext b c (suc zero) i j e = e
marks-ext b c (suc (suc v)) i j e = refl

pub marks-small : (b : ℕ → ℕ) (small : (i : ℕ) → b i ≤ 1) (v i : ℕ) → marks b v i ≤ 1
unfolding marks
marks-small b small zero i = gap-small b i
marks-small b small (suc zero) i = small i
marks-small b small (suc (suc v)) i = zero-le

pub onward-small : (m : ℕ → ℕ) (small : (i : ℕ) → m i ≤ 1) (from i : ℕ) → onward from m i ≤ 1
onward-small m small from i = go (dec_le from i)
  where
    go : Dec (from ≤ i) → onward from m i ≤ 1
    go (yes h) = omega (arith, small i, onward-at m from i h)
    go (no h) = omega (arith, onward-before m from i (lt_of_not-le h))

-- the word of a sequence, its complement, and no word at all
module _ (ws : List ℕ) (w : ℕ) where
  pub zeros-marked : get_or ws w 0 < 2 ^ word_bits → complement (get_or ws w 0) ≡ mark_word (marks (bit ws) 0) w
  unfolding marks gap
  zeros-marked wide =
      is-mark_word (gap (bit ws)) w (complement (get_or ws w 0)) (omega (arith, pow_pos word_bits))
      (λ t l. complement-digit (get_or ws w 0) t l wide ∙ ap (λ (x : ℕ). 1 - x) (sym (bit_in ws w t l)))

  pub ones-marked : get_or ws w 0 < 2 ^ word_bits → get_or ws w 0 ≡ mark_word (marks (bit ws) 1) w
  unfolding marks
  ones-marked wide = is-mark_word (bit ws) w (get_or ws w 0) wide (λ t l. sym (bit_in ws w t l))

  pub none-marked : (v : ℕ) → (v ≡ 0 → ⊥) → (v ≡ 1 → ⊥) → 0 ≡ mark_word (marks (bit ws) v) w
  unfolding marks
  none-marked zero a b = absurd (a refl)
  none-marked (suc zero) a b = absurd (b refl)
  none-marked (suc (suc v)) a b = is-mark_word (λ i. 0) w 0 (pow_pos word_bits) (λ t l. ap (λ (x : ℕ). x % 2) (zero-div (2 ^ t)))

pub first_word : (m : ℕ → ℕ) (small : (i : ℕ) → m i ≤ 1) (from : ℕ) → above (mark_word m (from / word_bits)) (from % word_bits) ≡ mark_word (onward from m) (from / word_bits)
first_word m small from = is-mark_word (onward from m) w (above x q) (above_wide x q (mark_word-lt m small w)) digits
  where
    w : ℕ
    w = from / word_bits

    q : ℕ
    q = from % word_bits

    x : ℕ
    x = mark_word m w

    digits : (t : ℕ) → t < word_bits → digit (above x q) t ≡ onward from m (w * word_bits + t)
    digits t l = go (dec_le q t)
      where
        go : Dec (q ≤ t) → digit (above x q) t ≡ onward from m (w * word_bits + t)
        go (yes h) = above_same x q t h ∙ mark_word-digit m small w t l ∙ sym (onward-at m from (w * word_bits + t) (omega (arith, h)))
        go (no h) = shifted-low (x / 2 ^ q) q t (omega arith) ∙ sym (onward-before m from (w * word_bits + t) (omega (arith, h)))

pub next_word : (m : ℕ → ℕ) (from w : ℕ) → from ≤ w * word_bits → mark_word m w ≡ mark_word (onward from m) w
next_word m from w h = mark_word-ext m (onward from m) w w (λ t l. sym (onward-at m from (w * word_bits + t) (omega (arith, h))))

pub none_before : (m : ℕ → ℕ) (from : ℕ) → sum_below (onward from m) (from / word_bits * word_bits) ≡ 0
none_before m from = sum_below-none (onward from m) (from / word_bits * word_bits) (λ j l. onward-before m from j (omega (arith, l)))
