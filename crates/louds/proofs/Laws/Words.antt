-- What the machine counts in a word, and the rank in words: the ones of a masked word are its lowest bits', counted one by one;
-- so the ones before a place are those of the whole words before it and of the lowest part of its own.
--
--     ones_bit      one digit counts itself
--     ones_low      the lowest r bits, counted one by one and as the machine counts a masked word
--     ones-in-word  the lowest part of a word more
--     ones-whole    one whole word more
--     ones-part     the whole words, and the part of the last
--     ones-beyond   beyond the last word there are no ones
--     ones-passed   so as many words are passed as there are
--     one_shl       `1 << n`
--     one-shl-pos   it is no 0
--     masked        `w & ((1 << n) - 1)`
--
-- Assumes nothing.
use Rattle.std.proofs.Common.{◌≡◌, ℕ, zero, suc, ◌+◌, ◌-◌, ◌*◌, ◌/◌, ◌%◌, ◌^◌, ◌<◌, ◌≤◌, min, List, length, get_or, sym, refl, ap, ◌∙◌, le_refl, lt_of_lt_of_le, le_of_suc-le-suc, not-suc-le-zero, le_of_lt, mod-lt, mod-eq_of_lt, zero-lt-suc, one-mul, div-add-mod', one-add, arith, lit<, pow_pos}
use native.Mathlib.Nat.{mod-one}
use native.Mathlib.Decide.{dec_le}
use lib.Pow.{pow-lt, mod-pow-add}
use lib.Bits.{bit_and, and_mask}
use lib.Count.{ones, ones_cat}
use Rattle.keymap.specs.Limits.{word_bits}
use Rattle.keymap.specs.Bits.{bit, sum_below}
use Rattle.keymap.proofs.Laws.Sums.{sum_below-zero, sum_below-suc, sum_below-add, sum_below-ext, sum_below-none}
use Rattle.keymap.proofs.Laws.Bits.{bit_in, bit-beyond}
use Rattle.louds.specs.Rank.{ones_before}

-- ---- one word

pub ones_bit : (r : ℕ) → r < 2 → ones r ≡ r
unfolding ones
ones_bit zero h = refl
ones_bit (suc zero) h = refl
ones_bit (suc (suc r)) h = absurd (not-suc-le-zero (le_of_suc-le-suc (le_of_suc-le-suc h)))

pub ones_low : (w r : ℕ) → sum_below (λ j. w / 2 ^ j % 2) r ≡ ones (w % 2 ^ r)
ones_low w zero = sum_below-zero (λ j. w / 2 ^ j % 2) ∙ sym (ap ones (mod-one w) ∙ ones_bit 0 (zero-lt-suc 1))
ones_low w (suc r) =
    let d : ℕ = w / 2 ^ r % 2 in
    let top : ones (w % 2 ^ suc r) ≡ ones d + ones (w % 2 ^ r) =
    ap (λ (x : ℕ). ones (w % 2 ^ x)) (sym (one-add r)) ∙ ap ones (mod-pow-add w 1 r) ∙ ones_cat r d (w % 2 ^ r) (mod-lt w (pow_pos r)) in
    omega (arith, top, ones_bit d (mod-lt (w / 2 ^ r) (zero-lt-suc 1)), ones_low w r, sum_below-suc (λ j. w / 2 ^ j % 2) r)

pub one_shl : (n : ℕ) → n < word_bits → (1 * 2 ^ n) % 2 ^ word_bits ≡ 2 ^ n
one_shl n h = ap (λ (x : ℕ). x % 2 ^ word_bits) (one-mul (2 ^ n)) ∙ mod-eq_of_lt (pow-lt h)

pub one-shl-pos : (n : ℕ) → n < word_bits → 1 ≤ (1 * 2 ^ n) % 2 ^ word_bits
one-shl-pos n h = rw (one_shl n h) (pow_pos n)

pub masked : (w n : ℕ) → n < word_bits → bit_and w ((1 * 2 ^ n) % 2 ^ word_bits - 1) ≡ w % 2 ^ n
masked w n h = ap (λ (x : ℕ). bit_and w (x - 1)) (one_shl n h) ∙ and_mask w n

-- ---- words

module _ (ws : List ℕ) where
  pub ones-in-word : (w r : ℕ) → r ≤ word_bits → ones_before (bit ws) (w * word_bits + r) ≡ ones_before (bit ws) (w * word_bits) + ones (get_or ws w 0 % 2 ^ r)
  ones-in-word w r h =
      sum_below-add (bit ws) (w * word_bits) r
      ∙ ap (λ (x : ℕ). ones_before (bit ws) (w * word_bits) + x)
      (sum_below-ext (λ j. bit ws (w * word_bits + j)) (λ j. get_or ws w 0 / 2 ^ j % 2) r (λ j l. bit_in ws w j (lt_of_lt_of_le l h)) ∙ ones_low (get_or ws w 0) r)

  pub ones-whole : (w : ℕ) → get_or ws w 0 < 2 ^ word_bits → ones_before (bit ws) ((w + 1) * word_bits) ≡ ones_before (bit ws) (w * word_bits) + ones (get_or ws w 0)
  ones-whole w h =
      let next : (w + 1) * word_bits ≡ w * word_bits + word_bits = omega arith in
      ap (ones_before (bit ws)) next ∙ ones-in-word w word_bits (le_refl word_bits) ∙ ap (λ (x : ℕ). ones_before (bit ws) (w * word_bits) + ones x) (mod-eq_of_lt h)

  pub ones-part : (i : ℕ) → ones_before (bit ws) i ≡ ones_before (bit ws) (i / word_bits * word_bits) + ones (get_or ws (i / word_bits) 0 % 2 ^ (i % word_bits))
  ones-part i = ap (ones_before (bit ws)) (sym (div-add-mod' i word_bits)) ∙ ones-in-word (i / word_bits) (i % word_bits) (le_of_lt (mod-lt i (lit< tt)))

  pub ones-beyond : (w i : ℕ) → length ws ≤ w → w * word_bits ≤ i → ones_before (bit ws) i ≡ ones_before (bit ws) (w * word_bits)
  ones-beyond w i out le =
      let r : ℕ = i - w * word_bits in
      let e : i ≡ w * word_bits + r = omega arith in
      let none = sum_below-none (λ j. bit ws (w * word_bits + j)) r (λ j l. bit-beyond ws (w * word_bits + j) (omega (arith, out))) in
      ap (ones_before (bit ws)) e ∙ omega (arith, sum_below-add (bit ws) (w * word_bits) r, none)

  pub ones-passed : (n i : ℕ) → n ≡ min (i / word_bits) (length ws) → ones_before (bit ws) (n * word_bits) ≡ ones_before (bit ws) (i / word_bits * word_bits)
  ones-passed n i is = go (dec_le (i / word_bits) (length ws))
    where
      go : Dec (i / word_bits ≤ length ws) → ones_before (bit ws) (n * word_bits) ≡ ones_before (bit ws) (i / word_bits * word_bits)
      go (yes h) = ap (λ (q : ℕ). ones_before (bit ws) (q * word_bits)) (omega arith)
      go (no h) = sym (ones-beyond n (i / word_bits * word_bits) (omega arith) (omega arith))
