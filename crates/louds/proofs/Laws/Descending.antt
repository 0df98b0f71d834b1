-- The k-th one before a place, counted down: words are passed by their count, and the one that has it is looked into.
--
--     Descended          words are passed
--     descended-first    none yet
--     descended-beyond   none yet, and those without bits left out
--     descended-none     none is left
--     descended-fits     there are no more ones than places
--     descended-next     one more
--     descended-near     the one sought is before the place
--     descended-at       and is the answer
--
-- Assumes nothing.
use Rattle.std.specs.Prelude.{None, Some}
use Rattle.std.proofs.Common.{◌≡◌, ℕ, ◌+◌, ◌-◌, ◌*◌, ◌/◌, ◌%◌, ◌^◌, ◌<◌, ◌≤◌, List, length, get_or, sym, refl, ap, ◌∙◌, le_refl, lt_of_lt_of_le, mod-lt, lt_of_not-le, arith, lit<}
use native.Mathlib.Decide.{dec_le}
use lib.Bits.{bit_and, and_mask}
use lib.Count.{ones}
use Rattle.keymap.specs.Limits.{word_bits}
use Rattle.keymap.specs.Bits.{bit, sum_below}
use Rattle.keymap.proofs.Laws.Sums.{sum_below-zero, sum_below-add, sum_below-ext}
use Rattle.keymap.proofs.Laws.Bits.{bit-small, bit_in}
use Rattle.louds.specs.Digits.{digit}
use Rattle.louds.specs.Select.{kth, one_back}
use Rattle.louds.proofs.Laws.Rank.{ones-zeros}
use Rattle.louds.proofs.Laws.Words.{ones-in-word, ones-beyond, one_shl}
use Rattle.louds.proofs.Laws.Digits.{digit-mod, digit-mod-none}
use Rattle.louds.proofs.Laws.Select.{kth-at, kth-zero, kth-told, Found}

-- words are passed downwards, and w are left; `seen` ones are counted, those from the place `until` on, and of the last word that is left
-- the `wide` lowest bits stand before it, which are the ones of `kept`
pub record Descended (ws : List ℕ) (from k w kept seen : ℕ) : Type 0 where
  pub until : ℕ
  pub wide : ℕ
  pub narrow : wide ≤ word_bits
  pub ends : until + word_bits ≡ w * word_bits + wide
  pub within : until ≤ from
  pub mask : kept ≡ 2 ^ wide - 1
  pub sum : sum_below (bit ws) until + seen ≡ sum_below (bit ws) from
  pub few : seen < k

module _ (ws : List ℕ) (from k : ℕ) where
  pub descended-first : 0 < k → Descended ws from k (from / word_bits + 1) (1 * 2 ^ (from % word_bits) % 2 ^ word_bits - 1) 0
  descended-first h = record {
    until = from;
    wide = from % word_bits;
    narrow = omega arith;
    ends = omega arith;
    within = le_refl from;
    mask = ap (λ (y : ℕ). y - 1) (one_shl (from % word_bits) (mod-lt from (lit< tt)));
    sum = omega arith;
    few = h;
  }

  pub descended-beyond : 0 < k → length ws ≤ from / word_bits → Descended ws from k (length ws) (2 ^ word_bits - 1) 0
  descended-beyond h l = record {
    until = length ws * word_bits;
    wide = word_bits;
    narrow = le_refl word_bits;
    ends = refl;
    within = omega (arith, l);
    mask = refl;
    sum = omega (arith, ones-beyond ws (length ws) from (le_refl (length ws)) (omega (arith, l)));
    few = h;
  }

  module _ (w kept seen : ℕ) (d : Descended ws from k w kept seen) where
    pub descended-none : w ≡ 0 → None ≡ one_back (bit ws) from k
    descended-none z =
        let start : sum_below (bit ws) d.until ≡ 0 = ap (sum_below (bit ws)) (omega (arith, d.ends, d.narrow, z)) ∙ sum_below-zero (bit ws) in
        let short : sum_below (bit ws) from + 1 - k ≡ 0 = omega (arith, d.sum, start, d.few) in
        sym (ap (kth (bit ws) from) short ∙ kth-zero (bit ws) from)

    -- the n ones x of the next word that are kept
    module _ (x n : ℕ) (more : 0 < w) (is : x ≡ bit_and (get_or ws (w - 1) 0) kept) (count : n ≡ ones x) where
      word : x ≡ get_or ws (w - 1) 0 % 2 ^ d.wide
      word = is ∙ ap (bit_and (get_or ws (w - 1) 0)) d.mask ∙ and_mask (get_or ws (w - 1) 0) d.wide

      ends : (w - 1) * word_bits + d.wide ≡ d.until
      ends = omega (arith, d.ends, more)

      counted : sum_below (bit ws) ((w - 1) * word_bits) + (seen + n) ≡ sum_below (bit ws) from
      counted = omega (arith, ap (sum_below (bit ws)) ends, ones-in-word ws (w - 1) d.wide d.narrow, ap ones word, count, d.sum)

      pub descended-fits : seen + n ≤ from
      descended-fits = omega (arith, counted, ones-zeros (bit ws) (bit-small ws) from)

      pub descended-next : seen + n < k → Descended ws from k (w - 1) (2 ^ word_bits - 1) (seen + n)
      descended-next h = record {
        until = (w - 1) * word_bits;
        wide = word_bits;
        narrow = le_refl word_bits;
        ends = refl;
        within = omega (arith, ends, d.within);
        mask = refl;
        sum = counted;
        few = h;
      }

      module _ (p : ℕ) (enough : k ≤ seen + n) (at : kth (digit x) word_bits (seen + n - (k - 1)) ≡ Some p) where
        f : Found (digit x) word_bits (seen + n - (k - 1)) p
        f = kth-told (digit x) word_bits (seen + n - (k - 1)) p at

        inside : p < d.wide
        inside = go (dec_le d.wide p)
          where
            go : Dec (d.wide ≤ p) → p < d.wide
            go (yes l) = absurd (omega (arith, f.before, f.upto, ap (λ (y : ℕ). digit y p) word ∙ digit-mod-none (get_or ws (w - 1) 0) d.wide p l))
            go (no l) = lt_of_not-le l

        here : (t : ℕ) → t < d.wide → digit x t ≡ bit ws ((w - 1) * word_bits + t)
        here t l = ap (λ (y : ℕ). digit y t) word ∙ digit-mod (get_or ws (w - 1) 0) d.wide t l ∙ sym (bit_in ws (w - 1) t (lt_of_lt_of_le l d.narrow))

        pub descended-near : (w - 1) * word_bits + p < from
        descended-near = omega (arith, inside, ends, d.within)

        pub descended-at : Some ((w - 1) * word_bits + p) ≡ one_back (bit ws) from k
        descended-at =
            let below = sum_below-add (bit ws) ((w - 1) * word_bits) p ∙ ap (λ (y : ℕ). sum_below (bit ws) ((w - 1) * word_bits) + y) (sym (sum_below-ext (digit x) (λ t. bit ws ((w - 1) * word_bits + t)) p (λ t l. here t (omega (arith, l, inside))))) in
            sym
            (kth-at (bit ws) from ((w - 1) * word_bits + p) (sum_below (bit ws) from + 1 - k) descended-near (omega (arith, below, f.before, counted, d.few, enough))
            (omega (arith, below, f.upto, here p inside, counted, d.few, enough)))
