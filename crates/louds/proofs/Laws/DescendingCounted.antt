-- The k-th one before a place, counted down, as in `Descending`, told of a walk that has counted the word it is at: of
-- its ones before the place, and of those passed.
--
--     Descended          words are passed
--     descended-first    none yet
--     descended-beyond   none yet, and those without bits left out
--     descended-fits     there are no more ones than places
--     descended-next     one more
--     descended-none     none is left
--     descended-own      the one sought is among the word's own
--     descended-near     and before the place
--     descended-at       which is the answer
--
-- Assumes nothing.
use Rattle.std.proofs.Common.{◌≡◌, ℕ, ◌+◌, ◌-◌, ◌*◌, ◌/◌, ◌%◌, ◌^◌, ◌<◌, ◌≤◌, List, length, get_or, sym, ap, ◌∙◌, zero-le, le_refl, lt_of_lt_of_le, mod-eq_of_lt, lt_of_not-le, arith}
use native.Mathlib.Nat.{mod-one, zero-mod}
use native.Mathlib.Decide.{dec_le}
use lib.ListN.{get_or-eq_default}
use lib.Count.{ones}
use Rattle.keymap.specs.Limits.{word_bits}
use Rattle.keymap.specs.Bits.{bit, sum_below}
use Rattle.keymap.proofs.Laws.Sums.{sum_below-zero, sum_below-add, sum_below-ext}
use Rattle.keymap.proofs.Laws.Bits.{bit-small, bit_in}
use Rattle.std.specs.Prelude.{None, Some}
use Rattle.louds.specs.Digits.{digit}
use Rattle.louds.specs.Select.{kth, one_back}
use Rattle.louds.proofs.Laws.Rank.{ones-zeros}
use Rattle.louds.proofs.Laws.Words.{ones-part, ones-whole, ones-beyond}
use Rattle.louds.proofs.Laws.Digits.{digit-mod, digit-mod-none, ones-few}
use Rattle.louds.proofs.Laws.Select.{kth-at, kth-zero, kth-told, Found}

-- words are passed downwards to word w, whose `wide` lowest bits, which stand before the place, are x; with its ones `seen` are counted, and the k-th is not among those of the words passed
pub record Descended (ws : List ℕ) (from k w x seen : ℕ) : Type 0 where
  pub inside : w ≤ from / word_bits
  pub known : w ≤ length ws
  pub wide : ℕ
  pub narrow : wide ≤ word_bits
  pub ends : w * word_bits + wide ≤ from
  pub word : x ≡ get_or ws w 0 % 2 ^ wide
  pub sum : sum_below (bit ws) (w * word_bits) + seen ≡ sum_below (bit ws) from
  pub own : seen < k + ones x

module _ (ws : List ℕ) (from k : ℕ) where
  pub descended-first : (x : ℕ) → 0 < k → from / word_bits ≤ length ws → x ≡ get_or ws (from / word_bits) 0 % 2 ^ (from % word_bits) → Descended ws from k (from / word_bits) x (ones x)
  descended-first x h l is = record {
    inside = le_refl (from / word_bits);
    known = l;
    wide = from % word_bits;
    narrow = omega arith;
    ends = omega arith;
    word = is;
    sum = omega (arith, ones-part ws from, ap ones is);
    own = omega (arith, h);
  }

  pub descended-beyond : (x : ℕ) → 0 < k → length ws ≤ from / word_bits → x ≡ get_or ws (from / word_bits) 0 % 2 ^ (from % word_bits) → Descended ws from k (length ws) x (ones x)
  descended-beyond x h l is = record {
    inside = l;
    known = le_refl (length ws);
    wide = 0;
    narrow = zero-le;
    ends = omega (arith, l);
    word = none ∙ sym (mod-one (get_or ws (length ws) 0));
    sum = omega (arith, ones-beyond ws (length ws) from (le_refl (length ws)) (omega (arith, l)), ap ones none, ones-few 0 0);
    own = omega (arith, h);
  }
    where
      none : x ≡ 0
      none = is ∙ ap (λ (y : ℕ). y % 2 ^ (from % word_bits)) (get_or-eq_default ws 0 l) ∙ zero-mod (2 ^ (from % word_bits))

  module _ (w x seen : ℕ) (d : Descended ws from k w x seen) where
    pub descended-fits : seen ≤ from
    descended-fits = omega (arith, d.sum, ones-zeros (bit ws) (bit-small ws) from)

    pub descended-next : (y : ℕ) → 1 ≤ w → seen < k → y < 2 ^ word_bits → y ≡ get_or ws (w - 1) 0 → Descended ws from k (w - 1) y (seen + ones y)
    descended-next y h few small is = record {
      inside = omega (arith, d.inside);
      known = omega (arith, d.known);
      wide = word_bits;
      narrow = le_refl word_bits;
      ends = omega (arith, d.inside, h);
      word = is ∙ sym (mod-eq_of_lt (omega (arith, is, small)));
      sum =
          let back : sum_below (bit ws) ((w - 1 + 1) * word_bits) ≡ sum_below (bit ws) (w * word_bits) = ap (λ (u : ℕ). sum_below (bit ws) (u * word_bits)) (omega arith) in
          omega (arith, ones-whole ws (w - 1) (omega (arith, is, small)), ap ones is, back, d.sum);
      own = omega (arith, few);
    }

    pub descended-none : w ≡ 0 → seen < k → None ≡ one_back (bit ws) from k
    descended-none z few =
        let start : sum_below (bit ws) (w * word_bits) ≡ 0 = ap (λ (u : ℕ). sum_below (bit ws) (u * word_bits)) z ∙ sum_below-zero (bit ws) in
        let short : sum_below (bit ws) from + 1 - k ≡ 0 = omega (arith, d.sum, start, few) in
        sym (ap (kth (bit ws) from) short ∙ kth-zero (bit ws) from)

    -- the k-th from the end is one of the word's own
    pub descended-own : 0 < k → k ≤ seen → (0 < seen - (k - 1)) × (seen - (k - 1) ≤ ones x)
    descended-own h enough = (omega (arith, h, enough), omega (arith, h, enough, d.own))

    module _ (p : ℕ) (h : 0 < k) (enough : k ≤ seen) (is : kth (digit x) word_bits (seen - (k - 1)) ≡ Some p) where
      f : Found (digit x) word_bits (seen - (k - 1)) p
      f = kth-told (digit x) word_bits (seen - (k - 1)) p is

      within : p < d.wide
      within = go (dec_le d.wide p)
        where
          go : Dec (d.wide ≤ p) → p < d.wide
          go (yes l) = absurd (omega (arith, f.before, f.upto, ap (λ (y : ℕ). digit y p) d.word ∙ digit-mod-none (get_or ws w 0) d.wide p l))
          go (no l) = lt_of_not-le l

      here : (t : ℕ) → t < d.wide → digit x t ≡ bit ws (w * word_bits + t)
      here t l = ap (λ (y : ℕ). digit y t) d.word ∙ digit-mod (get_or ws w 0) d.wide t l ∙ sym (bit_in ws w t (lt_of_lt_of_le l d.narrow))

      pub descended-near : w * word_bits + p < from
      descended-near = omega (arith, within, d.ends)

      pub descended-at : Some (w * word_bits + p) ≡ one_back (bit ws) from k
      descended-at =
          let below = sum_below-add (bit ws) (w * word_bits) p ∙ ap (λ (y : ℕ). sum_below (bit ws) (w * word_bits) + y) (sym (sum_below-ext (digit x) (λ t. bit ws (w * word_bits + t)) p (λ t l. here t (omega (arith, l, within))))) in
          sym
          (kth-at (bit ws) from (w * word_bits + p) (sum_below (bit ws) from + 1 - k) descended-near (omega (arith, below, f.before, d.sum, h, enough))
          (omega (arith, below, f.upto, here p within, d.sum, h, enough)))
