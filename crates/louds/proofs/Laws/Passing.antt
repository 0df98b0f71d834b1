-- The k-th bit of one value from a place on: words are passed by their count, and the one that has it is looked into; beyond the last word all bits are zeros.
--
--     nothing-behind  from its end on a sequence has nothing
--     zeros-beyond    beyond the last word the bits are zeros
--     Passed          words are passed
--     passed_first    none yet
--     passed-next     one more
--     passed-short    the sequence ends in a word that has too few
--     passed-out      the words end
--     passed-at       the word has it
--     passed-past     but behind the sequence's end
--     near_none, near-inside, near-at, near-past  the same in the word of the place alone
--     zeros-at, zeros-short, no-zeros  where all bits are zeros
--
-- Assumes nothing.
use Rattle.std.specs.Prelude.{None, Some}
use Rattle.std.proofs.Common.{◌≡◌, ℕ, zero, suc, ◌+◌, ◌-◌, ◌*◌, ◌/◌, ◌%◌, ◌^◌, ◌<◌, ◌≤◌, min, List, length, sym, refl, ap, ◌∙◌, ⊎_elim, zero-le, le_refl, lt_of_lt_of_le, mod-lt, mod-eq_of_lt, eq-zero-or-pos, lt_of_not-le, arith, pow_pos}
use native.Mathlib.Nat.{min-le_right}
use native.Mathlib.Decide.{dec_le}
use lib.Count.{ones}
use Rattle.keymap.specs.Limits.{word_bits}
use Rattle.keymap.specs.Bits.{bit, sum_below}
use Rattle.keymap.proofs.Laws.Sums.{sum_below-mono, sum_below-none}
use Rattle.keymap.proofs.Laws.Bits.{bit-small, bit-beyond}
use Rattle.louds.specs.Digits.{digit, above}
use Rattle.louds.specs.Select.{kth, onward, marks, bit_from}
use Rattle.louds.proofs.Laws.Rank.{gap-zero, ones-zeros}
use Rattle.louds.proofs.Laws.Digits.{above_wide}
use Rattle.louds.proofs.Laws.Select.{kth-bare, kth-at, kth-none, kth-zero, kth-ext, kth-onward, sum_below-onward, onward-at, onward-before}
use Rattle.louds.proofs.Laws.NthOne.{has-fewer}
use Rattle.louds.proofs.Laws.MarkWords.{mark_word, mark_word-lt, mark_word-ones, Look, look, look-inside, look-past, none_left, marks-ext, marks-small, onward-small, first_word, next_word, none_before}

-- ---- one value, from a place on

going_on : (m : ℕ → ℕ) (len from k a left : ℕ) → from ≤ a → 0 < left → sum_below (onward from m) a + left ≡ k → kth (onward a m) len left ≡ kth (onward from m) len k
going_on m len from k a left h some sum =
    kth-onward m a len left some
    ∙ ap (kth m len) (omega (arith, sum_below-onward m from a h, sum))
    ∙ sym (kth-onward m from len k (omega (arith, some, sum)))

-- from its end on a sequence has nothing
pub nothing-behind : (ws : List ℕ) (len v from k : ℕ) → len ≤ from → None ≡ bit_from (bit ws) len v from k
nothing-behind ws len v from k h = sym (kth-bare (onward from (marks (bit ws) v)) len k (λ i l. onward-before (marks (bit ws) v) from i (lt_of_lt_of_le l h)))

pub zeros-beyond : (ws : List ℕ) (len v a k : ℕ) → length ws ≤ a / word_bits → bit_from (λ i. 0) len v a k ≡ bit_from (bit ws) len v a k
zeros-beyond ws len v a k h = kth-ext (onward a (marks (λ i. 0) v)) (onward a (marks (bit ws) v)) len k (λ j l. same j (dec_le a j))
  where
    same : (j : ℕ) → Dec (a ≤ j) → onward a (marks (λ i. 0) v) j ≡ onward a (marks (bit ws) v) j
    same j (yes l) =
        onward-at (marks (λ i. 0) v) a j l
        ∙ marks-ext (λ i. 0) (bit ws) v j j (sym (bit-beyond ws j (omega (arith, h, l))))
        ∙ sym (onward-at (marks (bit ws) v) a j l)
    same j (no l) = onward-before (marks (λ i. 0) v) a j (lt_of_not-le l) ∙ sym (onward-before (marks (bit ws) v) a j (lt_of_not-le l))

-- ---- the k-th bit of one value from a place on, by words

-- words are passed up to word w, whose marks are x, and the one sought is the left-th of those that follow
pub record Passed (ws : List ℕ) (len v from k w x left : ℕ) : Type 0 where
  pub behind : from / word_bits ≤ w
  pub inside : w ≤ len / word_bits
  pub word : x ≡ mark_word (onward from (marks (bit ws) v)) w
  pub some : 0 < left
  pub sum : sum_below (onward from (marks (bit ws) v)) (w * word_bits) + left ≡ k

module _ (ws : List ℕ) (len v from k : ℕ) where
  abbrev sought : ℕ → ℕ
  sought = onward from (marks (bit ws) v)

  sought-small : (i : ℕ) → sought i ≤ 1
  sought-small i = onward-small (marks (bit ws) v) (marks-small (bit ws) (bit-small ws) v) from i

  -- the bits before the place are shifted out of its word
  first_marks : (x : ℕ) → x ≡ mark_word (marks (bit ws) v) (from / word_bits) → x / 2 ^ (from % word_bits) * 2 ^ (from % word_bits) % 2 ^ word_bits ≡ mark_word sought (from / word_bits)
  first_marks x is =
      ap (λ (y : ℕ). above y (from % word_bits) % 2 ^ word_bits) is
      ∙ mod-eq_of_lt (above_wide (mark_word (marks (bit ws) v) (from / word_bits)) (from % word_bits) (mark_word-lt (marks (bit ws) v) (marks-small (bit ws) (bit-small ws) v) (from / word_bits)))
      ∙ first_word (marks (bit ws) v) (marks-small (bit ws) (bit-small ws) v) from

  pub passed_first : (x : ℕ) → from < len → 0 < k → x ≡ mark_word (marks (bit ws) v) (from / word_bits)
      → Passed ws len v from k (from / word_bits) (x / 2 ^ (from % word_bits) * 2 ^ (from % word_bits) % 2 ^ word_bits) k
  passed_first x l h is = record {
    behind = le_refl (from / word_bits);
    inside = omega (arith, l);
    word = first_marks x is;
    some = h;
    sum = omega (arith, none_before (marks (bit ws) v) from);
  }

  module _ (w x left : ℕ) (p : Passed ws len v from k w x left) where
    same-ones : ones x ≡ ones (mark_word sought w)
    same-ones = ap ones p.word

    pub passed-next : (y rest : ℕ) → w < len / word_bits → 0 < rest → rest + ones x ≡ left → y ≡ mark_word (marks (bit ws) v) (w + 1) → Passed ws len v from k (w + 1) y rest
    passed-next y rest l h fewer is = record {
      behind = omega (arith, p.behind);
      inside = omega (arith, l);
      word = is ∙ next_word (marks (bit ws) v) from (w + 1) (omega (arith, p.behind));
      some = h;
      sum = omega (arith, mark_word-ones sought sought-small w, same-ones, fewer, p.sum);
    }

    -- the sequence ends in a word that has too few
    pub passed-short : len / word_bits ≤ w → ones x < left → None ≡ bit_from (bit ws) len v from k
    passed-short h few = none_left sought sought-small w len k left h p.sum (omega (arith, few, same-ones))

    -- the words end
    pub passed-out : (rest : ℕ) → length ws ≤ w + 1 → 0 < rest → rest + ones x ≡ left → bit_from (λ i. 0) len v ((w + 1) * word_bits) rest ≡ bit_from (bit ws) len v from k
    passed-out rest h l fewer =
        zeros-beyond ws len v ((w + 1) * word_bits) rest (omega (arith, h))
        ∙ going_on (marks (bit ws) v) len from k ((w + 1) * word_bits) rest (omega (arith, p.behind)) l (omega (arith, mark_word-ones sought sought-small w, same-ones, fewer, p.sum))

    -- the word has it
    module _ (t : ℕ) (is : kth (digit x) word_bits left ≡ Some t) where
      looked : Look sought sought-small w k t
      looked = look sought sought-small w left k t p.sum (ap (λ (y : ℕ). kth (digit y) word_bits left) (sym p.word) ∙ is)

      pub passed-at : t < len - w * word_bits → Some (w * word_bits + t) ≡ bit_from (bit ws) len v from k
      passed-at h = look-inside sought sought-small w len k t looked h

      pub passed-past : (t < len - w * word_bits → ⊥) → None ≡ bit_from (bit ws) len v from k
      passed-past h = look-past sought sought-small w len k t looked h

  -- the same in the word of the place alone
  module _ (x : ℕ) (is : x ≡ mark_word (marks (bit ws) v) (from / word_bits)) where
    abbrev first : ℕ
    first = x / 2 ^ (from % word_bits) * 2 ^ (from % word_bits) % 2 ^ word_bits

    abbrev end : ℕ
    end = min len ((from / word_bits + 1) * word_bits)

    pub near_none : None ≡ kth (digit first) word_bits k → None ≡ bit_from (bit ws) end v from k
    near_none none = sym (⊎_elim (λ z. ap (kth sought end) z ∙ kth-zero sought end) few (eq-zero-or-pos k))
      where
        few : 0 < k → kth sought end k ≡ None
        few some =
            let fewer = has-fewer first k (mod-lt (x / 2 ^ (from % word_bits) * 2 ^ (from % word_bits)) (pow_pos word_bits)) some none in
            let ends = sum_below-mono sought {i = end} {j = (from / word_bits + 1) * word_bits} (min-le_right len ((from / word_bits + 1) * word_bits)) in
            kth-none sought end k (omega (arith, fewer, ends, ap ones (first_marks x is), mark_word-ones sought sought-small (from / word_bits), none_before (marks (bit ws) v) from))

    module _ (p : ℕ) (at : kth (digit first) word_bits k ≡ Some p) where
      looked-near : Look sought sought-small (from / word_bits) k p
      looked-near =
          look sought sought-small (from / word_bits) k k p (omega (arith, none_before (marks (bit ws) v) from)) (ap (λ (y : ℕ). kth (digit y) word_bits k) (sym (first_marks x is)) ∙ at)

      pub near-inside : p < word_bits
      near-inside = looked-near.inside

      pub near-at : from / word_bits * word_bits + p < len → Some (from / word_bits * word_bits + p) ≡ bit_from (bit ws) end v from k
      near-at h = look-inside sought sought-small (from / word_bits) end k p looked-near (omega (arith, h, near-inside))

      pub near-past : (from / word_bits * word_bits + p < len → ⊥) → None ≡ bit_from (bit ws) end v from k
      near-past h = look-past sought sought-small (from / word_bits) end k p looked-near (λ l. omega (arith, h, l, near-inside))

-- ---- where all bits are zeros

zero-marks : (i : ℕ) → sum_below (marks (λ j. 0) 0) i ≡ i
unfolding marks
zero-marks i = omega (arith, ones-zeros (λ j. 0) (λ j. zero-le) i, sum_below-none (λ j. 0) i (λ j l. refl))

zero-mark : (i : ℕ) → marks (λ j. 0) 0 i ≡ 1
unfolding marks
zero-mark i = gap-zero (λ j. 0) i refl

pub zeros-at : (len v from k : ℕ) → v ≡ 0 → 0 < k → k ≤ len - from → Some (from + (k - 1)) ≡ bit_from (λ i. 0) len v from k
zeros-at len v from k zeros some h =
    let m = marks (λ j. 0) 0 in
    rw zeros
    (sym
    (kth-onward m from len k some
    ∙ kth-at m len (from + (k - 1)) (sum_below m from + k) (omega (arith, some, h)) (omega (arith, some, zero-marks from, zero-marks (from + (k - 1))))
    (omega (arith, some, zero-marks from, zero-marks (from + (k - 1)), zero-mark (from + (k - 1))))))

pub zeros-short : (len v from k : ℕ) → v ≡ 0 → 0 < k → len - from < k → None ≡ bit_from (λ i. 0) len v from k
zeros-short len v from k zeros some h =
    let m = marks (λ j. 0) 0 in
    rw zeros (sym (kth-onward m from len k some ∙ kth-none m len (sum_below m from + k) (omega (arith, some, h, zero-marks from, zero-marks len))))

no-mark : (v : ℕ) → (v ≡ 0 → ⊥) → (i : ℕ) → marks (λ j. 0) v i ≡ 0
unfolding marks
no-mark zero h i = absurd (h refl)
no-mark (suc zero) h i = refl
no-mark (suc (suc v)) h i = refl

pub no-zeros : (len v from k : ℕ) → (v ≡ 0 → ⊥) → None ≡ bit_from (λ i. 0) len v from k
no-zeros len v from k other = sym (kth-bare (onward from (marks (λ i. 0) v)) len k (λ i l. bare i (dec_le from i)))
  where
    bare : (i : ℕ) → Dec (from ≤ i) → onward from (marks (λ j. 0) v) i ≡ 0
    bare i (yes h) = onward-at (marks (λ j. 0) v) from i h ∙ no-mark v other i
    bare i (no h) = onward-before (marks (λ j. 0) v) from i (lt_of_not-le h)
