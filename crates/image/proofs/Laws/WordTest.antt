-- The test word by word is the pass. At each place of the words the three tests of a word ask what the pass asks of a bit there, besides the entries
-- and the count of the ones.
--
--     zeros_of-part, -whole   the zeros, by how much of the word is left
--     word_fits-parents, ..   a word, by the first test that fails
--     Place                   what is asked at a place of the sequence
--     word-told, word_made    a word asks it of each of its places
--     at-inside, word-inside what a word's tests read is there
--     last_before-first, ..  the word before, by the place
--     count-stop             the pass counts the ones
--     entries-stop           and looks at each entry
--     words-pass             and at the words
-- Assumes nothing.
use mathlib.Core.Path.{◌≡◌, refl, sym, ap, ap₂, ◌∙◌, subst}
use mathlib.Core.Logic.{⊎_elim}
use mathlib.Core.List.{List}
use mathlib.Core.Bool.{Bool, true, false, ◌&&◌}
use Prim.Native.Nat.{ℕ, zero, suc, ◌+◌, ◌-◌, ◌*◌, ◌/◌, ◌%◌, ◌^◌, ◌≤◌, ◌<◌, max}
use native.Mathlib.Nat.{mod-lt, lt_of_lt_of_le}
use native.Mathlib.Decide.{dec_lt}
use native.Mathlib.Omega.{arith}
use lib.ListN.{length, get_or}
use lib.Dec.{lit<}
use lib.Pow.{pow_pos, pow_mono, shl-shr, shr_lt}
use lib.Bits.{bit_and, or_lt}
use lib.Count.{ones}
use borrow.Author.Tests.{le-leb, leb-true, lt-ltb, le-ltb, ltb-true}
use Rattle.keymap.specs.Limits.{word_bits}
use Rattle.keymap.specs.Label.{mark}
use Rattle.keymap.specs.Bits.{bit, sum_below}
use Rattle.keymap.specs.Image.{Image, bits_for}
use Rattle.keymap.proofs.Laws.Sums.{sum_below-zero, sum_below-suc, sum_below-add, sum_below-mono, sum_below-ext}
use Rattle.keymap.proofs.Laws.Bits.{bit-small, bit-either, bit_in}
use Rattle.louds.specs.Rank.{gap, ones_before, zeros_before}
use Rattle.louds.proofs.Laws.Rank.{ones-zeros, gap-zero}
use Rattle.louds.proofs.Laws.Words.{ones_low, ones-in-word}
use Rattle.louds.specs.Digits.{digit, complement}
use Rattle.louds.proofs.Laws.Digits.{digit-either, digit-half, digit-shr, digit-beyond, digit_or, digit-mod, digit-mod-none, complement-digit, shifted-low, and_both, and_one}
use Rattle.image.specs.AcceptTest.{entry_fits, labels_rise, childless_fits, passes_from}
use Rattle.image.specs.Meaning.{as_image}
use Rattle.image.specs.WordTest.{all_below, entries_fit, parent_at, sibling_at, leaf_at, zeros_of, prev_of, last_before, word_fits, word_at, WordInside, CountedWords, Framed}
use Rattle.image.proofs.Laws.AcceptTest.{labels_rise-is, bit_fits-one, bit_fits-closing, bit_fits-childless}
use Rattle.image.proofs.Laws.BitTests.{both, one_fits-made, entry_fits-told, entry_fits-made}
use Rattle.image.proofs.Laws.Passed.{FitsAfter, passes-told, passes-made, Passed, passed-small, passed-plain, one-after, start-same}
use Rattle.image.proofs.Laws.AllBelow.{both_ways, false-by, not-both, all_made, all_told}
use Rattle.image.proofs.Laws.WordWalks.{parent-off, parent-at, sibling-off, sibling-at, leaf-flag-off, leaf-at}

-- ---- the bits before, and the zeros

module _ (x last : ℕ) (wide : last < 2 ^ word_bits) where
  last-small : last / 2 ^ 63 < 2
  last-small = shr_lt 1 63 wide

  prev-first : digit (prev_of x last) 0 ≡ digit last 63
  prev-first =
      digit_or (x * 2 ^ 1 % 2 ^ word_bits) (last / 2 ^ 63) 0
      ∙ ap₂ max (digit-mod (x * 2 ^ 1) word_bits 0 (omega arith) ∙ shifted-low x 1 0 (omega arith)) (digit-shr last 63 0)
      ∙ omega arith

  prev-next : (t : ℕ) → suc t < word_bits → digit (prev_of x last) (suc t) ≡ digit x t
  prev-next t h =
      let none : digit (last / 2 ^ 63) (suc t) ≡ 0 = digit-beyond (last / 2 ^ 63) (suc t) (lt_of_lt_of_le last-small (pow_mono {i = 1} {j = suc t} (omega arith))) in
      digit_or (x * 2 ^ 1 % 2 ^ word_bits) (last / 2 ^ 63) (suc t)
      ∙ ap₂ max (digit-mod (x * 2 ^ 1) word_bits (suc t) h ∙ digit-half (x * 2 ^ 1) t ∙ ap (λ (y : ℕ). digit y t) (shl-shr x 1)) none
      ∙ omega arith

  prev-wide : prev_of x last < 2 ^ word_bits
  prev-wide = or_lt word_bits (x * 2 ^ 1 % 2 ^ word_bits) (last / 2 ^ 63) (mod-lt (x * 2 ^ 1) (pow_pos word_bits)) (lt_of_lt_of_le last-small (pow_mono {i = 1} {j = word_bits} (omega arith)))

pub zeros_of-part : (x left : ℕ) → left < word_bits → zeros_of x left ≡ complement x % 2 ^ left
unfolding zeros_of
zeros_of-part x left h = rw (lt-ltb left word_bits h)

pub zeros_of-whole : (x left : ℕ) → word_bits ≤ left → zeros_of x left ≡ complement x
unfolding zeros_of
zeros_of-whole x left h = rw (le-ltb left word_bits h)

module _ (x left : ℕ) (wide : x < 2 ^ word_bits) where
  zeros-low : (t : ℕ) → t < word_bits → t < left → digit (zeros_of x left) t ≡ 1 - digit x t
  unfolding zeros_of
  zeros-low t l h = go (dec_lt left word_bits)
    where
      go : Dec (left < word_bits) → digit (zeros_of x left) t ≡ 1 - digit x t
      go (yes less) = rw (lt-ltb left word_bits less) (digit-mod (complement x) left t h ∙ complement-digit x t l wide)
      go (no more) = rw (le-ltb left word_bits (omega arith)) (complement-digit x t l wide)

  zeros-high : (t : ℕ) → t < word_bits → left ≤ t → digit (zeros_of x left) t ≡ 0
  unfolding zeros_of
  zeros-high t l h = rw (lt-ltb left word_bits (omega arith)) (digit-mod-none (complement x) left t h)

-- ---- a word, by its tests

module _ (ls : List ℕ) (x last at before left : ℕ) where
  abbrev pub parents : Bool
  parents = all_below (parent_at x at before) word_bits

  abbrev pub siblings : Bool
  siblings = all_below (sibling_at ls x (prev_of x last) before) word_bits

  abbrev pub leaves : Bool
  leaves = all_below (leaf_at ls (zeros_of x left) (complement (prev_of x last)) (at - before)) word_bits

  pub word_fits-parents : parents ≡ false → word_fits ls x last at before left ≡ false
  unfolding word_fits
  word_fits-parents h = ap (λ (s : Bool). s && (siblings && leaves)) h

  pub word_fits-siblings : parents ≡ true → siblings ≡ false → word_fits ls x last at before left ≡ false
  unfolding word_fits
  word_fits-siblings h k = ap₂ (λ (s t : Bool). s && (t && leaves)) h k

  pub word_fits-leaves : parents ≡ true → siblings ≡ true → word_fits ls x last at before left ≡ leaves
  unfolding word_fits
  word_fits-leaves h k = ap₂ (λ (s t : Bool). s && (t && leaves)) h k

  word_fits-told : word_fits ls x last at before left ≡ true → (parents ≡ true) × (siblings ≡ true) × (leaves ≡ true)
  unfolding word_fits
  word_fits-told h =
      let (s, h') = both parents (siblings && leaves) h in
      let (t, u) = both siblings leaves h' in
      (s, t, u)

-- ---- the places

-- the bit before a place, and 0 before the first
unfoldable previous : (ℕ → ℕ) → ℕ → ℕ
previous b zero = 0
previous b (suc p) = b p

module _ (ls ws : List ℕ) where
  abbrev b : ℕ → ℕ
  b = bit ws

  abbrev n : ℕ
  n = length ls

  abbrev small : (p : ℕ) → b p ≤ 1
  small = bit-small ws

  record Place (p : ℕ) : Type 0 where
    parent : b p ≡ 1 → p ≤ 2 * ones_before b p
    sibling : b p ≡ 1 → previous b p ≡ 1 → labels_rise ls (ones_before b p - 2) ≡ true
    leaf : p < bits_for n → b p ≡ 0 → previous b p ≡ 0 → childless_fits ls (zeros_before b p) ≡ true

  module _ (k : CountedWords ls ws) (w : ℕ) where
    abbrev at : ℕ
    at = w * word_bits

    abbrev x : ℕ
    x = get_or ws w 0

    abbrev o : ℕ
    o = ones_before b at

    abbrev left : ℕ
    left = bits_for n - at

    word-digit : (t : ℕ) → t < word_bits → digit x t ≡ b (at + t)
    word-digit t l = sym (bit_in ws w t l)

    word_ones : (t : ℕ) → t ≤ word_bits → o + ones (x % 2 ^ t) ≡ ones_before b (at + t)
    word_ones t l = sym (ones-in-word ws w t l)

    behind : o ≤ at
    behind = omega (arith, ones-zeros b small at)

    last-wide : (v : ℕ) → last_before ws v < 2 ^ word_bits
    unfolding last_before
    last-wide zero = pow_pos word_bits
    last-wide (suc v) = k.framed.wide v

    last-is : (v : ℕ) → digit (last_before ws v) 63 ≡ previous b (v * word_bits)
    unfolding last_before previous
    last-is zero = refl
    last-is (suc v) = let e : suc v * word_bits ≡ suc (v * word_bits + 63) = omega arith in sym (bit_in ws v 63 (omega arith)) ∙ sym (ap (previous b) e)

    prev-digit : (t : ℕ) → t < word_bits → digit (prev_of x (last_before ws w)) t ≡ previous b (at + t)
    unfolding previous
    prev-digit zero l = let e : at + 0 ≡ at = omega arith in prev-first x (last_before ws w) (last-wide w) ∙ last-is w ∙ sym (ap (previous b) e)
    prev-digit (suc t) l =
        let e : at + suc t ≡ suc (at + t) = omega arith in
        prev-next x (last_before ws w) (last-wide w) t l ∙ word-digit t (omega arith) ∙ sym (ap (previous b) e)

    lone-digit : (t : ℕ) → t < word_bits → digit (complement (prev_of x (last_before ws w))) t ≡ 1 - previous b (at + t)
    lone-digit t l = complement-digit (prev_of x (last_before ws w)) t l (prev-wide x (last_before ws w) (last-wide w)) ∙ ap (λ (y : ℕ). 1 - y) (prev-digit t l)

    zero-digit : (t : ℕ) → t < word_bits → at + t < bits_for n → digit (zeros_of x left) t ≡ 1 - b (at + t)
    zero-digit t l h = zeros-low x left (k.framed.wide w) t l (omega arith) ∙ ap (λ (y : ℕ). 1 - y) (word-digit t l)

    zero-inside : (t : ℕ) → t < word_bits → digit (zeros_of x left) t ≡ 1 → (at + t < bits_for n) × (b (at + t) ≡ 0)
    zero-inside t l h = go (dec_lt (at + t) (bits_for n))
      where
        go : Dec (at + t < bits_for n) → (at + t < bits_for n) × (b (at + t) ≡ 0)
        go (yes less) = (less, omega (arith, h, zero-digit t l less, small (at + t)))
        go (no more) = absurd (omega (arith, h, zeros-high x left (k.framed.wide w) t l (omega arith)))

    word-zeros : (t : ℕ) → t ≤ word_bits → at + t ≤ bits_for n → at - o + ones (zeros_of x left % 2 ^ t) ≡ zeros_before b (at + t)
    unfolding gap
    word-zeros t l h =
        let same : sum_below (λ j. zeros_of x left / 2 ^ j % 2) t ≡ sum_below (λ j. gap b (at + j)) t =
        sum_below-ext (λ j. zeros_of x left / 2 ^ j % 2) (λ j. gap b (at + j)) t (λ j m. zero-digit j (omega arith) (omega arith)) in
        omega (arith, sym (ones_low (zeros_of x left) t) ∙ same, sum_below-add (gap b) at t, ones-zeros b small at)

    -- ---- a word's places

    word-told : word_at ls ws w ≡ true → (t : ℕ) → t < word_bits → Place (at + t)
    unfolding word_at
    word-told h t l =
        let (ps, ss, es) = word_fits-told ls x (last_before ws w) at o left h in
        record {
          parent = λ one.
              let d : digit x t ≡ 1 = word-digit t l ∙ one in
              let told = leb-true (at + t) (2 * (o + ones (x % 2 ^ t))) (sym (parent-at x at o t d) ∙ all_told (parent_at x at o) word_bits ps t l) in
              omega (arith, told, word_ones t (omega arith));
          sibling = λ one prev.
              let d = and_both x (prev_of x (last_before ws w)) t (word-digit t l ∙ one) (prev-digit t l ∙ prev) in
              ap (λ (y : ℕ). labels_rise ls (y - 2)) (sym (word_ones t (omega arith))) ∙ sym (sibling-at ls x (prev_of x (last_before ws w)) o t d)
              ∙ all_told (sibling_at ls x (prev_of x (last_before ws w)) o) word_bits ss t l;
          leaf = λ less none prev.
              let z : digit (zeros_of x left) t ≡ 1 = zero-digit t l less ∙ ap (λ (y : ℕ). 1 - y) none in
              let u : digit (complement (prev_of x (last_before ws w))) t ≡ 1 = lone-digit t l ∙ ap (λ (y : ℕ). 1 - y) prev in
              let d = and_both (zeros_of x left) (complement (prev_of x (last_before ws w))) t z u in
              ap (childless_fits ls) (sym (word-zeros t (omega arith) (omega arith))) ∙ sym (leaf-at ls (zeros_of x left) (complement (prev_of x (last_before ws w))) (at - o) t d)
              ∙ all_told (leaf_at ls (zeros_of x left) (complement (prev_of x (last_before ws w))) (at - o)) word_bits es t l;
        }

    word_made : ((t : ℕ) → t < word_bits → Place (at + t)) → word_at ls ws w ≡ true
    unfolding word_at
    word_made f =
        word_fits-leaves ls x (last_before ws w) at o left (all_made (parent_at x at o) word_bits parent-each) (all_made (sibling_at ls x (prev_of x (last_before ws w)) o) word_bits sibling-each)
        ∙ all_made (leaf_at ls (zeros_of x left) (complement (prev_of x (last_before ws w))) (at - o)) word_bits leaf-each
      where
        parent-each : (t : ℕ) → t < word_bits → parent_at x at o t ≡ true
        parent-each t l =
            ⊎_elim
            (λ d. parent-at x at o t d ∙ le-leb (at + t) (2 * (o + ones (x % 2 ^ t))) (omega (arith, (f t l).parent (sym (word-digit t l) ∙ d), word_ones t (omega arith))))
            (λ d. parent-off x at o t d)
            (digit-either x t)

        sibling-each : (t : ℕ) → t < word_bits → sibling_at ls x (prev_of x (last_before ws w)) o t ≡ true
        sibling-each t l =
            ⊎_elim
            (λ d.
            let e = and_one x (prev_of x (last_before ws w)) t d in
            sibling-at ls x (prev_of x (last_before ws w)) o t d ∙ ap (λ (y : ℕ). labels_rise ls (y - 2)) (word_ones t (omega arith))
            ∙ (f t l).sibling (sym (word-digit t l) ∙ e.0) (sym (prev-digit t l) ∙ e.1))
            (λ d. sibling-off ls x (prev_of x (last_before ws w)) o t d)
            (digit-either (bit_and x (prev_of x (last_before ws w))) t)

        leaf-each : (t : ℕ) → t < word_bits → leaf_at ls (zeros_of x left) (complement (prev_of x (last_before ws w))) (at - o) t ≡ true
        leaf-each t l =
            ⊎_elim
            (λ d.
            let e = and_one (zeros_of x left) (complement (prev_of x (last_before ws w))) t d in
            let i = zero-inside t l e.0 in
            leaf-at ls (zeros_of x left) (complement (prev_of x (last_before ws w))) (at - o) t d ∙ ap (childless_fits ls) (word-zeros t (omega arith) (omega (arith, i.0)))
            ∙ (f t l).leaf i.0 i.1 (omega (arith, lone-digit t l, e.1)))
            (λ d. leaf-flag-off ls (zeros_of x left) (complement (prev_of x (last_before ws w))) (at - o) t d)
            (digit-either (bit_and (zeros_of x left) (complement (prev_of x (last_before ws w)))) t)

    -- ---- what a word's tests read is there

    inside_one : (p : ℕ) → b p ≡ 1 → p < bits_for n
    inside_one p one = go (dec_lt p (bits_for n))
      where
        go : Dec (p < bits_for n) → p < bits_for n
        go (yes h) = h
        go (no h) = absurd (omega (arith, one, k.framed.unused p (omega arith)))

    some-before : (p : ℕ) → 1 ≤ p → 1 ≤ ones_before b p
    some-before p h = omega (arith, sum_below-mono b {i = 1} {j = p} h, sum_below-suc b 0, sum_below-zero b, k.framed.first)

    two-before : (p : ℕ) → b p ≡ 1 → previous b p ≡ 1 → 2 ≤ ones_before b p
    unfolding previous
    two-before zero one prev = absurd (omega arith)
    two-before (suc zero) one prev = absurd (omega (arith, one, k.framed.second))
    two-before (suc (suc q)) one prev = omega (arith, sum_below-suc b (suc q), prev, some-before (suc q) (omega arith))

    few-before : (p : ℕ) → b p ≡ 1 → ones_before b p ≤ n
    few-before p one =
        let h : suc p ≤ bits_for n = inside_one p one in
        omega (arith, sum_below-mono b {i = suc p} {j = bits_for n} h, sum_below-suc b p, one, k.ones)

    few-zeros : (p : ℕ) → p < bits_for n → b p ≡ 0 → zeros_before b p ≤ n + 1
    few-zeros p h none =
        omega (arith, sum_below-mono (gap b) {i = suc p} {j = bits_for n} h, sum_below-suc (gap b) p, gap-zero b p none, k.ones, ones-zeros b small (bits_for n))

    pub at-inside : w < length ws → at ≤ bits_for n
    at-inside h = omega (arith, h, k.framed.words-fit)

    pub word-inside : w < length ws → WordInside n x (last_before ws w) at o left
    word-inside h = record {
      few = omega (arith, at-inside h, behind, k.framed.few);
      behind = behind;
      siblings = λ t l d.
          let e = and_one x (prev_of x (last_before ws w)) t d in
          let one : b (at + t) ≡ 1 = sym (word-digit t l) ∙ e.0 in
          let prev : previous b (at + t) ≡ 1 = sym (prev-digit t l) ∙ e.1 in
          (omega (arith, word_ones t (omega arith), two-before (at + t) one prev), omega (arith, word_ones t (omega arith), few-before (at + t) one));
      leaves = λ t l d.
          let i = zero-inside t l d in
          let less : at + t < bits_for n = i.0 in
          omega (arith, word-zeros t (omega arith) (omega arith), few-zeros (at + t) less i.1);
    }

pub last_before-first : (ws : List ℕ) → last_before ws 0 ≡ 0
unfolding last_before
last_before-first ws = refl

pub last_before-next : (ws : List ℕ) (w : ℕ) → last_before ws (w + 1) ≡ get_or ws w 0
unfolding last_before
last_before-next ws w = let e : w + 1 ≡ suc w = omega arith in ap (last_before ws) e

pub word_at-is : (ls ws : List ℕ) (w : ℕ)
    → word_at ls ws w ≡ word_fits ls (get_or ws w 0) (last_before ws w) (w * word_bits) (ones_before (bit ws) (w * word_bits)) (bits_for (length ls) - w * word_bits)
unfolding word_at
word_at-is ls ws w = refl

-- ---- the pass

module _ (ls vs ws : List ℕ) where
  abbrev i : Image
  i = as_image ls vs ws

  abbrev c : ℕ → ℕ
  c = bit ws

  abbrev pub pass : Bool
  pass = passes_from (as_image ls vs ws) (2 * length ls + 1) 2 1 0

  -- the pass gives what it asks
  framed-passed : Framed ls ws → pass ≡ true → Passed (as_image ls vs ws)
  framed-passed f h =
      let told = passes-told (as_image ls vs ws) (2 * length ls + 1) 1 (sym (start-same (as_image ls vs ws) f.first f.second) ∙ h) in
      let last : suc 1 + (2 * length ls + 1) ≡ bits_for (length ls) = omega arith in
      record {
        first = f.first;
        second = f.second;
        each = λ q lo hi. told.0 q lo (omega arith);
        ones = ap (ones_before (bit ws)) (sym last) ∙ told.1;
      }

  pub count-stop : Framed ls ws → (ones_before (bit ws) (bits_for (length ls)) ≡ length ls + 1 → ⊥) → pass ≡ false
  count-stop f h = false-by pass (λ t. h (framed-passed f t).ones)

  entry-passed : Passed (as_image ls vs ws) → (e : ℕ) → e < length ls → entry_fits (get_or ls e 0) (get_or vs e 0) ≡ true
  entry-passed t e l =
      let m : ℕ = e + 2 in
      let here : m - 2 ≡ e = omega arith in
      entry_fits-made (get_or ls e 0) (get_or vs e 0) (rw here at (passed-small (as_image ls vs ws) t m (omega arith) (omega arith)))
      (λ u. rw here at (passed-plain (as_image ls vs ws) t m (omega arith) (omega arith) (rw here u)))

  pub entries-stop : Framed ls ws → entries_fit ls vs ≡ false → pass ≡ false
  entries-stop f h =
      false-by pass (λ t. not-both (entries_fit ls vs) (all_made (λ e. entry_fits (get_or ls e 0) (get_or vs e 0)) (length ls) (entry-passed (framed-passed f t))) h)

  module _ (k : CountedWords ls ws) where
    place_of : Passed (as_image ls vs ws) → (p : ℕ) → Place ls ws p
    unfolding previous
    place_of t zero = record {
      parent = λ one. omega arith;
      sibling = λ one prev. absurd (omega arith);
      leaf = λ less none prev. absurd (omega (arith, none, k.framed.first));
    }
    place_of t (suc zero) = record {
      parent = λ one. absurd (omega (arith, one, k.framed.second));
      sibling = λ one prev. absurd (omega (arith, one, k.framed.second));
      leaf = λ less none prev. absurd (omega (arith, prev, k.framed.first));
    }
    place_of t (suc (suc q)) = record {
      parent = λ one.
          let h = one-after (as_image ls vs ws) t (suc q) (omega arith) (inside_one ls ws k 0 (suc (suc q)) one) one in
          omega (arith, h.climbs, ones-zeros c (bit-small ws) (suc (suc q)));
      sibling = λ one prev.
          let h = one-after (as_image ls vs ws) t (suc q) (omega arith) (inside_one ls ws k 0 (suc (suc q)) one) one in
          labels_rise-is ls (ones_before c (suc (suc q)) - 2) ∙ lt-ltb _ _ (h.rises prev);
      leaf = λ less none prev.
          sym (bit_fits-childless ls vs (c (suc (suc q))) (c (suc q)) (ones_before c (suc (suc q))) (zeros_before c (suc (suc q))) none prev) ∙ t.each (suc q) (omega arith) less;
    }

    fits-of : entries_fit ls vs ≡ true → (q : ℕ) → 1 ≤ q → suc q < bits_for (length ls) → Place ls ws (suc q) → FitsAfter (as_image ls vs ws) q
    unfolding previous
    fits-of fit q lo hi at_place = ⊎_elim one none (bit-either ws (suc q))
      where
        o : ℕ
        o = ones_before c (suc q)

        entry : (e : ℕ) → e < length ls → (get_or ls e 0 < 2 * mark) × (get_or ls e 0 < mark → get_or vs e 0 ≡ 0)
        entry e l = entry_fits-told (get_or ls e 0) (get_or vs e 0) (all_told (λ j. entry_fits (get_or ls j 0) (get_or vs j 0)) (length ls) fit e l)

        one : c (suc q) ≡ 1 → FitsAfter (as_image ls vs ws) q
        one h =
            let few : o ≤ length ls = few-before ls ws k 0 (suc q) h in
            let some : 1 ≤ o = some-before ls ws k 0 (suc q) (omega arith) in
            let e = entry (o - 1) (omega arith) in
            bit_fits-one ls vs (c (suc q)) (c q) o (zeros_before c (suc q)) (λ z. omega arith)
            ∙ one_fits-made ls vs (c q) o (zeros_before c (suc q)) (bit-small ws q) (record {
              climbs = omega (arith, at_place.parent h, ones-zeros c (bit-small ws) (suc q));
              inside = few;
              small = e.0;
              plain = e.1;
              rises = λ prev. ltb-true _ _ (sym (labels_rise-is ls (o - 2)) ∙ at_place.sibling h prev);
            })

        none : c (suc q) ≡ 0 → FitsAfter (as_image ls vs ws) q
        none h =
            ⊎_elim
            (λ prev. bit_fits-closing ls vs (c (suc q)) (c q) o (zeros_before c (suc q)) h (λ z. omega arith))
            (λ prev. bit_fits-childless ls vs (c (suc q)) (c q) o (zeros_before c (suc q)) h prev ∙ at_place.leaf hi h prev)
            (bit-either ws q)

    pub words-pass : entries_fit ls vs ≡ true → all_below (word_at ls ws) (length ws) ≡ pass
    words-pass fit = both_ways (all_below (word_at ls ws) (length ws)) pass to from
      where
        n : ℕ
        n = length ls

        from : pass ≡ true → all_below (word_at ls ws) (length ws) ≡ true
        from h = let t = framed-passed k.framed h in all_made (word_at ls ws) (length ws) (λ w l. word_made ls ws k w (λ j m. place_of t (w * word_bits + j)))

        place : all_below (word_at ls ws) (length ws) ≡ true → (p : ℕ) → p < bits_for n → Place ls ws p
        place h p l =
            let w : ℕ = p / word_bits in
            let j : ℕ = p % word_bits in
            let e : w * word_bits + j ≡ p = omega arith in
            subst (Place ls ws) e (word-told ls ws k w (all_told (word_at ls ws) (length ws) h w (omega (arith, k.framed.words-fit))) j (mod-lt p (lit< tt)))

        to : all_below (word_at ls ws) (length ws) ≡ true → pass ≡ true
        to h =
            let last : suc 1 + (2 * n + 1) ≡ bits_for n = omega arith in
            start-same (as_image ls vs ws) k.framed.first k.framed.second
            ∙ passes-made (as_image ls vs ws) (2 * n + 1) 1 (λ q lo hi. fits-of fit q lo (omega arith) (place h (suc q) (omega arith))) (ap (ones_before c) last ∙ k.ones)
