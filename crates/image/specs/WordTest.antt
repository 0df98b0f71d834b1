-- The pass of the image test (`AcceptTest.passes_from`) by entries and words: once the ones are counted and the entries
-- fit, it asks this of each word.
-- A word x stands behind `at` bits, `before` of them ones, and `prev` has at each place the bit before it.
--
--     all_below        each number below n passes a test
--     entries_fit      every entry fits
--     parent_at        the node of a one has its parent before it
--     sibling_at       the node of a one right after a one has a label above its sibling's
--     leaf_at          a node closed by a zero right after a zero may be without child
--     word_fits        a word's three tests
--     word_at          those of an image's word w
--     Framed           what is known of labels and words before the ones are counted
--     CountedWords     and before the words are tested
--     WordInside       the entries that a word's tests read are there
-- Assumes nothing.
use Rattle.std.specs.Prelude.{◌≡◌, ℕ, zero, suc, ◌+◌, ◌-◌, ◌*◌, ◌/◌, ◌%◌, ◌^◌, ◌≤◌, ◌<◌, Bool, true, cond, ◌&&◌, List, length, get_or, eqb, ltb, leb}
use Rattle.std.specs.Int.Bits.{bit_and, bit_or}
use Rattle.std.specs.Int.Count.{ones}
use Rattle.keymap.specs.Limits.{word_bits, most_records}
use Rattle.keymap.specs.Bits.{bit, words_for}
use Rattle.keymap.specs.Image.{bits_for}
use Rattle.louds.specs.Rank.{ones_before}
use Rattle.louds.specs.Digits.{digit, complement}
use Rattle.image.specs.AcceptTest.{entry_fits, labels_rise, childless_fits}

unfoldable pub all_below : (ℕ → Bool) → ℕ → Bool
all_below f zero = true
all_below f (suc n) = all_below f n && f n

abbrev pub entries_fit : List ℕ → List ℕ → Bool
entries_fit ls vs = all_below (λ e. entry_fits (get_or ls e 0) (get_or vs e 0)) (length ls)

-- ---- the tests at place t of a word

-- at most as many zeros as ones before a one
unfoldable pub parent_at : ℕ → ℕ → ℕ → ℕ → Bool
parent_at x at before t = cond (eqb (digit x t) 0) true (leb (at + t) (2 * (before + ones (x % 2 ^ t))))

unfoldable pub sibling_at : List ℕ → ℕ → ℕ → ℕ → ℕ → Bool
sibling_at ls x prev before t =
    cond (eqb (digit (bit_and x prev) t) 0) true (labels_rise ls (before + ones (x % 2 ^ t) - 2))

-- z has a one for each zero, `before` counts the zeros before the word, and `lone` has the places whose bit before is a
-- zero
unfoldable pub leaf_at : List ℕ → ℕ → ℕ → ℕ → ℕ → Bool
leaf_at ls z lone before t =
    cond (eqb (digit (bit_and z lone) t) 0) true (childless_fits ls (before + ones (z % 2 ^ t)))

-- ---- a word

-- the zeros among the first `left` bits
unfoldable pub zeros_of : ℕ → ℕ → ℕ
zeros_of x left = cond (ltb left word_bits) (complement x % 2 ^ left) (complement x)

-- each bit's bit before, where `last` is the word before
abbrev pub prev_of : ℕ → ℕ → ℕ
prev_of x last = bit_or (x * 2 ^ 1 % 2 ^ word_bits) (last / 2 ^ 63)

unfoldable pub word_fits : List ℕ → ℕ → ℕ → ℕ → ℕ → ℕ → Bool
word_fits ls x last at before left =
    all_below (parent_at x at before) word_bits
    && (all_below (sibling_at ls x (prev_of x last) before) word_bits
    && all_below (leaf_at ls (zeros_of x left) (complement (prev_of x last)) (at - before)) word_bits)

-- the word before word w
unfoldable pub last_before : List ℕ → ℕ → ℕ
last_before ws zero = 0
last_before ws (suc w) = get_or ws w 0

unfoldable pub word_at : List ℕ → List ℕ → ℕ → Bool
word_at ls ws w =
    word_fits ls (get_or ws w 0) (last_before ws w) (w * word_bits) (ones_before (bit ws) (w * word_bits))
    (bits_for (length ls) - w * word_bits)

-- ---- what the code may rely on

pub record Framed (ls ws : List ℕ) : Type 0 where
  pub few : length ls ≤ most_records
  pub words-fit : length ws ≡ words_for (bits_for (length ls))
  pub wide : (w : ℕ) → get_or ws w 0 < 2 ^ word_bits
  pub unused : (p : ℕ) → bits_for (length ls) ≤ p → bit ws p ≡ 0
  pub first : bit ws 0 ≡ 1
  pub second : bit ws 1 ≡ 0

pub record CountedWords (ls ws : List ℕ) : Type 0 where
  pub framed : Framed ls ws
  pub ones : ones_before (bit ws) (bits_for (length ls)) ≡ length ls + 1

-- siblings of one word have their entries among n
abbrev pub SiblingsInside : ℕ → ℕ → ℕ → ℕ → Type 0
SiblingsInside n x prev before =
    (t : ℕ) → t < word_bits → digit (bit_and x prev) t ≡ 1
    → (2 ≤ before + ones (x % 2 ^ t)) × (before + ones (x % 2 ^ t) ≤ n)

-- and the nodes that its zeros close
abbrev pub LeavesInside : ℕ → ℕ → ℕ → Type 0
LeavesInside n z before = (t : ℕ) → t < word_bits → digit z t ≡ 1 → before + ones (z % 2 ^ t) ≤ n + 1

pub record WordInside (n x last at before left : ℕ) : Type 0 where
  pub few : at + before ≤ 4 * most_records
  pub behind : before ≤ at
  pub siblings : SiblingsInside n x (prev_of x last) before
  pub leaves : LeavesInside n (zeros_of x left) (at - before)
