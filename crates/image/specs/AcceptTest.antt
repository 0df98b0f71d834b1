-- The image test: lengths, unused bits and the first two bits, then one pass over the other bits with the ones so far
-- and the bit before.
-- A one is the node one above the ones before it, and its parent is the count of zeros before it; a one right after a
-- one is its next sibling;
-- and a zero right after a zero closes a node that has no child, which is the count of zeros before it.
--
--     entry_fits       an entry below 512, with value 0 if unmarked
--     one_fits         what is asked of the node of a one
--     childless_fits   what is asked of a node without child
--     bit_fits         what is asked of a bit
--     passes_from      the pass from a place on
--     image_test       the whole test
-- Assumes nothing.
use Rattle.std.specs.Prelude.{ℕ, zero, suc, ◌+◌, ◌-◌, ◌*◌, ◌/◌, ◌%◌, ◌^◌, Bool, true, cond, ◌&&◌, List, length, get_or, eqb, ltb, leb}
use Rattle.keymap.specs.Limits.{word_bits, most_records}
use Rattle.keymap.specs.Label.{mark, label_in}
use Rattle.keymap.specs.Bits.{bit, words_for}
use Rattle.keymap.specs.Image.{Image, bits_for}
use Rattle.image.specs.Accept.{entries}

unfoldable pub entry_fits : ℕ → ℕ → Bool
entry_fits e v = cond (ltb e mark) (eqb v 0) (ltb e (2 * mark))

-- the labels of the entries e and e + 1 rise
unfoldable pub labels_rise : List ℕ → ℕ → Bool
labels_rise ls e = ltb (label_in (get_or ls e 0)) (label_in (get_or ls (e + 1) 0))

-- the node has entry `ones` - 1, and the bit before its one is `before`
unfoldable pub one_fits : List ℕ → List ℕ → ℕ → ℕ → ℕ → Bool
one_fits ls vs before ones zeros =
    leb zeros ones
    && (leb ones (length ls)
    && (entry_fits (get_or ls (ones - 1) 0) (get_or vs (ones - 1) 0)
    && cond (eqb before 0) true (labels_rise ls (ones - 2))))

-- node m may be without child: it is the root, or it is marked
unfoldable pub childless_fits : List ℕ → ℕ → Bool
childless_fits ls m = cond (ltb m 2) true (leb mark (get_or ls (m - 2) 0))

unfoldable pub bit_fits : List ℕ → List ℕ → ℕ → ℕ → ℕ → ℕ → Bool
bit_fits ls vs b before ones zeros =
    cond (eqb b 0) (cond (eqb before 0) (childless_fits ls zeros) true) (one_fits ls vs before ones zeros)

-- the first argument is how many bits are left from place p on
unfoldable pub passes_from : Image → ℕ → ℕ → ℕ → ℕ → Bool
passes_from i zero p ones before = eqb ones (entries i + 1)
passes_from i (suc left) p ones before =
    bit_fits i.labels i.values (bit i.words p) before ones (p - ones)
    && passes_from i left (suc p) (ones + bit i.words p) (bit i.words p)

unfoldable pub lengths_fit : Image → Bool
lengths_fit i =
    leb (entries i) most_records
    && (eqb (length i.values) (entries i) && eqb (length i.words) (words_for (bits_for (entries i))))

-- the last word has nothing above the bits of the sequence, and the sequence begins with 1, 0
unfoldable pub ends_fit : Image → Bool
ends_fit i =
    eqb (get_or i.words (bits_for (entries i) / word_bits) 0 / 2 ^ (bits_for (entries i) % word_bits)) 0
    && eqb (get_or i.words 0 0 % 4) 1

unfoldable pub image_test : Image → Bool
image_test i = lengths_fit i && (ends_fit i && passes_from i (2 * entries i + 1) 2 1 0)
