-- When a lent image is accepted (01, "The image"): "An image is accepted exactly if some map with nonempty keys has it.
-- Equivalently, to be proved: ..".
-- `Accepted` is the list that follows there, a field for each condition and the condition's words over it.
--
--     entries       n: "The number n is the length of the label slice"
--     node_entry    the label entry of a node: "node m of 2 or more has entry m-2"
--     parent_in     the number of a node's parent, as `louds` finds it
--     kids_in       the numbers of its children
--     Accepted      the conditions
--     OfMap         "some map with nonempty keys has it", and the map is no larger than an image can be
--     LentSlices    what any lent slices hold: words of 64 bits and values of 32
-- Assumes nothing.
use Rattle.std.specs.Prelude.{◌≡◌, ℕ, ◌+◌, ◌-◌, ◌*◌, ◌^◌, ◌≤◌, ◌<◌, length, get_or, Option, Some}
use Rattle.keymap.specs.Limits.{word_bits, value_limit, most_records}
use Rattle.keymap.specs.Map.{Map, Catalogue}
use Rattle.keymap.specs.Prefixes.{prefixes}
use Rattle.keymap.specs.Label.{mark, label_in}
use Rattle.keymap.specs.Bits.{bit, words_for}
use Rattle.keymap.specs.Image.{Image, bits_for, image}
use Rattle.louds.specs.declared.answers.Children.{Children}
use Rattle.louds.specs.Rank.{ones_before, zeros_before}
use Rattle.louds.specs.Nodes.{Run, children_of, parent_of}

abbrev pub entries : Image → ℕ
entries i = length i.labels

abbrev pub node_entry : Image → ℕ → ℕ
node_entry i m = get_or i.labels (m - 2) 0

abbrev pub node_value : Image → ℕ → ℕ
node_value i m = get_or i.values (m - 2) 0

abbrev pub parent_in : Image → ℕ → Option ℕ
parent_in i m = parent_of (bit i.words) (bits_for (entries i)) m

abbrev pub kids_in : Image → ℕ → Option Children
kids_in i m = children_of (bit i.words) (bits_for (entries i)) m

-- "its parent's number from 1 to m-1"
pub record ParentBelow (i : Image) (m : ℕ) : Type 0 where
  pub number : ℕ
  pub answer : parent_in i m ≡ Some number
  pub low : 1 ≤ number
  pub high : number < m

pub record HasChild (i : Image) (m : ℕ) : Type 0 where
  pub first : ℕ
  pub count : ℕ
  pub answer : kids_in i m ≡ Run first count
  pub some : 0 < count

pub record Accepted (i : Image) : Type 0 where
  -- "The number n is the length of the label slice, 0 to 4,096"
  pub few : entries i ≤ most_records
  -- "lengths .. fit": "n values", "2n+3 bits in exactly (2n+3)/64 rounded up u64 words"
  pub values-fit : length i.values ≡ entries i
  pub words-fit : length i.words ≡ words_for (bits_for (entries i))
  -- "unused bits fit": "unused bits 0"
  pub unused : (p : ℕ) → bits_for (entries i) ≤ p → bit i.words p ≡ 0
  -- "the first bit is 1"
  pub first : bit i.words 0 ≡ 1
  -- "n+1 ones, n+2 zeros"
  pub ones : ones_before (bit i.words) (bits_for (entries i)) ≡ entries i + 1
  pub zeros : zeros_before (bit i.words) (bits_for (entries i)) ≡ entries i + 2
  -- "every node m of 2 or more has its parent's number from 1 to m-1"
  pub parents : (m : ℕ) → 2 ≤ m → m ≤ entries i + 1 → ParentBelow i m
  -- "sibling labels strictly rise"
  pub rise : (l m : ℕ) → 2 ≤ l → l < m → m ≤ entries i + 1 → parent_in i l ≡ parent_in i m
      → label_in (node_entry i l) < label_in (node_entry i m)
  -- "entries are below 512"
  pub small : (m : ℕ) → 2 ≤ m → m ≤ entries i + 1 → node_entry i m < 2 * mark
  -- "unmarked entries have value 0 and a child"
  pub plain : (m : ℕ) → 2 ≤ m → m ≤ entries i + 1 → node_entry i m < mark → (node_value i m ≡ 0) × HasChild i m

pub record OfMap (i : Image) : Type 0 where
  pub map : Map
  pub catalogue : Catalogue map
  pub few : length (prefixes map) ≤ most_records
  pub whole : image map ≡ i

pub record LentSlices (i : Image) : Type 0 where
  pub words-wide : (w : ℕ) → get_or i.words w 0 < 2 ^ word_bits
  pub values-wide : (e : ℕ) → get_or i.values e 0 < value_limit
