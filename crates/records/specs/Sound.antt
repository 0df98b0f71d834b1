-- A sound pool (01, "Sound means: .."), sentence by sentence. The n of 01 is `last_record`, its "record 1 to n" is
-- `InUse`.
--
--     Among         a number stands in a list
--     Chain         the numbers that a step leads to, up to the 0 that ends them
--     LabelsRise    labels strictly rise
--     Fits          what is asked of a record in use by its own words
--     ChildChain    what is asked of a record's chain of children
-- Assumes nothing.
use Rattle.std.specs.Prelude.{ℕ, ◌+◌, ◌≤◌, ◌<◌, ◌≡◌, ◌⊎◌, List, [], ◌∷◌, length}
use Rattle.keymap.specs.Limits.{byte_limit}
use Rattle.keymap.specs.Label.{mark}
use Rattle.records.specs.Words.{Pool, record_words, entry, label, value, first_child, next_sibling, parent}
use Rattle.records.specs.Words.{last_record, InUse, Node, capacity}

abbrev pub Among : ℕ → List ℕ → Type 0
Among c [] = ⊥
Among c (x ∷ xs) = (c ≡ x) ⊎ Among c xs

-- from c on, by step f, the numbers met before the first 0 are these
abbrev pub Chain : (ℕ → ℕ) → ℕ → List ℕ → Type 0
Chain f c [] = c ≡ 0
Chain f c (x ∷ xs) = (c ≡ x) × (0 < x) × Chain f (f x) xs

-- the labels of these records strictly rise, and the first is l or above
abbrev pub LabelsRise : Pool → ℕ → List ℕ → Type 0
LabelsRise p l [] = Unit {0}
LabelsRise p l (x ∷ xs) = (l ≤ label p x) × LabelsRise p (label p x + 1) xs

-- "for each record 1 to n"
pub record Fits (p : Pool) (c : ℕ) : Type 0 where
  -- "word 0 is below 512"
  pub entry-below : entry p c < byte_limit + mark
  -- "words 2 and 3 are at most n"
  pub child-within : first_child p c ≤ last_record p
  pub sibling-within : next_sibling p c ≤ last_record p
  -- "the parent's number is below its own"
  pub parent-below : parent p c < c
  -- "a record without value has value word 0 and a child"
  pub unvalued : entry p c < mark → (value p c ≡ 0) × (0 < first_child p c)

-- "its first child and the sibling chain from it name exactly the records whose parent it is, each once, labels
-- strictly rising":
-- labels that strictly rise name nothing twice
pub record ChildChain (p : Pool) (c : ℕ) : Type 0 where
  pub kids : List ℕ
  pub chain : Chain (next_sibling p) (first_child p c) kids
  pub rising : LabelsRise p 0 kids
  pub only : (x : ℕ) → Among x kids → InUse p x × (parent p x ≡ c)
  pub all : (x : ℕ) → InUse p x → parent p x ≡ c → Among x kids

pub record Sound (p : Pool) : Type 0 where
  -- "five words to the record, record 0 the root"
  pub rooted : record_words ≤ length p
  -- "n is at most capacity"
  pub within : last_record p ≤ capacity p
  -- "root words as said": "The root has 0 in words 1, 3 and 4."
  pub root : (value p 0 ≡ 0) × (next_sibling p 0 ≡ 0) × (parent p 0 ≡ 0)
  pub fits : (c : ℕ) → InUse p c → Fits p c
  -- "for every record 0 to n"
  pub children : (c : ℕ) → Node p c → ChildChain p c
