-- Level order by a queue, as `naive_trie_b_f_iter.rs` goes and `trie_builder.rs` emits: take the first of the queue,
-- and put its children behind the others.
--
--     Row           what an image says of a node: label, value, number of children
--     rows          the rows of a forest's nodes, in the order of the queue
--     forest_image  the image that is written from them
--     emitted       the bits as `trie_builder.rs` pushes them, one for each element that its queue gives
-- Assumes nothing.
use Rattle.std.specs.Prelude.{ℕ, zero, suc, ◌+◌, ◌*◌, List, [], ◌∷◌, ◌++◌, map, Option}
use Rattle.keymap.specs.Forest.{Forest, empty, node, size, width, join}
use Rattle.keymap.specs.Label.{label_entry, value_word}
use Rattle.keymap.specs.Bits.{pack}
use Rattle.keymap.specs.Degrees.{sequence}
use Rattle.keymap.specs.Image.{Image}

pub record Row : Type 0 where
  pub label : ℕ
  pub value : Option ℕ
  pub degree : ℕ

-- the first argument bounds the steps: a queue of so many nodes is empty after as many
unfoldable pub visit : ℕ → Forest → List Row
visit zero f = []
visit (suc n) empty = []
visit (suc n) (node a w kids next) = record { label = a; value = w; degree = width kids } ∷ visit n (join next kids)

unfoldable pub rows : Forest → List Row
rows f = visit (size f) f

abbrev pub row_label : Row → ℕ
row_label r = label_entry r.label r.value

abbrev pub row_value : Row → ℕ
row_value r = value_word r.value

abbrev pub row_degree : Row → ℕ
row_degree r = r.degree

unfoldable pub forest_bits : Forest → List ℕ
forest_bits f = sequence (width f ∷ map row_degree (rows f))

unfoldable pub forest_image : Forest → Image
forest_image f =
    record { labels = map row_label (rows f); values = map row_value (rows f); words = pack (forest_bits f) }

-- the queue of `naive_trie_b_f_iter.rs`: runs of siblings, each with the phantom sibling that ends it. A node gives a 1
-- and puts its children,
-- with their phantom, behind the others; a phantom gives a 0. The first argument bounds the steps
unfoldable pub emit : ℕ → List Forest → List ℕ
emit zero q = []
emit (suc n) [] = []
emit (suc n) (empty ∷ q) = 0 ∷ emit n q
emit (suc n) (node a w kids next ∷ q) = 1 ∷ emit n (next ∷ (q ++ (kids ∷ [])))

-- every node and the root put one phantom into the queue, and every node is itself taken from it
unfoldable pub emitted : Forest → List ℕ
emitted f = 1 ∷ 0 ∷ emit (2 * size f + 1) (f ∷ [])
