-- An image gives its trie back, and so its map: two maps with one image are one. The rows of a trie and the degrees that its bits spell
-- are the same numbers, and rows are rebuilt into the trie that they came from.
--
--     length-image_bits, ..  how long the image is: n labels, n values, 2n + 3 bits
--     decode-forest_image    decoding the image of a trie gives the trie
--     image_map-image        decoding the image of a map gives the map
--     image-one              equal images come only from equal maps
-- Assumes nothing.
use mathlib.Core.Path.{◌≡◌, refl, sym, ap, ◌∙◌}
use mathlib.Core.Logic.{◌↔◌}
use Prim.Native.Nat.{ℕ, zero, suc, ◌+◌, ◌<◌, compare, Ordering}
use native.Mathlib.Omega.{arith}
use mathlib.Core.List.{List, [], ◌∷◌, map}
use Rattle.std.specs.Prelude.{None}
use lib.ListN.{length, length-map}
use Rattle.keymap.specs.Limits.{byte_limit}
use Rattle.keymap.specs.Key.{Key, Bytes}
use Rattle.keymap.specs.Map.{Map, Proper, Catalogue}
use Rattle.keymap.specs.Prefixes.{prefixes}
use Rattle.keymap.specs.Bits.{unpack}
use Rattle.keymap.specs.Degrees.{total, degrees_from}
use Rattle.keymap.specs.Image.{bits_for, image_bits, image_labels, image_values, image}
use Rattle.keymap.specs.Forest.{Forest, empty, node, Tree, bare, alter, grow, tree_of, list_tree, ByteLabels, size, width, join}
use Rattle.keymap.specs.BreadthFirst.{Row, visit, rows, row_label, row_value, row_degree, forest_bits, forest_image}
use Rattle.keymap.specs.Decode.{rebuild, row_of, rows_from, degrees_in, rows_in, decode, image_map}
use Rattle.keymap.proofs.Laws.Label.{label_in-label_entry, value_in-label_entry}
use Rattle.keymap.proofs.Laws.Bits.{unpack-pack}
use Rattle.keymap.proofs.Laws.Degrees.{degrees_from-sequence, length-sequence, sequence-small}
use Rattle.keymap.proofs.Laws.Forest.{size-join, width-join}
use Rattle.keymap.proofs.Laws.Listing.{tree_of-whole, tree_of-orderly, list_tree-tree_of, list_forest-tree_of}
use Rattle.keymap.proofs.Laws.BreadthFirst.{length-rows}
use Rattle.keymap.proofs.Laws.Decode.{rebuild-rows}
use Rattle.keymap.proofs.Laws.LevelOrder.{bits-forest, image-forest, length-prefixes-forest}

-- ---- how many bits

total-visit : (n : ℕ) (f : Forest) → size f ≡ n → width f + total (map row_degree (visit n f)) ≡ n
unfolding visit size width total
total-visit zero empty h = refl
total-visit zero (node a w kids next) h = absurd (omega arith)
total-visit (suc n) empty h = absurd (omega arith)
total-visit (suc n) (node a w kids next) h =
    omega (arith, total-visit n (join next kids) (omega (arith, size-join next kids)), width-join next kids)

pub total-rows : (f : Forest) → total (width f ∷ map row_degree (rows f)) ≡ size f
unfolding rows total
total-rows f = total-visit (size f) f refl

pub length-forest_bits : (f : Forest) → length (forest_bits f) ≡ bits_for (size f)
unfolding forest_bits
length-forest_bits f =
    omega (arith, length-sequence (width f ∷ map row_degree (rows f)), total-rows f, length-map (rows f) row_degree, length-rows f)

pub length-forest-labels : (f : Forest) → length (forest_image f).labels ≡ size f
unfolding forest_image
length-forest-labels f = length-map (rows f) row_label ∙ length-rows f

-- ---- the bits, the degrees and the rows are read back

pub bits-read : (f : Forest) → unpack (bits_for (length (forest_image f).labels)) (forest_image f).words ≡ forest_bits f
unfolding forest_image forest_bits
bits-read f =
    rw (length-forest-labels f, ← length-forest_bits f) (unpack-pack (forest_bits f) (sequence-small (width f ∷ map row_degree (rows f))))

pub degrees-read : (f : Forest) → degrees_in (forest_image f) ≡ 1 ∷ width f ∷ map row_degree (rows f)
unfolding degrees_in forest_bits
degrees-read f = ap (degrees_from 0) (bits-read f) ∙ degrees_from-sequence (width f ∷ map row_degree (rows f))

abbrev pub ByteRows : List Row → Type 0
ByteRows [] = Unit {0}
ByteRows (r ∷ rs) = (r.label < byte_limit) × ByteRows rs

bytes-join : (f g : Forest) → ByteLabels f → ByteLabels g → ByteLabels (join f g)
unfolding join
bytes-join empty g p q = q
bytes-join (node a w kids next) g p q = (p.0, p.1, bytes-join next g p.2 q)

bytes-visit : (n : ℕ) (f : Forest) → ByteLabels f → ByteRows (visit n f)
unfolding visit
bytes-visit zero f p = tt
bytes-visit (suc n) empty p = tt
bytes-visit (suc n) (node a w kids next) p = (p.0, bytes-visit n (join next kids) (bytes-join next kids p.2 p.1))

pub rows-bytes : (f : Forest) → ByteLabels f → ByteRows (rows f)
unfolding rows
rows-bytes f = bytes-visit (size f) f

row_read : (r : Row) → r.label < byte_limit → row_of r.degree (row_label r) (row_value r) ≡ r
row_read r h = λ i. record {
  label = label_in-label_entry r.label r.value h i;
  value = value_in-label_entry r.label r.value h i;
  degree = r.degree;
}

pub rows-read : (rs : List Row) → ByteRows rs → rows_from (map row_degree rs) (map row_label rs) (map row_value rs) ≡ rs
unfolding rows_from
rows-read [] h = refl
rows-read (r ∷ rs) h = rw (row_read r h.0, rows-read rs h.1)

pub decode-forest_image : (f : Forest) → ByteLabels f → decode (forest_image f) ≡ f
unfolding decode rows_in forest_image
decode-forest_image f b =
    rw (degrees-read f) (ap rebuild (rows-read (rows f) (rows-bytes f b)) ∙ rebuild-rows f)

-- ---- of a map

alter-bytes : (a : ℕ) (g : Tree → Tree) → a < byte_limit → ((t : Tree) → ByteLabels t.1 → ByteLabels (g t).1) → (f : Forest) → ByteLabels f → ByteLabels (alter a g f)
unfolding alter
alter-bytes a g l h empty b = (l, h bare tt, tt)
alter-bytes a g l h (node c w kids next) b = go (compare a c) refl (alter-bytes a g l h next b.2)
  where
    go : (o : Ordering) → compare a c ≡ o → ByteLabels (alter a g next) → ByteLabels (alter a g (node c w kids next))
    go Ordering.lt e ih = rw e (l, h bare tt, b)
    go Ordering.eq e ih = rw e (b.0, h (w, kids) b.1, b.2)
    go Ordering.gt e ih = rw e (b.0, b.1, ih)

pub grow-bytes : (k : Key) (v : ℕ) → Bytes k → (t : Tree) → ByteLabels t.1 → ByteLabels (grow k v t).1
unfolding grow
grow-bytes [] v p t b = b
grow-bytes (a ∷ k) v p t b = alter-bytes a (grow k v) p.0 (grow-bytes k v p.1) t.1 b

pub tree_of-bytes : (m : Map) → Proper m → ByteLabels (tree_of m).1
unfolding tree_of
tree_of-bytes [] p = tt
tree_of-bytes (e ∷ m) p = grow-bytes e.0 e.1 p.1 (tree_of m) (tree_of-bytes m p.3)

pub image_map-image : (m : Map) → Catalogue m → image_map (image m) ≡ m
unfolding image_map
image_map-image m c =
    let forest : decode (image m) ≡ (tree_of m).1 = rw (image-forest m c) (decode-forest_image (tree_of m).1 (tree_of-bytes m c.proper)) in
    ap list_tree (ap (λ (f : Forest). (None, f)) forest ∙ sym (tree_of-whole m c.proper)) ∙ list_tree-tree_of m c.rising

-- ---- how long its slices are

pub length-image_bits : (m : Map) → Catalogue m → length (image_bits m) ≡ bits_for (length (prefixes m))
length-image_bits m c =
    let f = (tree_of m).1 in
    let bits : image_bits m ≡ forest_bits f = rw (list_forest-tree_of m c) at (bits-forest f (tree_of-orderly m)) in
    ap length bits ∙ length-forest_bits f ∙ ap bits_for (sym (length-prefixes-forest m c))

pub length-image_labels : (m : Map) → length (image_labels m) ≡ length (prefixes m)
unfolding image_labels
length-image_labels m = length-map (prefixes m) _

pub length-image_values : (m : Map) → length (image_values m) ≡ length (prefixes m)
unfolding image_values
length-image_values m = length-map (prefixes m) _

-- ---- one image, one map

pub image-one : (m n : Map) → Catalogue m → Catalogue n → (image m ≡ image n) ↔ (m ≡ n)
image-one m n c d = (λ e. sym (image_map-image m c) ∙ ap image_map e ∙ image_map-image n d, λ e. ap image e)
