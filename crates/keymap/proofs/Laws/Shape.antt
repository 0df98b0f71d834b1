-- The images of maps by the degrees that their bits spell. Degrees and entries of such a shape are rebuilt into a trie that is orderly, so it is the trie of a map,
-- which has the image; and the image of any map has the shape.
--
--     Shape             what the degrees and the entries of an image say of each other
--     shape-image       such an image is that of the trie that is decoded from it
--     shape-orderly     which is orderly
--     shape-bytes       its labels are bytes
--     shape_size        it has a node for each entry
--     shape-map         the image is that of the map that it stands for
--     shape-catalogue   which is a catalogue, if values are of 32 bits
--     shape-few         of not too many prefixes
--     forest-shape      the image of an orderly trie has the shape
--     map-shape         so has the image of a map
-- Assumes nothing.
use mathlib.Core.Path.{◌≡◌, refl, sym, ap, ap₂, ◌∙◌}
use Prim.Native.Nat.{ℕ, zero, suc, ◌+◌, ◌≤◌, ◌<◌}
use native.Mathlib.Omega.{arith}
use mathlib.Core.List.{List, [], ◌∷◌, ◌++◌, map, cons≢nil}
use Rattle.std.specs.Prelude.{Option, None, Some}
use mathlib.Core.Bool.{Bool, true, false}
use lib.Dec.{leb}
use borrow.Author.Tests.{leb-false}
use lib.ListN.{length, get_or, length-map}
use Rattle.keymap.specs.Limits.{byte_limit, value_limit, most_records}
use Rattle.keymap.specs.Key.{Bytes}
use Rattle.keymap.specs.Map.{Map, Proper, Catalogue}
use Rattle.keymap.specs.Prefixes.{prefixes}
use Rattle.keymap.specs.Label.{mark, label_in, value_in}
use Rattle.keymap.specs.Bits.{sum_below, pack}
use Rattle.keymap.specs.Degrees.{sequence}
use Rattle.keymap.specs.Image.{Image, image}
use Rattle.keymap.specs.Forest.{Forest, empty, node, tree_of, own_entry, behind_label, list_forest, list_tree, Orderly, ByteLabels, size, width, join}
use Rattle.keymap.specs.BreadthFirst.{rows, row_label, row_value, row_degree, forest_bits, forest_image}
use Rattle.keymap.specs.Decode.{rebuild, rows_from, decode, image_map}
use Rattle.keymap.proofs.Laws.Sums.{sum_below-ext}
use Rattle.keymap.proofs.Laws.Forest.{size-join}
use Rattle.keymap.proofs.Laws.Listing.{list_tree-rising, tree_of-orderly}
use Rattle.keymap.proofs.Laws.BreadthFirst.{queue, length-rows}
use Rattle.keymap.proofs.Laws.LevelOrder.{length-prefixes, image-list_forest, image-forest, length-prefixes-forest}
use Rattle.keymap.proofs.Laws.Image.{decode-forest_image, tree_of-bytes}
use Rattle.keymap.proofs.Laws.Items.{nobody, item_degree, entry_item, orderly-nodes, nodes-orderly}
use Rattle.keymap.proofs.Laws.Rebuilt.{Told, told-spelled, told-image, told-bytes, told-size}
use Rattle.keymap.proofs.Laws.Entries.{get_or-degrees, label_in-entry, value_in-entry, unmarked-entry, forest-told}

-- d children of the root, then the degrees of the other nodes
pub record Shape (i : Image) (d : ℕ) (ds : List ℕ) : Type 0 where
  pub few : length i.labels ≤ most_records
  pub told : Told d ds i.labels i.values
  pub packed : i.words ≡ pack (sequence (d ∷ ds))
  -- the children of the node at index k are the entries from the sum of the degrees before it on
  pub rise : (k j : ℕ) → k ≤ length i.labels → j + 1 < get_or (d ∷ ds) k 0
      → label_in (get_or i.labels (sum_below (λ q. get_or (d ∷ ds) q 0) k + j) 0) < label_in (get_or i.labels (sum_below (λ q. get_or (d ∷ ds) q 0) k + j + 1) 0)
  pub live : (e : ℕ) → e < length i.labels → get_or i.labels e 0 < mark → 0 < get_or ds e 0

-- ---- the image of an orderly trie

module _ (f : Forest) (s : Orderly f) (b : ByteLabels f) (few : size f ≤ most_records) where
  labelled : length (map row_label (rows f)) ≡ size f
  labelled = length-map (rows f) row_label ∙ length-rows f

  sums_same : (k : ℕ) → sum_below (λ q. get_or (width f ∷ map row_degree (rows f)) q 0) k ≡ sum_below (item_degree f) k
  sums_same k = sum_below-ext (λ q. get_or (width f ∷ map row_degree (rows f)) q 0) (item_degree f) k (λ q l. get_or-degrees f q)

  pub forest-shape : Shape (forest_image f) (width f) (map row_degree (rows f))
  unfolding forest_image forest_bits
  forest-shape = record {
    few = rw labelled few;
    told = forest-told f b;
    packed = refl;
    rise = λ k j l h.
        rw (sums_same k, label_in-entry f b (sum_below (item_degree f) k + j), label_in-entry f b (sum_below (item_degree f) k + j + 1))
        ((orderly-nodes f s).rise k j (omega (arith, labelled)) (omega (arith, get_or-degrees f k)));
    live = λ e l u. rw (get_or-degrees f (suc e)) ((orderly-nodes f s).live e (omega (arith, labelled)) (unmarked-entry f b e u));
  }

-- ---- the listing of a trie is proper

-- a value, if there is one, is of 32 bits
abbrev Worth : Option ℕ → Type 0
Worth None = Unit {0}
Worth (Some v) = v < value_limit

abbrev Values : Forest → Type 0
Values empty = Unit {0}
Values (node a w kids next) = Worth w × Values kids × Values next

values-parts : (f g : Forest) → Values (join f g) → Values f × Values g
unfolding join
values-parts empty g v = (tt, v)
values-parts (node a w kids next) g v = let p = values-parts next g v.2 in ((v.0, v.1, p.0), p.1)

queue-values : (n : ℕ) (f : Forest) → size f ≡ n → ((e : ℕ) → e < n → Worth (get_or (queue n f) e nobody).value) → Values f
unfolding queue size
queue-values zero empty h v = tt
queue-values zero (node a w kids next) h v = absurd (omega arith)
queue-values (suc n) empty h v = tt
queue-values (suc n) (node a w kids next) h v =
    let p = values-parts next kids (queue-values n (join next kids) (omega (arith, size-join next kids)) (λ e l. v (suc e) (omega arith))) in
    (v 0 (omega arith), p.1, p.0)

-- the same as `Proper`, but the empty key may be among the keys
abbrev Plain : Map → Type 0
Plain [] = Unit {0}
Plain (e ∷ m) = Bytes e.0 × (e.1 < value_limit) × Plain m

proper-plain : (m : Map) → Proper m → Plain m
proper-plain [] p = tt
proper-plain (e ∷ m) p = (p.1, p.2, proper-plain m p.3)

plain-own : (w : Option ℕ) (m : Map) → Worth w → Plain m → Plain (own_entry w ++ m)
plain-own None m v p = p
plain-own (Some x) m v p = (tt, v, p)

proper-under : (a : ℕ) (l m : Map) → a < byte_limit → Plain l → Proper m → Proper (map (behind_label a) l ++ m)
proper-under a [] m h b p = p
proper-under a (e ∷ l) m h b p = (λ q. cons≢nil q, (h, b.0), b.1, proper-under a l m h b.2 p)

list_forest-proper : (f : Forest) → ByteLabels f → Values f → Proper (list_forest f)
unfolding list_forest
list_forest-proper empty b v = tt
list_forest-proper (node a w kids next) b v =
    proper-under a (own_entry w ++ list_forest kids) (list_forest next) b.0
    (plain-own w (list_forest kids) v.0 (proper-plain (list_forest kids) (list_forest-proper kids b.1 v.1))) (list_forest-proper next b.2 v.2)

value_in-none : (e v : ℕ) → value_in e v ≡ None → e < mark
value_in-none e v h = go (leb mark e) refl
  where
    go : (t : Bool) → leb mark e ≡ t → e < mark
    go true p = let q : Some v ≡ None = rw p at h in let z : ◌≡◌ {A = ℕ} 0 1 = cc in absurd (omega arith)
    go false p = leb-false mark e p

value_in-worth : (e v : ℕ) → v < value_limit → Worth (value_in e v)
value_in-worth e v h = go (leb mark e) refl
  where
    go : (t : Bool) → leb mark e ≡ t → Worth (value_in e v)
    go true p = rw p h
    go false p = rw p tt

-- ---- and back

module _ (i : Image) (d : ℕ) (ds : List ℕ) (c : Shape i d ds) where
  built : Forest
  built = rebuild (rows_from ds i.labels i.values)

  image-built : forest_image built ≡ i
  unfolding built
  image-built = told-image d ds i.labels i.values c.told ∙ (λ t. record { labels = i.labels; values = i.values; words = sym c.packed t })

  bytes-built : ByteLabels built
  unfolding built
  bytes-built = told-bytes d ds i.labels i.values c.told

  decode-built : decode i ≡ built
  decode-built = ap decode (sym image-built) ∙ decode-forest_image built bytes-built

  pub shape-image : forest_image (decode i) ≡ i
  shape-image = ap forest_image decode-built ∙ image-built

  pub shape-bytes : ByteLabels (decode i)
  shape-bytes = rw decode-built bytes-built

  spelled-decode : ◌≡◌ {A = List ℕ} (width (decode i) ∷ map row_degree (rows (decode i))) (d ∷ ds)
  unfolding built
  spelled-decode = rw decode-built (told-spelled d ds i.labels i.values c.told)

  labels-decode : map row_label (rows (decode i)) ≡ i.labels
  unfolding forest_image
  labels-decode = ap (λ (x : Image). x.labels) shape-image

  values-decode : map row_value (rows (decode i)) ≡ i.values
  unfolding forest_image
  values-decode = ap (λ (x : Image). x.values) shape-image

  pub shape-degree : (k : ℕ) → item_degree (decode i) k ≡ get_or (d ∷ ds) k 0
  shape-degree k = sym (get_or-degrees (decode i) k) ∙ ap (λ (l : List ℕ). get_or l k 0) spelled-decode

  pub shape-label : (e : ℕ) → (entry_item (decode i) e).label ≡ label_in (get_or i.labels e 0)
  shape-label e = sym (label_in-entry (decode i) shape-bytes e) ∙ ap (λ (l : List ℕ). label_in (get_or l e 0)) labels-decode

  pub shape-value : (e : ℕ) → (entry_item (decode i) e).value ≡ value_in (get_or i.labels e 0) (get_or i.values e 0)
  shape-value e = sym (value_in-entry (decode i) shape-bytes e) ∙ ap₂ (λ (l v : List ℕ). value_in (get_or l e 0) (get_or v e 0)) labels-decode values-decode

  pub shape_size : size (decode i) ≡ length i.labels
  unfolding built
  shape_size = rw decode-built (told-size d ds i.labels i.values c.told)

  sums-shape : (k : ℕ) → sum_below (item_degree (decode i)) k ≡ sum_below (λ q. get_or (d ∷ ds) q 0) k
  sums-shape k = sum_below-ext (item_degree (decode i)) (λ q. get_or (d ∷ ds) q 0) k (λ q l. shape-degree q)

  pub shape-orderly : Orderly (decode i)
  shape-orderly = nodes-orderly (decode i) (record {
    rise = λ k j l h.
        rw (sums-shape k, shape-label (sum_below (λ q. get_or (d ∷ ds) q 0) k + j), shape-label (sum_below (λ q. get_or (d ∷ ds) q 0) k + j + 1))
        (c.rise k j (omega (arith, shape_size)) (omega (arith, shape-degree k)));
    live = λ e l z. rw (shape-degree (suc e)) (c.live e (omega (arith, shape_size)) (value_in-none (get_or i.labels e 0) (get_or i.values e 0) (sym (shape-value e) ∙ z)));
  })

  -- ---- the map

  pub shape-listing : image_map i ≡ list_forest (decode i)
  unfolding image_map list_tree
  shape-listing = refl

  pub shape-map : image (image_map i) ≡ i
  shape-map = ap image shape-listing ∙ image-list_forest (decode i) shape-orderly ∙ shape-image

  pub shape-few : length (prefixes (image_map i)) ≤ most_records
  shape-few = omega (arith, ap (λ (m : Map). length (prefixes m)) shape-listing, length-prefixes (decode i) shape-orderly, shape_size, c.few)

  pub shape-catalogue : ((e : ℕ) → get_or i.values e 0 < value_limit) → Catalogue (image_map i)
  unfolding image_map list_tree entry_item
  shape-catalogue small = record {
    rising = list_tree-rising (None, decode i) shape-orderly;
    proper = list_forest-proper (decode i) shape-bytes (queue-values (size (decode i)) (decode i) refl each);
  }
    where
      each : (e : ℕ) → e < size (decode i) → Worth (get_or (queue (size (decode i)) (decode i)) e nobody).value
      each e l = rw (shape-value e) (value_in-worth (get_or i.labels e 0) (get_or i.values e 0) (small e))

-- ---- the image of a map has the shape

pub map-shape : (m : Map) → Catalogue m → length (prefixes m) ≤ most_records → Shape (image m) (width (tree_of m).1) (map row_degree (rows (tree_of m).1))
map-shape m c few =
    rw (image-forest m c) (forest-shape (tree_of m).1 (tree_of-orderly m) (tree_of-bytes m c.proper) (omega (arith, length-prefixes-forest m c)))
