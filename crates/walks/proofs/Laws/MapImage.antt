-- What an image that some map has says of that map: the three slices are the image of `image_map i`, so the laws of a map's image speak of them.
--
--     labels-are, values-are, words_are
--                       the slices by the definitions of an image
--     length-nodes      n entries, and so n + 1 nodes
--     length-values     as many values
--     is_node-is        the test of a number, by how many entries there are
--     entry-node        the label entry of a node
--     value-node        its value
--     bits_are          the bits are those of the map's image
--     run-node          the children of a node, by their numbers and paths
-- Assumes nothing.
use mathlib.Core.Path.{◌≡◌, sym, ap, ◌∙◌}
use Prim.Native.Nat.{ℕ, suc, ◌+◌, ◌-◌, ◌≤◌, ◌<◌}
use native.Mathlib.Omega.{arith}
use mathlib.Core.List.{List}
use lib.ListN.{length, get_or}
use Rattle.keymap.specs.Key.{last_byte}
use Rattle.keymap.specs.Map.{lookup}
use Rattle.keymap.specs.Label.{label_entry, value_word}
use Rattle.keymap.specs.Prefixes.{prefixes}
use Rattle.keymap.specs.Bits.{bit, pack}
use Rattle.keymap.specs.Image.{Image, bits_for, degree, image, image_bits, image_labels, image_values}
use Rattle.keymap.specs.Paths.{nodes, IsNode, is_node, path_of}
use Rattle.keymap.specs.Decode.{image_map}
use Rattle.keymap.proofs.Laws.Image.{length-image_labels, length-image_values}
use Rattle.keymap.proofs.Laws.Paths.{labels-node, values-node}
use Rattle.louds.specs.Nodes.{Run}
use Rattle.louds.specs.Nodes.{children_of}
use Rattle.louds.proofs.Laws.MapNodes.{map_bits, map_length, ChildrenOf}
use Rattle.image.specs.Accept.{entries}
use Rattle.image.specs.Meaning.{MapImage}
use Rattle.walks.specs.Rule.{is_node_of}

module _ (i : Image) (h : MapImage i) where
  pub labels-are : i.labels ≡ image_labels (image_map i)
  unfolding image
  labels-are = sym (ap (λ (x : Image). x.labels) h.whole)

  pub values-are : i.values ≡ image_values (image_map i)
  unfolding image
  values-are = sym (ap (λ (x : Image). x.values) h.whole)

  pub words_are : i.words ≡ pack (image_bits (image_map i))
  unfolding image
  words_are = sym (ap (λ (x : Image). x.words) h.whole)

  pub length-prefixes : length (prefixes (image_map i)) ≡ length i.labels
  length-prefixes = sym (ap length labels-are ∙ length-image_labels (image_map i))

  pub length-nodes : length (nodes (image_map i)) ≡ length i.labels + 1
  unfolding nodes
  length-nodes = omega (arith, length-prefixes)

  pub length-values : length i.values ≡ length i.labels
  length-values = ap length values-are ∙ length-image_values (image_map i) ∙ length-prefixes

  pub is_node-is : (k : ℕ) → is_node_of (entries i) k ≡ is_node (image_map i) k
  unfolding is_node_of is_node
  is_node-is k = rw length-nodes

  -- what the slices say of a node but the root
  pub entry-node : (k : ℕ) → IsNode (image_map i) k → 2 ≤ k
      → get_or i.labels (k - 2) 0 ≡ label_entry (last_byte (path_of (image_map i) k)) (lookup (path_of (image_map i) k) (image_map i))
  entry-node k n l =
      let back : suc (suc (k - 2)) ≡ k = omega arith in
      let e : k - 2 < length (prefixes (image_map i)) = omega (arith, n, length-nodes, length-prefixes) in
      ap (λ (ls : List ℕ). get_or ls (k - 2) 0) labels-are ∙ rw back at (labels-node (image_map i) (k - 2) e)

  pub value-node : (k : ℕ) → IsNode (image_map i) k → 2 ≤ k → get_or i.values (k - 2) 0 ≡ value_word (lookup (path_of (image_map i) k) (image_map i))
  value-node k n l =
      let back : suc (suc (k - 2)) ≡ k = omega arith in
      let e : k - 2 < length (prefixes (image_map i)) = omega (arith, n, length-nodes, length-prefixes) in
      ap (λ (vs : List ℕ). get_or vs (k - 2) 0) values-are ∙ rw back at (values-node (image_map i) (k - 2) e)

  pub bits_are : bit i.words ≡ map_bits (image_map i)
  bits_are = ap bit words_are

  pub bits_length-is : bits_for (entries i) ≡ map_length (image_map i)
  bits_length-is = ap bits_for (sym length-prefixes)

  pub run-node : (k : ℕ) → IsNode (image_map i) k → (d : ChildrenOf (image_map i) h.catalogue k) → children_of (bit i.words) (bits_for (entries i)) k ≡ Run d.first (degree (image_map i) (path_of (image_map i) k))
  run-node k n d = rw (bits_are, bits_length-is) d.run
