-- Navigation on the image of a map, by paths. The degrees that its bits spell are those of its nodes in level order, so the children of a node
-- are the paths one byte longer, in order; and the parent of a node is the path without its last byte, since no path is the child of two.
--
--     children-node     how many children node k has, and their paths by number
--     child-label       where among them the child with a label stands
--     parent-node       the number of a node's parent
-- Assumes nothing.
use Rattle.std.specs.Prelude.{Some}
use Rattle.std.proofs.Common.{◌≡◌, ℕ, zero, suc, ◌+◌, ◌<◌, ◌≤◌, List, [], ◌∷◌, ◌++◌, map, length, get_or, take, sym, refl, ap, ◌∙◌, ap₂, arith}
use lib.ListN.{length-map}
use Rattle.keymap.specs.Key.{Key}
use Rattle.keymap.specs.Map.{Map, Catalogue}
use Rattle.keymap.specs.Members.{In}
use Rattle.keymap.specs.Queries.{SomeBegins}
use Rattle.keymap.specs.Prefixes.{prefixes}
use Rattle.keymap.specs.Bits.{bit, sum_below, pack}
use Rattle.keymap.specs.Degrees.{total}
use Rattle.keymap.specs.Image.{bits_for, children_in, degree, image_bits}
use Rattle.keymap.specs.Paths.{nodes, IsNode, path_of, index_of, node_of}
use Rattle.keymap.proofs.Laws.Sums.{sum_below-ext}
use Rattle.keymap.proofs.Laws.Bits.{bit-small}
use Rattle.keymap.proofs.Laws.Degrees.{total-take}
use Rattle.keymap.proofs.Laws.Image.{length-image_bits}
use Rattle.keymap.proofs.Laws.Paths.{degree_at, get_d_map, index_of-in, path_of-child, children-room, children_in-iff, node_of-node, path_of-node_of, node_of-path_of}
use Rattle.louds.specs.Nodes.{Run}
use Rattle.louds.specs.Nodes.{children_of, parent_of}
use Rattle.louds.proofs.Laws.Nodes.{parent-of-child}
use Rattle.louds.proofs.Laws.Degrees.{children-pack}

-- the bits of a map's image, and how many there are
abbrev pub map_bits : Map → ℕ → ℕ
map_bits m = bit (pack (image_bits m))

abbrev pub map_length : Map → ℕ
map_length m = bits_for (length (prefixes m))

module _ (m : Map) (c : Catalogue m) where
  -- the children of the node at an index are numbered on from those of the nodes before it
  children-index : (i : ℕ) → i < length (nodes m) → children_of (map_bits m) (map_length m) (i + 1) ≡ Run (sum_below (degree_at m) i + 2) (degree_at m i)
  unfolding image_bits nodes path_of
  children-index i h =
      let ds : List ℕ = map (degree m) ([] ∷ prefixes m) in
      let l : i < length ds = omega (arith, length-map ([] ∷ prefixes m) (degree m)) in
      let before : total (take i ds) ≡ sum_below (degree_at m) i =
      sym (total-take ds i) ∙ sum_below-ext (λ j. get_or ds j 0) (degree_at m) i (λ j b. get_d_map (degree m) ([] ∷ prefixes m) j (omega arith)) in
      ap (λ (n : ℕ). children_of (map_bits m) n (i + 1)) (sym (length-image_bits m c))
      ∙ children-pack ds i l
      ∙ ap₂ Run (ap (λ (n : ℕ). n + 2) before) (get_d_map (degree m) ([] ∷ prefixes m) i h)

  -- the children of node k: the first number, and the paths from there on
  pub record ChildrenOf (k : ℕ) : Type 0 where
    pub first : ℕ
    pub run : children_of (map_bits m) (map_length m) k ≡ Run first (degree m (path_of m k))
    pub low : 2 ≤ first
    pub high : first + degree m (path_of m k) ≤ length (nodes m) + 1
    pub inside : (j : ℕ) → j < degree m (path_of m k) → IsNode m (first + j)
    pub paths : (j : ℕ) → j < degree m (path_of m k) → path_of m (first + j) ≡ get_or (children_in m (path_of m k)) j []

  pub children-node : (k : ℕ) → IsNode m k → ChildrenOf k
  unfolding nodes
  children-node zero (l, h) = absurd (omega arith)
  children-node (suc i) (l, h) =
      let inside : i < length (nodes m) = omega arith in
      let room : sum_below (degree_at m) i + 2 + degree_at m i ≤ length (nodes m) + 1 = omega (arith, children-room m c i inside) in
      record {
        first = sum_below (degree_at m) i + 2;
        run = ap (children_of (map_bits m) (map_length m)) (omega arith) ∙ children-index i inside;
        low = omega arith;
        high = room;
        inside = λ j b. (omega arith, omega (arith, room));
        paths = λ j b. ap (path_of m) (omega arith) ∙ path_of-child m c i j inside b;
      }

  -- the child of p with the label a, among its siblings
  pub record ChildBy (p : Key) (a : ℕ) (k first : ℕ) : Type 0 where
    pub place : ℕ
    pub among : place < degree m (path_of m k)
    pub number : node_of m (p ++ (a ∷ [])) ≡ first + place

  pub child-label : (p : Key) (a : ℕ) → In p (nodes m) → SomeBegins (p ++ (a ∷ [])) m → (d : ChildrenOf (node_of m p)) → ChildBy p a (node_of m p) d.first
  unfolding degree
  child-label p a i b d =
      let k : ℕ = node_of m p in
      let q : Key = p ++ (a ∷ []) in
      let own : path_of m k ≡ p = path_of-node_of m p i in
      let (among, there) = index_of-in q (children_in m (path_of m k)) (rw own ((children_in-iff m p q).1 (a, refl, b))) in
      let place : ℕ = index_of q (children_in m (path_of m k)) in
      record {
        place = place;
        among = among;
        number = sym (ap (node_of m) (d.paths place among ∙ there)) ∙ node_of-path_of m c.rising (d.first + place) (d.inside place among);
      }

  pub parent-node : (p : Key) (a : ℕ) → In p (nodes m) → SomeBegins (p ++ (a ∷ [])) m
      → parent_of (map_bits m) (map_length m) (node_of m (p ++ (a ∷ []))) ≡ Some (node_of m p)
  parent-node p a i b =
      let k : ℕ = node_of m p in
      let d = children-node k (node_of-node m p i) in
      let e = child-label p a i b d in
      ap (parent_of (map_bits m) (map_length m)) e.number
      ∙ parent-of-child (map_bits m) (bit-small (pack (image_bits m))) (map_length m) k d.first (degree m (path_of m k)) (d.first + e.place) d.run (omega arith) (omega (arith, e.among))
