-- On an image that some map has, the rule says what the map says: the children of a node are the paths one byte longer, each with its last byte as its label,
-- so a walk ends at the node of the query's path, and the value found is the query's.
--
--     node_at-there, node_at-none  the node at a path, by whether some key goes there
--     child-rule                   the child of a node with a label
--     step-rule                    a step, from the node at a path
--     walk-rule                    the node at the end of a query
--     kid, node-value              a child of a node, and the value of a node
--     value-rule                   its value
-- Assumes nothing.
use mathlib.Core.Path.{◌≡◌, refl, sym, ap, ap₂, ◌∙◌}
use mathlib.Core.Logic.{inl, inr, ⊎_elim}
use Prim.Native.Nat.{ℕ, ◌+◌, ◌-◌, ◌*◌, ◌≤◌, ◌<◌}
use native.Mathlib.Nat.{lt_of_not-le}
use native.Mathlib.Decide.{dec_le}
use native.Mathlib.Omega.{arith}
use mathlib.Core.Bool.{Bool, true, false, true≢false}
use mathlib.Core.List.{[], ◌∷◌, ◌++◌, append_assoc, append-nil}
use Rattle.std.specs.Prelude.{Option, None, Some}
use lib.ListN.{length, get_or, length-append}
use borrow.Author.Tests.{le-leb, lt-leb}
use Rattle.keymap.specs.Members.{In}
use Rattle.keymap.specs.Key.{Key, last_byte}
use Rattle.keymap.specs.Limits.{byte_limit}
use Rattle.keymap.specs.Map.{Map, lookup}
use Rattle.keymap.specs.Queries.{SomeBegins}
use Rattle.keymap.specs.Label.{mark, label_in, value_in}
use Rattle.keymap.specs.Bits.{bit}
use Rattle.keymap.specs.Image.{Image, bits_for, children_in, degree}
use Rattle.keymap.specs.Paths.{nodes, IsNode, path_of, index_of, node_of, is_path}
use Rattle.keymap.specs.Decode.{image_map}
use Rattle.keymap.proofs.Laws.Key.{last_byte-append, bytes-last}
use Rattle.keymap.proofs.Laws.Members.{get_or-in}
use Rattle.keymap.proofs.Laws.Begins.{prefix_refl, prefix-append}
use Rattle.keymap.proofs.Laws.Map.{lookup-none, lookup-empty}
use Rattle.keymap.proofs.Laws.Label.{label_in-label_entry, value_in-label_entry, label_entry-small}
use Rattle.keymap.proofs.Laws.Paths.{index_of-in, path_of-root, path_of-in, path_of-node_of, path_of-longer, path_bytes, node_of-root, node_of-node, node_of-path_of, nodes-iff, nodes-prefix, is_path-iff, children_in-iff}
use Rattle.louds.proofs.Laws.MapNodes.{ChildrenOf, children-node}
use Rattle.image.specs.Accept.{entries}
use Rattle.image.specs.Meaning.{MapImage}
use Rattle.walks.specs.Rule.{is_child_by, lowest_by, child_by, step_by, walked_from, value_of_node, value_at_end, node_by, found_by}
use Rattle.walks.specs.MapNodes.{node_at}
use Rattle.walks.proofs.Laws.Rule.{FoundChild, is_child_by-told, is_child_by-is, LowestTold, found, missed, lowest-told, child_by-run, walked_from-end, walked_from-step, value_of_node-root, value_of_node-plain, value_of_node-held}
use Rattle.walks.proofs.Laws.MapImage.{length-nodes, length-values, entry-node, value-node, run-node}

-- ---- the node at a path

module _ (m : Map) (p : Key) where
  pub node_at-there : In p (nodes m) → node_at m p ≡ Some (node_of m p)
  unfolding node_at
  node_at-there n = rw ((is_path-iff m p).1 n)

  pub node_at-none : ¬ In p (nodes m) → node_at m p ≡ None
  unfolding node_at
  node_at-none n = go (is_path m p) refl
    where
      go : (t : Bool) → is_path m p ≡ t → node_at m p ≡ None
      go true e = absurd (n ((is_path-iff m p).0 e))
      go false e = rw e

-- a path is a node's or not
pub data PathTold (m : Map) (p : Key) : Type 0 where
  there : In p (nodes m) → node_at m p ≡ Some (node_of m p) → PathTold m p
  absent : ¬ In p (nodes m) → node_at m p ≡ None → PathTold m p

pub path-told : (m : Map) (p : Key) → PathTold m p
path-told m p = go (is_path m p) refl
  where
    go : (t : Bool) → is_path m p ≡ t → PathTold m p
    go true e = let n = (is_path-iff m p).0 e in there n (node_at-there m p n)
    go false e = let n : ¬ In p (nodes m) = λ n. true≢false (sym ((is_path-iff m p).1 n) ∙ e) in absent n (node_at-none m p n)

-- a label's entry is below twice the mark
module _ (i : Image) (h : MapImage i) where
  -- ---- children

  -- the j-th child of node k, of those numbered from first on
  pub record Kid (k first j : ℕ) : Type 0 where
    pub byte : ℕ
    pub inside : IsNode (image_map i) (first + j)
    pub path : path_of (image_map i) (first + j) ≡ path_of (image_map i) k ++ (byte ∷ [])
    pub child : FoundChild i.labels k (first + j) byte

  pub kid : (k : ℕ) → IsNode (image_map i) k → (d : ChildrenOf (image_map i) h.catalogue k) → (j : ℕ) → j < degree (image_map i) (path_of (image_map i) k) → Kid k d.first j
  unfolding degree
  kid k n d j l =
      let m : Map = image_map i in
      let p : Key = path_of m k in
      let c : ℕ = d.first + j in
      let among : In (path_of m c) (children_in m p) = rw (d.paths j l) (get_or-in [] (children_in m p) j l) in
      let (a, path, begins) = (children_in-iff m p (path_of m c)).0 among in
      let inside = d.inside j l in
      let small : last_byte (path_of m c) < byte_limit = bytes-last (path_of m c) (path_bytes m h.catalogue.proper (path_of m c) (path_of-in m c inside)) in
      let longer : length p < length (path_of m c) = omega (arith, ap length path, length-append p (a ∷ [])) in
      let last : last_byte (path_of m c) ≡ a = ap last_byte path ∙ last_byte-append p a in
      let two : 2 ≤ c = omega (arith, d.low) in
      let entry = entry-node i h c inside two in
      record {
        byte = a;
        inside = inside;
        path = path;
        child =
            record {
              two = two;
              above = path_of-longer m h.catalogue.rising k c n inside longer;
              within = omega (arith, inside, length-nodes i h);
              small = omega (arith, entry, label_entry-small (last_byte (path_of m c)) (lookup (path_of m c) m) small);
              label = ap label_in entry ∙ label_in-label_entry (last_byte (path_of m c)) (lookup (path_of m c) m) small ∙ last;
            };
      }

  pub child-rule : (k : ℕ) → IsNode (image_map i) k → (a : ℕ)
      → child_by i.labels (bit i.words) (bits_for (entries i)) k a ≡ node_at (image_map i) (path_of (image_map i) k ++ (a ∷ []))
  unfolding degree
  child-rule k n a =
      child_by-run i.labels (bit i.words) (bits_for (entries i)) k a d.first count (run-node i h k n d)
      ∙ go (lowest_by i.labels k count d.first a) (lowest-told count i.labels k d.first a)
    where
      m : Map
      m = image_map i

      p : Key
      p = path_of m k

      d : ChildrenOf (image_map i) h.catalogue k
      d = children-node (image_map i) h.catalogue k n

      count : ℕ
      count = degree (image_map i) (path_of (image_map i) k)

      go : (o : Option ℕ) → LowestTold i.labels k count d.first a o → o ≡ node_at m (p ++ (a ∷ []))
      go _ (found c l u e) =
          let j : ℕ = c - d.first in
          let same : d.first + j ≡ c = omega arith in
          let b : j < count = omega arith in
          let own = kid k n d j b in
          let label : own.byte ≡ a = sym own.child.label ∙ ap (λ (x : ℕ). label_in (get_or i.labels (x - 2) 0)) same ∙ (is_child_by-told i.labels k c a e).label in
          let inside : IsNode m c = rw same at own.inside in
          let path : path_of m c ≡ p ++ (a ∷ []) = ap (path_of m) (sym same) ∙ own.path ∙ ap (λ (x : ℕ). p ++ (x ∷ [])) label in
          sym (ap (node_at m) (sym path) ∙ node_at-there m (path_of m c) (path_of-in m c inside) ∙ ap Some (node_of-path_of m h.catalogue.rising c inside))
      go _ (missed f) = sym (node_at-none m (p ++ (a ∷ [])) nowhere)
        where
          child : SomeBegins (p ++ (a ∷ [])) m → ⊥
          child begins =
              let (among, at) = index_of-in (p ++ (a ∷ [])) (children_in m p) ((children_in-iff m p (p ++ (a ∷ []))).1 (a, refl, begins)) in
              let j : ℕ = index_of (p ++ (a ∷ [])) (children_in m p) in
              let own = kid k n d j among in
              let same : p ++ (own.byte ∷ []) ≡ p ++ (a ∷ []) = sym own.path ∙ d.paths j among ∙ at in
              let label : own.byte ≡ a = sym (last_byte-append p own.byte) ∙ ap last_byte same ∙ last_byte-append p a in
              let is : is_child_by i.labels k (d.first + j) a ≡ true = is_child_by-is i.labels k (d.first + j) a (rw label at own.child) in
              true≢false (sym is ∙ f (d.first + j) (omega arith) (omega (arith, among)))

          nowhere : ¬ In (p ++ (a ∷ [])) (nodes m)
          nowhere n = ⊎_elim (λ e. omega (arith, ap length e, length-append p (a ∷ []))) child ((nodes-iff m (p ++ (a ∷ []))).0 n)

  -- ---- a walk

  pub step-rule : (p : Key) (a : ℕ) → step_by i.labels (bit i.words) (bits_for (entries i)) a (node_at (image_map i) p) ≡ node_at (image_map i) (p ++ (a ∷ []))
  step-rule p a = go (path-told (image_map i) p)
    where
      m : Map
      m = image_map i

      go : PathTold m p → step_by i.labels (bit i.words) (bits_for (entries i)) a (node_at (image_map i) p) ≡ node_at m (p ++ (a ∷ []))
      go (there n e) =
          ap (λ (o : Option ℕ). step_by i.labels (bit i.words) (bits_for (entries i)) a o) e
          ∙ child-rule (node_of m p) (node_of-node m p n) a
          ∙ ap (λ (x : Key). node_at m (x ++ (a ∷ []))) (path_of-node_of m p n)
      go (absent n e) =
          ap (λ (o : Option ℕ). step_by i.labels (bit i.words) (bits_for (entries i)) a o) e
          ∙ sym (node_at-none m (p ++ (a ∷ [])) (λ own. n (nodes-prefix m p (p ++ (a ∷ [])) (prefix-append p (a ∷ [])) own)))

  walk_from : (q p : Key) → walked_from i.labels (bit i.words) (bits_for (entries i)) q (node_at (image_map i) p) ≡ node_at (image_map i) (p ++ q)
  walk_from [] p = walked_from-end i.labels (bit i.words) (bits_for (entries i)) (node_at (image_map i) p) ∙ ap (node_at (image_map i)) (sym (append-nil p))
  walk_from (a ∷ q) p =
      walked_from-step i.labels (bit i.words) (bits_for (entries i)) a q (node_at (image_map i) p)
      ∙ ap (walked_from i.labels (bit i.words) (bits_for (entries i)) q) (step-rule p a)
      ∙ walk_from q (p ++ (a ∷ []))
      ∙ ap (node_at (image_map i)) (append_assoc p (a ∷ []) q)

  -- the root is node 1
  pub root-rule : node_at (image_map i) [] ≡ Some 1
  root-rule = node_at-there (image_map i) [] ((nodes-iff (image_map i) []).1 (inl refl)) ∙ ap Some (node_of-root (image_map i))

  pub walk-rule : (q : Key) → node_by i q ≡ node_at (image_map i) q
  walk-rule q = ap (walked_from i.labels (bit i.words) (bits_for (entries i)) q) (sym root-rule) ∙ walk_from q []

  -- ---- values

  pub node-value : (k : ℕ) → IsNode (image_map i) k → value_of_node i.labels i.values k ≡ lookup (path_of (image_map i) k) (image_map i)
  node-value k n = root (dec_le 2 k)
    where
      m : Map
      m = image_map i

      p : Key
      p = path_of m k

      small : last_byte p < byte_limit
      small = bytes-last p (path_bytes m h.catalogue.proper p (path_of-in m k n))

      e : ℕ
      e = get_or i.labels (k - 2) 0

      node : 2 ≤ k → Dec (mark ≤ e) → value_of_node i.labels i.values k ≡ lookup p m
      node two t =
          let inside : k - 2 < length i.values = omega (arith, n, length-nodes i h, length-values i h) in
          let entry = entry-node i h k n two in
          let below : e < 2 * mark = omega (arith, entry, label_entry-small (last_byte p) (lookup p m) small) in
          let held : value_in e (get_or i.values (k - 2) 0) ≡ lookup p m = ap₂ value_in entry (value-node i h k n two) ∙ value_in-label_entry (last_byte p) (lookup p m) small in
          mark-is inside below held t
        where
          mark-is : k - 2 < length i.values → e < 2 * mark → value_in e (get_or i.values (k - 2) 0) ≡ lookup p m → Dec (mark ≤ e) → value_of_node i.labels i.values k ≡ lookup p m
          mark-is inside below held (yes l) = value_of_node-held i.labels i.values k two inside l below ∙ (rw (le-leb mark e l) at held)
          mark-is inside below held (no l) = value_of_node-plain i.labels i.values k two inside (lt_of_not-le l) ∙ (rw (lt-leb mark e (lt_of_not-le l)) at held)

      root : Dec (2 ≤ k) → value_of_node i.labels i.values k ≡ lookup p m
      root (yes two) = node two (dec_le mark e)
      root (no l) =
          let one : k ≡ 1 = omega (arith, n) in
          value_of_node-root i.labels i.values k (lt_of_not-le l)
          ∙ sym (ap (λ (x : ℕ). lookup (path_of m x) m) one ∙ ap (λ (x : Key). lookup x m) (path_of-root m) ∙ lookup-empty m h.catalogue.proper)

  pub value-rule : (q : Key) → found_by i q ≡ lookup q (image_map i)
  value-rule q = ap (value_at_end i.labels i.values) (walk-rule q) ∙ go (path-told (image_map i) q)
    where
      m : Map
      m = image_map i

      go : PathTold m q → value_at_end i.labels i.values (node_at m q) ≡ lookup q m
      go (there n e) =
          ap (value_at_end i.labels i.values) e
          ∙ node-value (node_of m q) (node_of-node m q n)
          ∙ ap (λ (x : Key). lookup x m) (path_of-node_of m q n)
      go (absent n e) =
          ap (value_at_end i.labels i.values) e
          ∙ sym ((lookup-none q m h.catalogue.rising).1 (λ v own. n ((nodes-iff m q).1 (inr ((q, v), own, prefix_refl q)))))
