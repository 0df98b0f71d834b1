-- Nodes by number and by path. No path comes twice, so the two are inverse; and the children of the node at an index stand together,
-- behind those of the nodes before it, since the nodes but the root are the children of each node in turn.
--
--     path_of-node_of, node_of-path_of  a node's path and number give each other
--     path_of-earlier                   nodes are numbered in breadth-first order, and `path_of-longer`: a longer path
--                                       has a higher number
--     nodes-iff                         the paths of nodes are the root's and those with which some key begins
--     is_path-iff                       and the test says so
--     nodes-prefix                      the way to a node goes over nodes
--     path_of-child                     the paths of a node's children, by their numbers
--     children-room                     where they end
--     children_in-iff                   they are the paths one byte longer with which some key begins
--     children_in-some                  there are some exactly if some longer key begins with the path
--     children_in-ordered               in rising order, which is that of their last bytes: `below-label`
--     labels-node, values-node          what the image says of a node
-- Assumes nothing.
use mathlib.Core.Path.{◌≡◌, refl, sym, ap, ◌∙◌}
use mathlib.Core.Logic.{◌↔◌, ◌⊎◌, inl, inr, ⊎_elim}
use Prim.Native.Nat.{ℕ, zero, suc, ◌+◌, ◌<◌, ◌≤◌}
use native.Mathlib.Omega.{arith}
use native.Mathlib.Nat.{zero-add, not-suc-le-zero, le_of_suc-le-suc}
use mathlib.Core.List.Memᴰ
use mathlib.Core.List.{List, [], ◌∷◌, ◌++◌, map, flat_map, append_assoc, cons-ne-nil}
use mathlib.Core.Bool.{Bool, true, false, false≢true}
use lib.ListN.{length, get_or, get_or-append, length-append}
use lib.Seq.{get_or-append-add}
use lib.Dec.{leb}
use borrow.Author.Tests.{leb-true, le-leb}
use Rattle.keymap.specs.Members.{In, here, there, Ordered, Distinct}
use Rattle.keymap.specs.Key.{Key, Bytes, PrefixOf, compare_keys, Below, begins_with, last_byte}
use Rattle.keymap.specs.Label.{label_entry, value_word}
use Rattle.keymap.specs.Map.{Entry, Map, Rising, Proper, Catalogue, lookup}
use Rattle.keymap.specs.Queries.{keep, nonempty, SomeBegins, is_prefix_in}
use Rattle.keymap.specs.Prefixes.{level, prefixes, Earlier}
use Rattle.keymap.specs.Bits.{sum_below}
use Rattle.keymap.specs.Image.{children_in, degree, image_labels, image_values}
use Rattle.keymap.specs.Paths.{nodes, IsNode, is_node, path_of, index_of, node_of, is_path}
use Rattle.keymap.proofs.Laws.Sums.{sum_below-zero, sum_below-suc, sum_below-first, sum_below-mono}
use Rattle.keymap.proofs.Laws.Members.{get_or-in, ordered-get_or}
use Rattle.keymap.proofs.Laws.Key.{Order, order, compare-lt, compare_refl, KeyOrder, key_order, compare_keys-refl}
use Rattle.keymap.proofs.Laws.Begins.{both_true, bytes-prefix, prefix-iff, prefix_trans, prefix-length, prefix-whole}
use Rattle.keymap.proofs.Laws.Queries.{keep-iff, keep-ordered, nonempty-beginning, is_prefix_in-iff}
use Rattle.keymap.proofs.Laws.Map.{dec_key, proper-in}
use Rattle.keymap.proofs.Laws.Prefixes.{level-iff, level-ordered, prefixes-iff, prefixes-ordered, prefixes-distinct}
use Rattle.keymap.proofs.Laws.Children.{prefixes-children}

-- ---- where a key stands in a list

pub index_of-here : (p : Key) (ps : List Key) → index_of p (p ∷ ps) ≡ 0
unfolding index_of
index_of-here p ps = rw compare_keys-refl

pub index_of-past : (p q : Key) (ps : List Key) → ¬ (p ≡ q) → index_of p (q ∷ ps) ≡ suc (index_of p ps)
unfolding index_of
index_of-past p q ps n = go (key_order p q)
  where
    go : KeyOrder p q → index_of p (q ∷ ps) ≡ suc (index_of p ps)
    go (KeyOrder.below e f) = rw e
    go (KeyOrder.same s e) = absurd (n s)
    go (KeyOrder.above e f) = rw e

-- a key of the list stands at its index
pub index_of-in : (p : Key) (ps : List Key) → In p ps → (index_of p ps < length ps) × (get_or ps (index_of p ps) [] ≡ p)
index_of-in p [] h = absurd (Memᴰ.not-nil h)
index_of-in p (q ∷ ps) h = go (dec_key p q) (λ i. index_of-in p ps i)
  where
    go : Dec (p ≡ q) → (In p ps → (index_of p ps < length ps) × (get_or ps (index_of p ps) [] ≡ p))
        → (index_of p (q ∷ ps) < length (q ∷ ps)) × (get_or (q ∷ ps) (index_of p (q ∷ ps)) [] ≡ p)
    go (yes s) ih = rw (s, index_of-here q ps) (omega arith, refl)
    go (no n) ih =
        let (l, e) = ih (⊎_elim (λ s. absurd (n s)) (λ i. i) (Memᴰ.cases_cons h)) in
        rw (index_of-past p q ps n) (omega arith, e)

index_of-get_or : (ps : List Key) → Distinct ps → (i : ℕ) → i < length ps → index_of (get_or ps i []) ps ≡ i
index_of-get_or [] o i h = absurd (not-suc-le-zero h)
index_of-get_or (p ∷ ps) o zero h = index_of-here p ps
index_of-get_or (p ∷ ps) o (suc i) h =
    let l : i < length ps = le_of_suc-le-suc h in
    index_of-past (get_or ps i []) p ps (λ s. o.0 (get_or ps i []) (get_or-in [] ps i l) (sym s)) ∙ ap suc (index_of-get_or ps o.1 i l)

-- ---- nodes

pub path_of-root : (m : Map) → path_of m 1 ≡ []
unfolding path_of nodes
path_of-root m = refl

pub is_node-iff : (m : Map) (k : ℕ) → (is_node m k ≡ true) ↔ IsNode m k
unfolding is_node
is_node-iff m k =
    let both = both_true (leb 1 k) (leb k (length (nodes m))) in
    (λ h. let (l, u) = both.0 h in (leb-true _ _ l, leb-true _ _ u), λ h. both.1 (le-leb _ _ h.0, le-leb _ _ h.1))

pub path_of-in : (m : Map) (k : ℕ) → IsNode m k → In (path_of m k) (nodes m)
unfolding path_of
path_of-in m zero (l, h) = absurd (omega arith)
path_of-in m (suc i) (l, h) = get_or-in [] (nodes m) i (omega arith)

pub node_of-node : (m : Map) (p : Key) → In p (nodes m) → IsNode m (node_of m p)
unfolding node_of
node_of-node m p i = (omega arith, omega (arith, (index_of-in p (nodes m) i).0))

pub path_of-node_of : (m : Map) (p : Key) → In p (nodes m) → path_of m (node_of m p) ≡ p
unfolding path_of node_of
path_of-node_of m p i = (index_of-in p (nodes m) i).1

nodes-distinct : (m : Map) → Rising m → Distinct (nodes m)
unfolding nodes
nodes-distinct m r = (λ p i e. ((prefixes-iff m p).0 i).0 (sym e), prefixes-distinct m r)

-- nodes are numbered in breadth-first order
pub path_of-earlier : (m : Map) → Rising m → (j k : ℕ) → IsNode m j → IsNode m k → j < k → Earlier (path_of m j) (path_of m k)
unfolding path_of nodes
path_of-earlier m r zero k (l, h) n b = absurd (omega arith)
path_of-earlier m r (suc j) zero n (l, h) b = absurd (omega arith)
path_of-earlier m r (suc j) (suc k) n (l, h) b = ordered-get_or Earlier [] (nodes m) (root-first, prefixes-ordered m r) j k (omega arith) (omega arith)
  where
    root-first : (p : Key) → In p (prefixes m) → Earlier [] p
    root-first p i = inl (positive p ((prefixes-iff m p).0 i).0)
      where
        positive : (q : Key) → ¬ (q ≡ []) → 0 < length q
        positive [] n = absurd (n refl)
        positive (a ∷ q) n = omega arith

-- so a longer path has a higher number
pub path_of-longer : (m : Map) → Rising m → (j k : ℕ) → IsNode m j → IsNode m k → length (path_of m j) < length (path_of m k) → j < k
path_of-longer m r j k n h l = go (order j k)
  where
    go : Order j k → j < k
    go (Order.below b e f) = b
    go (Order.same b e) = absurd (omega (arith, ap (λ (x : ℕ). length (path_of m x)) b))
    go (Order.above b e f) = absurd (⊎_elim (λ g. omega arith) (λ g. omega (arith, g.0)) (path_of-earlier m r k j h n b))

pub node_of-path_of : (m : Map) → Rising m → (k : ℕ) → IsNode m k → node_of m (path_of m k) ≡ k
unfolding path_of node_of
node_of-path_of m r zero (l, h) = absurd (omega arith)
node_of-path_of m r (suc i) (l, h) = ap suc (index_of-get_or (nodes m) (nodes-distinct m r) i (omega arith))

-- one path, one number
pub path_of-one : (m : Map) → Rising m → (j k : ℕ) → IsNode m j → IsNode m k → path_of m j ≡ path_of m k → j ≡ k
path_of-one m r j k h n e = sym (node_of-path_of m r j h) ∙ ap (node_of m) e ∙ node_of-path_of m r k n

pub node_of-root : (m : Map) → node_of m [] ≡ 1
unfolding node_of nodes
node_of-root m = ap suc (index_of-here [] (prefixes m))

-- a path is a node's exactly if it is the root's or some key begins with it
pub nodes-iff : (m : Map) (p : Key) → In p (nodes m) ↔ ((p ≡ []) ⊎ SomeBegins p m)
unfolding nodes
nodes-iff m p = (
  λ h. ⊎_elim (λ e. inl e) (λ i. inr ((prefixes-iff m p).0 i).1) (Memᴰ.cases_cons h),
  λ h. ⊎_elim (λ e. here e) (λ b. go b (dec_key p [])) h,
)
  where
    go : SomeBegins p m → Dec (p ≡ []) → In p ([] ∷ prefixes m)
    go b (yes e) = here e
    go b (no n) = there ((prefixes-iff m p).1 (n, b))

pub is_path-iff : (m : Map) (p : Key) → (is_path m p ≡ true) ↔ In p (nodes m)
is_path-iff m [] = (λ h. (nodes-iff m []).1 (inl refl), λ h. refl)
is_path-iff m (a ∷ p) = (
  λ h. (nodes-iff m (a ∷ p)).1 (inr ((nonempty-beginning (a ∷ p) m).0 h)),
  λ h. ⊎_elim (λ e. absurd (cons-ne-nil a p e)) (λ b. (nonempty-beginning (a ∷ p) m).1 b) ((nodes-iff m (a ∷ p)).0 h),
)

-- the way to a node goes over nodes
pub nodes-prefix : (m : Map) (p q : Key) → PrefixOf p q → In q (nodes m) → In p (nodes m)
nodes-prefix m p q h n = ⊎_elim root (λ b. (nodes-iff m p).1 (inr (b.0, b.1, prefix_trans p q b.0.0 h b.2))) ((nodes-iff m q).0 n)
  where
    root : q ≡ [] → In p (nodes m)
    root e = (nodes-iff m p).1 (inl (prefix-whole p [] (rw e at h) (omega arith)))

-- a node's path is of bytes
pub path_bytes : (m : Map) → Proper m → (p : Key) → In p (nodes m) → Bytes p
path_bytes m r p h = ⊎_elim (λ e. rw e tt) (λ b. bytes-prefix p b.0.0 b.2 (proper-in m r b.0 b.1).1) ((nodes-iff m p).0 h)

-- ---- children

-- of lists laid end to end, the j-th of the k-th
flat_map-run : (g : Key → List Key) (ps : List Key) (k j : ℕ) → k < length ps → j < length (g (get_or ps k []))
    → get_or (flat_map g ps) (sum_below (λ i. length (g (get_or ps i []))) k + j) [] ≡ get_or (g (get_or ps k [])) j []
unfolding flat_map
flat_map-run g [] k j h l = absurd (not-suc-le-zero h)
flat_map-run g (p ∷ ps) zero j h l =
    rw (sum_below-zero (λ i. length (g (get_or (p ∷ ps) i []))), zero-add) (get_or-append (g p) (flat_map g ps) [] j l)
flat_map-run g (p ∷ ps) (suc k) j h l =
    let at : sum_below (λ i. length (g (get_or (p ∷ ps) i []))) (suc k) + j ≡ length (g p) + (sum_below (λ i. length (g (get_or ps i []))) k + j) =
    omega (arith, sum_below-first (λ i. length (g (get_or (p ∷ ps) i []))) k) in
    rw at
    (get_or-append-add (g p) (flat_map g ps) (sum_below (λ i. length (g (get_or ps i []))) k + j) [] ∙ flat_map-run g ps k j (le_of_suc-le-suc h) l)

length-flat_map : (g : Key → List Key) (ps : List Key) → length (flat_map g ps) ≡ sum_below (λ i. length (g (get_or ps i []))) (length ps)
unfolding flat_map
length-flat_map g [] = sym (sum_below-zero (λ i. length (g (get_or [] i []))))
length-flat_map g (p ∷ ps) =
    omega (arith, length-append (g p) (flat_map g ps), length-flat_map g ps, sum_below-first (λ i. length (g (get_or (p ∷ ps) i []))) (length ps))

-- the degrees of the nodes, by index
abbrev pub degree_at : Map → ℕ → ℕ
degree_at m i = degree m (path_of m (suc i))

-- the j-th child of the node at an index: its number is 2 more than the degrees before it and j
pub path_of-child : (m : Map) → Catalogue m → (i j : ℕ) → i < length (nodes m) → j < degree_at m i
    → path_of m (suc (suc (sum_below (degree_at m) i + j))) ≡ get_or (children_in m (path_of m (suc i))) j []
unfolding path_of nodes degree
path_of-child m c i j h l =
    ap (λ (ps : List Key). get_or ps (sum_below (degree_at m) i + j) []) (prefixes-children m c) ∙ flat_map-run (children_in m) ([] ∷ prefixes m) i j h l

-- the last child of a node is a node
pub children-room : (m : Map) → Catalogue m → (i : ℕ) → i < length (nodes m) → sum_below (degree_at m) i + degree_at m i ≤ length (prefixes m)
unfolding path_of nodes degree
children-room m c i h =
    let all : length (prefixes m) ≡ sum_below (degree_at m) (length (nodes m)) =
    ap length (prefixes-children m c) ∙ length-flat_map (children_in m) ([] ∷ prefixes m) in
    omega (arith, all, sum_below-suc (degree_at m) i, sum_below-mono (degree_at m) {i = suc i} {j = length (nodes m)} h)

-- ---- what a node's children are

child-byte : (r : Key) → length r ≡ 1 → (a : ℕ) × (r ≡ a ∷ [])
child-byte [] h = absurd (omega arith)
child-byte (a ∷ []) h = (a, refl)
child-byte (a ∷ b ∷ r) h = absurd (omega arith)

pub children_in-iff : (m : Map) (p q : Key) → In q (children_in m p) ↔ ((a : ℕ) × (q ≡ p ++ (a ∷ [])) × SomeBegins q m)
unfolding children_in
children_in-iff m p q = (there-to, back)
  where
    there-to : In q (keep (begins_with p) (level (suc (length p)) m)) → (a : ℕ) × (q ≡ p ++ (a ∷ [])) × SomeBegins q m
    there-to h =
        let (i, b) = (keep-iff (begins_with p) q (level (suc (length p)) m)).0 h in
        let (l, s) = (level-iff (suc (length p)) m q).0 i in
        let (r, e) = (prefix-iff p q).0 b in
        let one : length r ≡ 1 = omega (arith, ap length e, length-append p r) in
        let (a, f) = child-byte r one in
        (a, e ∙ ap (λ (t : Key). p ++ t) f, s)

    back : (a : ℕ) × (q ≡ p ++ (a ∷ [])) × SomeBegins q m → In q (keep (begins_with p) (level (suc (length p)) m))
    back (a, e, s) =
        let l : length q ≡ suc (length p) = omega (arith, ap length e, length-append p (a ∷ [])) in
        (keep-iff (begins_with p) q (level (suc (length p)) m)).1 ((level-iff (suc (length p)) m q).1 (l, s), (prefix-iff p q).1 (a ∷ [], e))

pub children_in-ordered : (m : Map) → Rising m → (p : Key) → Ordered Below (children_in m p)
unfolding children_in
children_in-ordered m r p = keep-ordered (begins_with p) Below (level (suc (length p)) m) (level-ordered (suc (length p)) m r)

-- siblings stand as their last bytes do
pub below-label : (p : Key) (a b : ℕ) → Below (p ++ (a ∷ [])) (p ++ (b ∷ [])) ↔ (a < b)
unfolding compare_keys
below-label [] a b = (go (order a b), λ l. rw (compare-lt a b l))
  where
    go : Order a b → Below (a ∷ []) (b ∷ []) → a < b
    go (Order.below l e f) h = l
    go (Order.same l e) h = let z : ◌≡◌ {A = ℕ} 0 1 = cc in absurd (omega arith)
    go (Order.above l e f) h = let z : ◌≡◌ {A = ℕ} 0 1 = cc in absurd (omega arith)
below-label (c ∷ p) a b = rw compare_refl (below-label p a b)

-- two tests that are true together are the same
pub tests_same : (s t : Bool) → (s ≡ true → t ≡ true) → (t ≡ true → s ≡ true) → s ≡ t
tests_same true t g h = sym (g refl)
tests_same false true g h = h refl
tests_same false false g h = refl

nonempty_iff : {A : Type 0} (xs : List A) → (nonempty xs ≡ true) ↔ ((x : A) × In x xs)
nonempty_iff [] = (λ h. absurd (false≢true h), λ h. absurd (Memᴰ.not-nil h.1))
nonempty_iff (x ∷ xs) = (λ h. (x, here refl), λ h. refl)

-- a node has a child exactly if some key is longer than its path and begins with it
pub children_in-some : (m : Map) (p : Key) → nonempty (children_in m p) ≡ is_prefix_in p m
children_in-some m p = tests_same (nonempty (children_in m p)) (is_prefix_in p m) longer-key child
  where
    longer-key : nonempty (children_in m p) ≡ true → is_prefix_in p m ≡ true
    longer-key h =
        let (q, i) = (nonempty_iff (children_in m p)).0 h in
        let (a, e, (d, j, b)) = (children_in-iff m p q).0 i in
        let l : length q ≡ suc (length p) = omega (arith, ap length e, length-append p (a ∷ [])) in
        (is_prefix_in-iff p m).1 (d, j, prefix_trans p q d.0 ((prefix-iff p q).1 (a ∷ [], e)) b, omega (arith, prefix-length q d.0 b))

    first_byte : (d : Entry) (r : Key) → d.0 ≡ p ++ r → length p < length d.0 → In d m → (q : Key) × In q (children_in m p)
    first_byte d [] e l j = absurd (omega (arith, ap length e, length-append p []))
    first_byte d (a ∷ r) e l j =
        let q : Key = p ++ (a ∷ []) in
        (q, (children_in-iff m p q).1 (a, refl, (d, j, (prefix-iff q d.0).1 (r, e ∙ sym (append_assoc p (a ∷ []) r)))))

    child : is_prefix_in p m ≡ true → nonempty (children_in m p) ≡ true
    child h =
        let (d, j, b, l) = (is_prefix_in-iff p m).0 h in
        let (r, e) = (prefix-iff p d.0).0 b in
        (nonempty_iff (children_in m p)).1 (first_byte d r e l j)

-- ---- what an image says of a node

-- inside a list what stands beyond it does not matter
pub get_d_map : (f : Key → ℕ) (ps : List Key) (i : ℕ) → i < length ps → get_or (map f ps) i 0 ≡ f (get_or ps i [])
get_d_map f [] i h = absurd (not-suc-le-zero h)
get_d_map f (p ∷ ps) zero h = refl
get_d_map f (p ∷ ps) (suc i) h = get_d_map f ps i (le_of_suc-le-suc h)

pub labels-node : (m : Map) (i : ℕ) → i < length (prefixes m)
    → get_or (image_labels m) i 0 ≡ label_entry (last_byte (path_of m (suc (suc i)))) (lookup (path_of m (suc (suc i))) m)
unfolding image_labels path_of nodes
labels-node m i h = get_d_map (λ p. label_entry (last_byte p) (lookup p m)) (prefixes m) i h

pub values-node : (m : Map) (i : ℕ) → i < length (prefixes m) → get_or (image_values m) i 0 ≡ value_word (lookup (path_of m (suc (suc i))) m)
unfolding image_values path_of nodes
values-node m i h = get_d_map (λ p. value_word (lookup p m)) (prefixes m) i h
