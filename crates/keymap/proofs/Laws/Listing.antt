-- An orderly tree and its listing, a rising map, are two forms of one thing: the listing has the tree's values, and both are told apart by them.
--
--     lookup-list_tree       the listing's look-ups are the values at the paths
--     list_tree-rising       the listing rises
--     list_tree-grow         growing is an insert
--     tree_of-orderly        the tree of a map is orderly
--     list_tree-tree_of      a map to its tree and back
--     tree_of-list_tree      an orderly tree to its map and back
--     tree_of-insert         an insert is growing
--     list_forest-tree_of    a catalogue to its forest and back
-- Assumes nothing.
use mathlib.Core.Path.{◌≡◌, refl, sym, ap, ◌∙◌}
use Prim.Native.Nat.{ℕ, ◌<◌, compare, Ordering}
use mathlib.Core.List.{[], ◌∷◌, ◌++◌, map}
use Rattle.std.specs.Prelude.{Option, None, Some}
use Rattle.keymap.specs.Key.{Key, compare_keys}
use Rattle.keymap.specs.Map.{Map, Before, Rising, Proper, Catalogue, insert, lookup}
use Rattle.keymap.specs.Forest.{Forest, empty, node, Tree, branch, grow, value_at, tree_of, own_entry, behind_label, list_forest, list_tree, Above, Live, Orderly}
use Rattle.keymap.proofs.Laws.Key.{Order, order, compare-lt, compare_refl}
use Rattle.keymap.proofs.Laws.Map.{dec_key, insert-rising, lookup-insert-same, lookup-insert-other, map-ext}
use Rattle.keymap.proofs.Laws.Forest.{above-weak, branch-above, value_at-bare, value_at-grow-same, value_at-grow-other, grow-orderly, tree-ext}

-- ---- the answers

lookup-under : (a : ℕ) (k : Key) (l m : Map) → lookup (a ∷ k) m ≡ None → lookup (a ∷ k) (map (behind_label a) l ++ m) ≡ lookup k l
unfolding lookup compare_keys
lookup-under a k [] m h = h
lookup-under a k (e ∷ l) m h = rw (compare_refl, lookup-under a k l m h)

lookup-past : (a b : ℕ) (k : Key) (l m : Map) → compare a b ≡ Ordering.gt → lookup (a ∷ k) (map (behind_label b) l ++ m) ≡ lookup (a ∷ k) m
unfolding lookup compare_keys
lookup-past a b k [] m h = refl
lookup-past a b k (e ∷ l) m h = rw h (lookup-past a b k l m h)

lookup-short : (a b : ℕ) (k : Key) (l m : Map) → compare a b ≡ Ordering.lt → lookup (a ∷ k) m ≡ None → lookup (a ∷ k) (map (behind_label b) l ++ m) ≡ None
unfolding lookup compare_keys
lookup-short a b k [] m h n = n
lookup-short a b k (e ∷ l) m h n = rw h

skip : (b : ℕ) (l m : Map) → lookup [] m ≡ None → lookup [] (map (behind_label b) l ++ m) ≡ None
unfolding lookup compare_keys
skip b [] m h = h
skip b (e ∷ l) m h = refl

lookup-nil : (f : Forest) → lookup [] (list_forest f) ≡ None
unfolding list_forest lookup
lookup-nil empty = refl
lookup-nil (node b w kids next) = skip b (own_entry w ++ list_forest kids) (list_forest next) (lookup-nil next)

-- the answers of a tree's listing, if those of its children are known
tree-lookup : (w : Option ℕ) (f : Forest) → ((a : ℕ) (k : Key) → lookup (a ∷ k) (list_forest f) ≡ value_at k (branch a f)) → (k : Key)
    → lookup k (own_entry w ++ list_forest f) ≡ value_at k (w, f)
unfolding lookup value_at compare_keys
tree-lookup None f h [] = lookup-nil f
tree-lookup (Some v) f h [] = refl
tree-lookup None f h (a ∷ k) = h a k
tree-lookup (Some v) f h (a ∷ k) = h a k

entries-lookup : (f : Forest) → Orderly f → (a : ℕ) (k : Key) → lookup (a ∷ k) (list_forest f) ≡ value_at k (branch a f)
unfolding list_forest branch lookup
entries-lookup empty s a k = sym (value_at-bare k)
entries-lookup (node b w kids next) s a k = go (order a b) (entries-lookup next s.3 a k) (tree-lookup w kids (entries-lookup kids s.2) k)
  where
    go : Order a b → lookup (a ∷ k) (list_forest next) ≡ value_at k (branch a next) → lookup k (own_entry w ++ list_forest kids) ≡ value_at k (w, kids)
        → lookup (a ∷ k) (list_forest (node b w kids next)) ≡ value_at k (branch a (node b w kids next))
    go (Order.below l e f) i j =
        let z : value_at k (branch a next) ≡ None = rw (branch-above a next (above-weak a b next l s.0) s.3) (value_at-bare k) in
        rw e (lookup-short a b k (own_entry w ++ list_forest kids) (list_forest next) e (i ∙ z) ∙ sym z)
    go (Order.same l e) i j =
        let z : value_at k (branch a next) ≡ None = rw (branch-above a next (rw l s.0) s.3) (value_at-bare k) in
        rw (e, ← l) (lookup-under a k (own_entry w ++ list_forest kids) (list_forest next) (i ∙ z) ∙ j)
    go (Order.above l e f) i j = rw e (lookup-past a b k (own_entry w ++ list_forest kids) (list_forest next) e ∙ i)

pub lookup-list_tree : (t : Tree) → Orderly t.1 → (k : Key) → lookup k (list_tree t) ≡ value_at k t
unfolding list_tree
lookup-list_tree t s k = tree-lookup t.0 t.1 (entries-lookup t.1 s) k

-- ---- the order

-- each key of the map stands after every key that begins with a
abbrev After : ℕ → Map → Type 0
After a [] = Unit {0}
After a (e ∷ m) = (k : Key) → compare_keys (a ∷ k) e.0 ≡ Ordering.lt

after-under : (a b : ℕ) (l m : Map) → a < b → After a m → After a (map (behind_label b) l ++ m)
unfolding compare_keys
after-under a b [] m h p = p
after-under a b (e ∷ l) m h p = λ k. rw (compare-lt a b h)

entries-after : (a : ℕ) (f : Forest) → Above a f → Orderly f → After a (list_forest f)
unfolding list_forest
entries-after a empty h s = tt
entries-after a (node b w kids next) h s = after-under a b (own_entry w ++ list_forest kids) (list_forest next) h (entries-after a next (above-weak a b next h s.0) s.3)

front : (a : ℕ) (k : Key) (l m : Map) → Before k l → After a m → Before (a ∷ k) (map (behind_label a) l ++ m)
unfolding compare_keys
front a k [] [] b p = tt
front a k [] (e ∷ m) b p = p k
front a k (e ∷ l) m b p = rw compare_refl b

rising-under : (a : ℕ) (l m : Map) → Rising l → Rising m → After a m → Rising (map (behind_label a) l ++ m)
rising-under a [] m r s p = s
rising-under a (e ∷ l) m r s p = (front a e.0 l m r.0 p, rising-under a l m r.1 s p)

nil-under : (b : ℕ) (l m : Map) → Before [] m → Before [] (map (behind_label b) l ++ m)
unfolding compare_keys
nil-under b [] m h = h
nil-under b (e ∷ l) m h = refl

nil-before : (f : Forest) → Before [] (list_forest f)
unfolding list_forest
nil-before empty = tt
nil-before (node b w kids next) = nil-under b (own_entry w ++ list_forest kids) (list_forest next) (nil-before next)

rising-tree : (w : Option ℕ) (f : Forest) → Rising (list_forest f) → Rising (own_entry w ++ list_forest f)
rising-tree None f r = r
rising-tree (Some v) f r = (nil-before f, r)

entries-rising : (f : Forest) → Orderly f → Rising (list_forest f)
unfolding list_forest
entries-rising empty s = tt
entries-rising (node a w kids next) s =
    rising-under a (own_entry w ++ list_forest kids) (list_forest next) (rising-tree w kids (entries-rising kids s.2)) (entries-rising next s.3) (entries-after a next s.0 s.3)

pub list_tree-rising : (t : Tree) → Orderly t.1 → Rising (list_tree t)
unfolding list_tree
list_tree-rising t s = rising-tree t.0 t.1 (entries-rising t.1 s)

-- ---- an insert is an insert

pub list_tree-grow : (k : Key) (v : ℕ) (t : Tree) → Orderly t.1 → list_tree (grow k v t) ≡ insert k v (list_tree t)
list_tree-grow k v t s =
    map-ext _ _ (list_tree-rising (grow k v t) (grow-orderly k v t s)) (insert-rising k v _ (list_tree-rising t s)) (λ x. go x (dec_key x k))
  where
    go : (x : Key) → Dec (x ≡ k) → lookup x (list_tree (grow k v t)) ≡ lookup x (insert k v (list_tree t))
    go x (yes p) = rw p (lookup-list_tree _ (grow-orderly k v t s) k ∙ value_at-grow-same k v t s ∙ sym (lookup-insert-same k v (list_tree t)))
    go x (no p) = lookup-list_tree _ (grow-orderly k v t s) x ∙ value_at-grow-other k v t x p s ∙ sym (lookup-insert-other k v (list_tree t) x p ∙ lookup-list_tree t s x)

insert-front : (k : Key) (v : ℕ) (m : Map) → Before k m → insert k v m ≡ (k, v) ∷ m
unfolding insert
insert-front k v [] b = refl
insert-front k v (e ∷ m) b = rw b

pub tree_of-orderly : (m : Map) → Orderly (tree_of m).1
unfolding tree_of
tree_of-orderly [] = tt
tree_of-orderly (e ∷ m) = grow-orderly e.0 e.1 (tree_of m) (tree_of-orderly m)

pub list_tree-tree_of : (m : Map) → Rising m → list_tree (tree_of m) ≡ m
unfolding tree_of
list_tree-tree_of [] r = unfold list_tree list_forest in refl
list_tree-tree_of (e ∷ m) r =
    list_tree-grow e.0 e.1 (tree_of m) (tree_of-orderly m) ∙ ap (insert e.0 e.1) (list_tree-tree_of m r.1) ∙ insert-front e.0 e.1 m r.0

pub tree_of-list_tree : (t : Tree) → Orderly t.1 → tree_of (list_tree t) ≡ t
tree_of-list_tree t s = tree-ext _ _ (tree_of-orderly (list_tree t)) s (λ x.
    sym (lookup-list_tree (tree_of (list_tree t)) (tree_of-orderly (list_tree t)) x) ∙ ap (lookup x) (list_tree-tree_of (list_tree t) (list_tree-rising t s)) ∙ lookup-list_tree t s x)

pub tree_of-insert : (k : Key) (v : ℕ) (m : Map) → Rising m → tree_of (insert k v m) ≡ grow k v (tree_of m)
tree_of-insert k v m r =
    ap tree_of (sym (list_tree-grow k v (tree_of m) (tree_of-orderly m) ∙ ap (insert k v) (list_tree-tree_of m r)))
    ∙ tree_of-list_tree (grow k v (tree_of m)) (grow-orderly k v (tree_of m) (tree_of-orderly m))

-- ---- a map of nonempty keys has no value at the root

grow_root : (k : Key) (v : ℕ) (t : Tree) → ¬ (k ≡ []) → (grow k v t).0 ≡ t.0
unfolding grow
grow_root [] v t n = absurd (n refl)
grow_root (a ∷ k) v t n = refl

pub tree_of-root : (m : Map) → Proper m → (tree_of m).0 ≡ None
unfolding tree_of
tree_of-root [] p = refl
tree_of-root (e ∷ m) p = grow_root e.0 e.1 (tree_of m) p.0 ∙ tree_of-root m p.3

pub tree_of-whole : (m : Map) → Proper m → tree_of m ≡ (None, (tree_of m).1)
tree_of-whole m p = λ i. (tree_of-root m p i, (tree_of m).1)

pub list_forest-tree_of : (m : Map) → Catalogue m → list_forest (tree_of m).1 ≡ m
unfolding list_tree
list_forest-tree_of m c = ap list_tree (sym (tree_of-whole m c.proper)) ∙ list_tree-tree_of m c.rising

-- ---- a live tree has an entry

abbrev pub HasEntry : Map → Type 0
HasEntry [] = ⊥
HasEntry (e ∷ m) = Unit {0}

pub list_tree-some : (f : Forest) (w : Option ℕ) → Live w f → Orderly f → HasEntry (own_entry w ++ list_forest f)
unfolding list_forest
list_tree-some empty (Some v) l s = tt
list_tree-some empty None l s = l
list_tree-some (node a u kids next) (Some v) l s = tt
list_tree-some (node a u kids next) None l s = go (own_entry u ++ list_forest kids) (list_tree-some kids u s.1 s.2)
  where
    go : (l : Map) → HasEntry l → HasEntry (map (behind_label a) l ++ list_forest next)
    go [] h = absurd h
    go (e ∷ l) h = tt
