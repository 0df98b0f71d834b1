-- Laws of the map that a sound pool holds. A chain of siblings is a list of records, so what hangs below a record is the list of its children with what hangs below each;
-- going down that forest by bytes is going down the records by labels. No way is longer than the records are many, so the levels never run out.
--
--     below-children                  what hangs below a record is its children, each with what hangs below it
--     value-spelled, value-unspelled  the forest's value at a path, by the record that it spells
--     forest-orderly                  the forest is a trie's
--     map-rising, map-catalogue       the map rises, and is one that a pool can hold
--     map-forest                      it is the forest's listing
--     map-holds                       its entries are the keys that marked records spell, with their values
--     map-prefixes                    its distinct nonempty prefixes are the paths of the records in use
--     count-prefixes                  so they are as many as the records in use
--     count-forest                    and as the nodes of the forest
--     missing-rest                    a key misses the bytes behind which its path stops
-- Assumes nothing.
use Prim.Native.Nat.{ℕ, zero, suc, ◌+◌, ◌-◌, ◌≤◌, ◌<◌}
use mathlib.Core.Path.{◌≡◌, refl, sym, ◌∙◌, ap, subst}
use mathlib.Core.Bool.{Bool, true, false}
use mathlib.Core.List.{List, [], ◌∷◌, ◌++◌, map}
use mathlib.Core.Logic.{◌⊎◌, inl, inr, ⊎_elim, ◌↔◌}
use Rattle.std.specs.Prelude.{Option, None, Some}
use native.Mathlib.Omega.{arith}
use native.Mathlib.Nat.{eq-or-lt_of_le}
use lib.ListN.{length, length-append, length-map}
use lib.Dec.{eqb}
use borrow.Author.Tests.{eq-eqb, ne_eqb, eqb-false, le-leb, lt-leb}
use Rattle.keymap.specs.Limits.{value_limit}
use Rattle.keymap.specs.Label.{mark}
use Rattle.keymap.specs.Key.{Key, Bytes, PrefixOf}
use Rattle.keymap.specs.Map.{Entry, Map, Rising, Proper, Catalogue, insert, lookup}
use Rattle.keymap.specs.Members as members
use mathlib.Core.List.Memᴰ
use Rattle.keymap.specs.Queries.{SomeBegins}
use Rattle.keymap.specs.Prefixes.{prefixes, missing}
use Rattle.keymap.specs.Forest.{Forest, empty, node, Tree, bare, branch, descend, value_at, grow, list_forest, list_tree, Above, Live, Orderly, size}
use Rattle.keymap.proofs.Laws.Forest.{fresh_label, fresh_nodes, value_at-bare, value_at-descend, grow-orderly, size-grow}
use Rattle.keymap.proofs.Laws.Listing.{lookup-list_tree, list_tree-rising, list_tree-grow}
use Rattle.keymap.proofs.Laws.Map.{lookup-iff}
use Rattle.keymap.proofs.Laws.Begins.{prefix-iff, prefix-append}
use Rattle.keymap.proofs.Laws.Members.{in_map, distinct-same, ordered-weak, ordered-map}
use Rattle.keymap.proofs.Laws.Prefixes.{prefixes-iff, prefixes-distinct, prefixes-insert}
use Rattle.keymap.proofs.Laws.LevelOrder.{length-prefixes}
use Rattle.records.specs.Words.{Pool, entry, label, value, record_value, first_child, next_sibling, parent, last_record, used_count, InUse, Node, Bounded}
use Rattle.records.specs.Sound.{Among, Chain, LabelsRise, ChildChain, Sound}
use Rattle.records.specs.Spelling.{ChildBy, Spells, Stops, record_path}
use Rattle.records.specs.Meaning.{siblings_from, forest_below, pool_forest, pool_map, Holds}
use Rattle.records.proofs.Laws.Distinct.{below_or_not}
use Rattle.records.proofs.Laws.Words.{count-last}
use Rattle.records.proofs.Laws.Sound.{rises-above, children-most}
use Rattle.records.proofs.Laws.Spelling.{spells-join, spells-cut, spells-child, spells-in-use, spells-one-record, spells-most, path-spells, path-only, child-or-not, spelled-or-not}

-- ---- a chain of siblings
-- these records as siblings
abbrev pub forest_of : Pool → (ℕ → Forest) → List ℕ → Forest
forest_of p below [] = empty
forest_of p below (x ∷ xs) = node (label p x) (record_value p x) (below x) (forest_of p below xs)

module _ (p : Pool) (below : ℕ → Forest) where
  siblings-chain : (f x : ℕ) (xs : List ℕ) → Chain (next_sibling p) x xs → length xs ≤ f → siblings_from p below f x ≡ forest_of p below xs
  unfolding siblings_from
  siblings-chain zero x [] h l = refl
  siblings-chain (suc f) x [] h l = simp (eq-eqb _ _ h)
  siblings-chain zero x (y ∷ ys) h l = absurd (omega arith)
  siblings-chain (suc f) x (y ∷ ys) h l =
      let r = siblings-chain f (next_sibling p y) ys h.2 (omega arith) in
      rw (h.0, ne_eqb y 0 (λ e. omega (arith, h.1)), r)

  branch-found : (l : ℕ) (xs : List ℕ) → LabelsRise p l xs → (x b : ℕ) → Among x xs → label p x ≡ b → branch b (forest_of p below xs) ≡ (record_value p x, below x)
  unfolding branch
  branch-found l [] r x b i e = absurd i
  branch-found l (y ∷ ys) r x b (inl i) e = rw (eq-eqb b (label p y) (sym e ∙ ap (λ (k : ℕ). label p k) i)) (let j : y ≡ x = sym i in λ t. (record_value p (j t), below (j t)))
  branch-found l (y ∷ ys) r x b (inr i) e =
      let up : label p y + 1 ≤ label p x = rises-above p (label p y + 1) ys r.1 x i in
      rw (ne_eqb b (label p y) (λ q. omega arith)) (branch-found (label p y + 1) ys r.1 x b i e)

  branch-none : (xs : List ℕ) (b : ℕ) → ((x : ℕ) → Among x xs → label p x ≡ b → ⊥) → branch b (forest_of p below xs) ≡ bare
  unfolding branch
  branch-none [] b h = refl
  branch-none (y ∷ ys) b h = rw (ne_eqb b (label p y) (λ q. h y (inl refl) (sym q))) (branch-none ys b (λ x i. h x (inr i)))

  fresh-found : (xs : List ℕ) (x b : ℕ) → Among x xs → label p x ≡ b → fresh_label b (forest_of p below xs) ≡ 0
  unfolding fresh_label
  fresh-found [] x b i e = absurd i
  fresh-found (y ∷ ys) x b i e = go (eqb b (label p y)) refl i (λ j. fresh-found ys x b j e)
    where
      go : (t : Bool) → eqb b (label p y) ≡ t → (x ≡ y) ⊎ Among x ys → (Among x ys → fresh_label b (forest_of p below ys) ≡ 0) → fresh_label b (forest_of p below (y ∷ ys)) ≡ 0
      go true q j ih = rw q
      go false q (inl j) ih = absurd (eqb-false b (label p y) q (sym e ∙ ap (λ (k : ℕ). label p k) j))
      go false q (inr j) ih = rw q (ih j)

  fresh-none : (xs : List ℕ) (b : ℕ) → ((x : ℕ) → Among x xs → label p x ≡ b → ⊥) → fresh_label b (forest_of p below xs) ≡ 1
  unfolding fresh_label
  fresh-none [] b h = refl
  fresh-none (y ∷ ys) b h = rw (ne_eqb b (label p y) (λ q. h y (inl refl) (sym q))) (fresh-none ys b (λ x i. h x (inr i)))

  -- each of the records has a value or something below it, and what is below it is orderly
  forest-of-orderly : (l : ℕ) (xs : List ℕ) → LabelsRise p l xs → ((x : ℕ) → Among x xs → Live (record_value p x) (below x) × Orderly (below x)) → Orderly (forest_of p below xs)
  forest-of-orderly l [] r h = tt
  forest-of-orderly l (y ∷ ys) r h =
      let o = h y (inl refl) in (above ys r.1, o.0, o.1, forest-of-orderly (label p y + 1) ys r.1 (λ x i. h x (inr i)))
    where
      above : (zs : List ℕ) → LabelsRise p (label p y + 1) zs → Above (label p y) (forest_of p below zs)
      above [] q = tt
      above (z ∷ zs) q = omega (arith, q.0)

-- ---- going down
module _ (p : Pool) (K : (c : ℕ) → Node p c → ChildChain p c) where
  pub below-children : (f i : ℕ) (n : Node p i) → forest_below (suc f) p i ≡ forest_of p (forest_below f p) (K i n).kids
  unfolding forest_below
  below-children f i n = siblings-chain p (forest_below f p) (last_record p) (first_child p i) (K i n).kids (K i n).chain (children-most p i (K i n))

  branch-child : (f i b x : ℕ) → Node p i → ChildBy p i b x → branch b (forest_below (suc f) p i) ≡ (record_value p x, forest_below f p x)
  branch-child f i b x n c =
      let k = K i n in
      rw (below-children f i n) (branch-found p (forest_below f p) 0 k.kids k.rising x b (k.all x c.0 c.1) c.2)

  branch-childless : (f i b : ℕ) → Node p i → ((x : ℕ) → ChildBy p i b x → ⊥) → branch b (forest_below f p i) ≡ bare
  unfolding forest_below branch
  branch-childless zero i b n h = refl
  branch-childless (suc f) i b n h =
      let k = K i n in
      rw (below-children f i n) (branch-none p (forest_below f p) k.kids b (λ x m e. let o = k.only x m in h x (o.0, o.1, e)))

  descend-spelled : (bs : Key) (f i c : ℕ) → Node p i → Spells p i bs c → length bs ≤ f → descend bs (record_value p i, forest_below f p i) ≡ (record_value p c, forest_below (f - length bs) p c)
  unfolding descend
  descend-spelled [] f i c n s l = let z : f ≡ f - 0 = omega arith in λ t. (record_value p (s t), forest_below (z t) p (s t))
  descend-spelled (b ∷ bs) zero i c n s l = absurd (omega arith)
  descend-spelled (b ∷ bs) (suc f) i c n s l =
      let z : f - length bs ≡ suc f - suc (length bs) = omega arith in
      rw (branch-child f i b s.0 n s.1) (descend-spelled bs f s.0 c (inr s.1.0) s.2 (omega arith) ∙ (λ t. (record_value p c, forest_below (z t) p c)))

  value-lost : (bs : Key) (f i : ℕ) (w : Option ℕ) → Node p i → ((c : ℕ) → Spells p i bs c → ⊥) → value_at bs (w, forest_below f p i) ≡ None
  unfolding value_at descend forest_below branch
  value-lost [] f i w n h = absurd (h i refl)
  value-lost (b ∷ bs) zero i w n h = value_at-bare bs
  value-lost (b ∷ bs) (suc f) i w n h =
      ⊎_elim
      (λ r.
      subst (λ (t : Tree). value_at bs t ≡ None) (sym (branch-child f i b r.0 n r.1))
      (value-lost bs f r.0 (record_value p r.0) (inr r.1.0) (λ c s. h c (r.0, r.1, s))))
      (λ (g : (x : ℕ) → ChildBy p i b x → ⊥). subst (λ (t : Tree). value_at bs t ≡ None) (sym (branch-childless (suc f) i b n g)) (value_at-bare bs))
      (child-or-not p K i b n)

  -- ---- how many nodes of a path are not there
  fresh-child : (f i b x : ℕ) → Node p i → ChildBy p i b x → fresh_label b (forest_below (suc f) p i) ≡ 0
  fresh-child f i b x n c = rw (below-children f i n) (fresh-found p (forest_below f p) (K i n).kids x b ((K i n).all x c.0 c.1) c.2)

  fresh-childless : (f i b : ℕ) → Node p i → ((x : ℕ) → ChildBy p i b x → ⊥) → fresh_label b (forest_below f p i) ≡ 1
  unfolding forest_below fresh_label
  fresh-childless zero i b n h = refl
  fresh-childless (suc f) i b n h =
      rw (below-children f i n) (fresh-none p (forest_below f p) (K i n).kids b (λ x m e. let o = (K i n).only x m in h x (o.0, o.1, e)))

  fresh-bare : (k : Key) → fresh_nodes k bare ≡ length k
  unfolding fresh_nodes fresh_label branch
  fresh-bare [] = refl
  fresh-bare (b ∷ k) = omega (arith, fresh-bare k)

  fresh-stops : (rest : Key) (f i : ℕ) (w : Option ℕ) → Node p i → Stops p i rest → fresh_nodes rest (w, forest_below f p i) ≡ length rest
  unfolding fresh_nodes
  fresh-stops [] f i w n h = refl
  fresh-stops (b ∷ bs) f i w n h = rw (fresh-childless f i b n h, branch-childless f i b n h) (omega (arith, fresh-bare bs))

  fresh-rest : (bs rest : Key) (f i c : ℕ) (w : Option ℕ) → Node p i → Spells p i bs c → length bs ≤ f → Stops p c rest → fresh_nodes (bs ++ rest) (w, forest_below f p i) ≡ length rest
  unfolding fresh_nodes
  fresh-rest [] rest f i c w n s l h = fresh-stops rest f i w n (subst (λ (k : ℕ). Stops p k rest) (sym s) h)
  fresh-rest (b ∷ bs) rest zero i c w n s l h = absurd (omega arith)
  fresh-rest (b ∷ bs) rest (suc f) i c w n s l h =
      rw (fresh-child f i b s.0 n s.1, branch-child f i b s.0 n s.1)
      (omega (arith, fresh-rest bs rest f s.0 c (record_value p s.0) (inr s.1.0) s.2 (omega arith) h))

  -- the root's own value, which `record_value` does not tell, plays no part below it
  descend-root : (b : ℕ) (bs : Key) (v w : Option ℕ) (f : Forest) → descend (b ∷ bs) (v, f) ≡ descend (b ∷ bs) (w, f)
  unfolding descend
  descend-root b bs v w f = refl

  pub value-spelled : (b : ℕ) (bs : Key) (c : ℕ) → Spells p 0 (b ∷ bs) c → value_at (b ∷ bs) (None, pool_forest p) ≡ record_value p c
  unfolding pool_forest
  value-spelled b bs c s =
      value_at-descend (b ∷ bs) (None, forest_below (last_record p) p 0)
      ∙ ap (λ (t : Tree). t.0)
      (descend-root b bs None (record_value p 0) (forest_below (last_record p) p 0) ∙ descend-spelled (b ∷ bs) (last_record p) 0 c (inl refl) s (spells-most p (b ∷ bs) c s))

  pub value-unspelled : (k : Key) → ((c : ℕ) → Spells p 0 k c → ⊥) → value_at k (None, pool_forest p) ≡ None
  unfolding pool_forest
  value-unspelled k h = value-lost k (last_record p) 0 None (inl refl) h

pub map-forest : (p : Pool) → pool_map p ≡ list_forest (pool_forest p)
unfolding pool_map list_tree
map-forest p = refl

map-tree-list : (p : Pool) → pool_map p ≡ list_tree (None, pool_forest p)
unfolding pool_map
map-tree-list p = refl

list_tree-forest : (f : Forest) → list_tree (None, f) ≡ list_forest f
unfolding list_tree
list_tree-forest f = refl

-- ---- the forest is a trie's
module _ (p : Pool) (s : Sound p) where
  valued-some : (c : ℕ) → mark ≤ entry p c → record_value p c ≡ Some (value p c)
  valued-some c h = simp (le-leb _ _ h)

  valued-none : (c : ℕ) → entry p c < mark → record_value p c ≡ None
  valued-none c h = simp (lt-leb _ _ h)

  first-child : (c : ℕ) (n : Node p c) → 0 < first_child p c → (x : ℕ) × InUse p x × (parent p x ≡ c)
  first-child c n h = go (s.children c n).kids (s.children c n).chain (s.children c n).only
    where
      go : (xs : List ℕ) → Chain (next_sibling p) (first_child p c) xs → ((x : ℕ) → Among x xs → InUse p x × (parent p x ≡ c)) → (x : ℕ) × InUse p x × (parent p x ≡ c)
      go [] a o = absurd (omega arith)
      go (x ∷ xs) a o = let q = o x (inl refl) in (x, q.0, q.1)

  forest-some : (w : Option ℕ) (below : ℕ → Forest) (xs : List ℕ) (x : ℕ) → Among x xs → Live w (forest_of p below xs)
  forest-some (Some v) below xs x i = tt
  forest-some None below [] x i = absurd i
  forest-some None below (y ∷ ys) x i = tt

  live-some : (w : Option ℕ) (v : ℕ) (g : Forest) → w ≡ Some v → Live w g
  live-some w v g e = rw e tt

  -- a record at the end of a path, and as many levels as records may be below it
  below-live : (f c : ℕ) (k : Key) → InUse p c → Spells p 0 k c → last_record p ≤ length k + f → Live (record_value p c) (forest_below f p c)
  below-live f c k u h l =
      ⊎_elim
      (λ (bare : entry p c < mark).
      let x = first-child c (inr u) ((s.fits c u).unvalued bare).1 in
      let on = spells-child p 0 k c (label p x.0) x.0 h (x.1, x.2, refl) in
      let most = spells-most p (k ++ (label p x.0 ∷ [])) x.0 on in
      has f (omega (arith, length-append k (label p x.0 ∷ []))) x.0 ((s.children c (inr u)).all x.0 x.1 x.2))
      (λ (m : mark ≤ entry p c). live-some (record_value p c) (value p c) (forest_below f p c) (valued-some c m)) (below_or_not (entry p c) mark)
    where
      has : (f : ℕ) → 0 < f → (x : ℕ) → Among x (s.children c (inr u)).kids → Live (record_value p c) (forest_below f p c)
      has zero z x i = absurd (omega arith)
      has (suc f) z x i = rw (below-children p s.children f c (inr u)) (forest-some (record_value p c) (forest_below f p) (s.children c (inr u)).kids x i)

  below-orderly : (f c : ℕ) (k : Key) → Node p c → Spells p 0 k c → last_record p ≤ length k + f → Orderly (forest_below f p c)
  unfolding forest_below
  below-orderly zero c k n h l = tt
  below-orderly (suc f) c k n h l =
      let K = s.children c n in
      rw (below-children p s.children f c n)
      (forest-of-orderly p (forest_below f p) 0 K.kids K.rising (λ x i.
      let o = K.only x i in
      let on = spells-child p 0 k c (label p x) x h (o.0, o.1, refl) in
      let len = length-append k (label p x ∷ []) in
      (below-live f x (k ++ (label p x ∷ [])) o.0 on (omega arith), below-orderly f x (k ++ (label p x ∷ [])) (inr o.0) on (omega arith))))

  pub forest-orderly : Orderly (pool_forest p)
  unfolding pool_forest
  forest-orderly = below-orderly (last_record p) 0 [] (inl refl) refl (omega arith)

  -- ---- the map
  pub map-rising : Rising (pool_map p)
  unfolding pool_map
  map-rising = list_tree-rising (None, pool_forest p) forest-orderly

  map-lookup : (k : Key) → lookup k (pool_map p) ≡ value_at k (None, pool_forest p)
  unfolding pool_map
  map-lookup k = lookup-list_tree (None, pool_forest p) forest-orderly k

  holds-value : (k : Key) (v : ℕ) → Holds p k v → value_at k (None, pool_forest p) ≡ Some v
  holds-value [] v h = absurd (omega (arith, h.used.0, h.spelled))
  holds-value (b ∷ bs) v h = value-spelled p s.children b bs h.at h.spelled ∙ h.valued

  value-holds : (k : Key) (v : ℕ) → value_at k (None, pool_forest p) ≡ Some v → Holds p k v
  unfolding value_at descend
  value-holds [] v e = let z : ◌≡◌ {A = ℕ} 0 1 = cc in absurd (omega arith)
  value-holds (b ∷ bs) v e =
      ⊎_elim
      (λ r.
      record {
        at = r.0;
        used = spells-in-use p 0 (b ∷ bs) r.0 (inr (omega arith)) (inl refl) r.1;
        spelled = r.1;
        valued = sym (value-spelled p s.children b bs r.0 r.1) ∙ e;
      })
      (λ (h : (c : ℕ) → Spells p 0 (b ∷ bs) c → ⊥). let n = value-unspelled p s.children (b ∷ bs) h in let z : ◌≡◌ {A = ℕ} 0 1 = cc in absurd (omega arith))
      (spelled-or-not p s.children (b ∷ bs) 0 (inl refl))

  pub map-holds : (k : Key) (v : ℕ) → members.In (k, v) (pool_map p) ↔ Holds p k v
  map-holds k v = (
    λ i. value-holds k v (sym (map-lookup k) ∙ (lookup-iff k v (pool_map p) map-rising).1 i),
    λ h. (lookup-iff k v (pool_map p) map-rising).0 (map-lookup k ∙ holds-value k v h),
  )

  -- ---- it is a catalogue
  spells-bytes : (i : ℕ) (k : Key) (c : ℕ) → Spells p i k c → Bytes k
  spells-bytes i [] c h = tt
  spells-bytes i (b ∷ bs) c h = (omega (arith, h.1.2), spells-bytes h.0 bs c h.2)

  valued-value : (c v : ℕ) → record_value p c ≡ Some v → v ≡ value p c
  valued-value c v e =
      ⊎_elim (λ (l : entry p c < mark). let n = valued-none c l in let z : ◌≡◌ {A = ℕ} 0 1 = cc in absurd (omega arith))
      (λ (l : mark ≤ entry p c). let n = valued-some c l in cc) (below_or_not (entry p c) mark)

  pub map-catalogue : Bounded p → Catalogue (pool_map p)
  map-catalogue bounded = record { rising = map-rising; proper = each (pool_map p) (λ e i. (map-holds e.0 e.1).0 i) }
    where
      each : (m : Map) → ((e : Entry) → members.In e m → Holds p e.0 e.1) → Proper m
      each [] h = tt
      each (e ∷ m) h =
          let a = h e (members.here refl) in (
            (λ z. omega (arith, a.used.0, subst (λ (k : Key). Spells p 0 k a.at) z a.spelled)),
            spells-bytes 0 e.0 a.at a.spelled,
            subst (λ (v : ℕ). v < value_limit) (sym (valued-value a.at e.1 a.valued)) (bounded a.at 1),
            each m (λ d i. h d (members.there i)),
          )

  -- ---- some key goes through every record
  abbrev Through : ℕ → Type 0
  Through c = (on : Key) × (d : ℕ) × InUse p d × Spells p c on d × (mark ≤ entry p d)

  through : (f c : ℕ) (k : Key) → InUse p c → Spells p 0 k c → last_record p ≤ length k + f → Through c
  through zero c k u h l =
      ⊎_elim
      (λ (bare : entry p c < mark).
      let x = first-child c (inr u) ((s.fits c u).unvalued bare).1 in
      let on = spells-child p 0 k c (label p x.0) x.0 h (x.1, x.2, refl) in
      absurd (omega (arith, spells-most p (k ++ (label p x.0 ∷ [])) x.0 on, length-append k (label p x.0 ∷ []))))
      (λ (m : mark ≤ entry p c). ([], c, u, refl, m)) (below_or_not (entry p c) mark)
  through (suc f) c k u h l =
      ⊎_elim
      (λ (bare : entry p c < mark).
      let x = first-child c (inr u) ((s.fits c u).unvalued bare).1 in
      let on = spells-child p 0 k c (label p x.0) x.0 h (x.1, x.2, refl) in
      let r = through f x.0 (k ++ (label p x.0 ∷ [])) x.1 on (omega (arith, length-append k (label p x.0 ∷ []))) in
      (label p x.0 ∷ r.0, r.1, r.2, (x.0, (x.1, x.2, refl), r.3), r.4))
      (λ (m : mark ≤ entry p c). ([], c, u, refl, m)) (below_or_not (entry p c) mark)

  -- ---- the prefixes are the paths of records in use
  pub map-prefixes : (k : Key) → members.In k (prefixes (pool_map p)) ↔ ((c : ℕ) × InUse p c × (k ≡ record_path p c))
  map-prefixes k = (λ i. to ((prefixes-iff (pool_map p) k).0 i), λ r. (prefixes-iff (pool_map p) k).1 (from r))
    where
      longer : (q : Key) → ¬ (q ≡ []) → 0 < length q
      longer [] n = absurd (n refl)
      longer (b ∷ bs) n = omega arith

      to : (¬ (k ≡ [])) × SomeBegins k (pool_map p) → (c : ℕ) × InUse p c × (k ≡ record_path p c)
      to r =
          let e = r.1.0 in
          let h = (map-holds e.0 e.1).0 r.1.1 in
          let t = (prefix-iff k e.0).0 r.1.2 in
          let cut = spells-cut p 0 k t.0 h.at (subst (λ (q : Key). Spells p 0 q h.at) t.1 h.spelled) in
          let u = spells-in-use p 0 k cut.0 (inr (longer k r.0)) (inl refl) cut.1 in
          (cut.0, u, path-only p s cut.0 k (inr u) cut.1)

      from : ((c : ℕ) × InUse p c × (k ≡ record_path p c)) → (¬ (k ≡ [])) × SomeBegins k (pool_map p)
      from r =
          let c = r.0 in
          let h = path-spells p s c (inr r.1) in
          let g = through (last_record p) c (record_path p c) r.1 h (omega arith) in
          let held = (map-holds (record_path p c ++ g.0) (value p g.1)).1
          (record { at = g.1; used = g.2; spelled = spells-join p 0 (record_path p c) g.0 c g.1 h g.3; valued = valued-some g.1 g.4 }) in (
            (λ z. let e : 0 ≡ c = subst (λ (q : Key). Spells p 0 q c) (sym r.2 ∙ z) h in omega (arith, r.1.0)),
            ((record_path p c ++ g.0, value p g.1), held, subst (λ (q : Key). PrefixOf q (record_path p c ++ g.0)) (sym r.2) (prefix-append (record_path p c) g.0)),
          )

  -- the numbers from n down to 1
  abbrev down_from : ℕ → List ℕ
  down_from zero = []
  down_from (suc n) = suc n ∷ down_from n

  down-in : (n c : ℕ) → 0 < c → c ≤ n → members.In c (down_from n)
  down-in zero c a b = absurd (omega arith)
  down-in (suc n) c a b = ⊎_elim (λ e. members.here e) (λ l. members.there (down-in n c a (omega arith))) (eq-or-lt_of_le b)

  in-down : (n c : ℕ) → members.In c (down_from n) → (0 < c) × (c ≤ n)
  in-down zero c i = absurd (Memᴰ.not-nil i)
  in-down (suc n) c i = ⊎_elim (λ (e : c ≡ suc n). (omega arith, omega arith)) (λ j. let r = in-down n c j in (r.0, omega arith)) (Memᴰ.cases_cons i)

  down-distinct : (n : ℕ) → members.Distinct (down_from n)
  down-distinct zero = tt
  down-distinct (suc n) = ((λ y i e. omega (arith, (in-down n y i).1)), down-distinct n)

  down-length : (n : ℕ) → length (down_from n) ≡ n
  down-length zero = refl
  down-length (suc n) = ap suc (down-length n)

  paths-distinct : members.Distinct (map (record_path p) (down_from (last_record p)))
  paths-distinct =
      ordered-map (λ (x y : ℕ). ¬ (record_path p x ≡ record_path p y)) (λ (q r : Key). ¬ (q ≡ r)) (record_path p) (λ x y n. n) (down_from (last_record p))
      (ordered-weak (down_from (last_record p)) (λ x y i j n e. n (one x y (in-down _ x i) (in-down _ y j) e)) (down-distinct (last_record p)))
    where
      one : (x y : ℕ) → InUse p x → InUse p y → record_path p x ≡ record_path p y → x ≡ y
      one x y u w e =
          spells-one-record p s.children 0 (record_path p x) x y (inl refl) (path-spells p s x (inr u)) (subst (λ (q : Key). Spells p 0 q y) (sym e) (path-spells p s y (inr w)))

  pub count-prefixes : length (prefixes (pool_map p)) ≡ used_count p
  count-prefixes =
      distinct-same (prefixes (pool_map p)) (map (record_path p) (down_from (last_record p))) (prefixes-distinct (pool_map p) map-rising) paths-distinct both
      ∙ length-map (down_from (last_record p)) (record_path p) ∙ down-length (last_record p) ∙ sym (count-last p)
    where
      both : (k : Key) → members.In k (prefixes (pool_map p)) ↔ members.In k (map (record_path p) (down_from (last_record p)))
      both k = (
        λ i. let r = (map-prefixes k).0 i in (in_map (record_path p) k (down_from (last_record p))).1 (r.0, down-in (last_record p) r.0 r.1.0 r.1.1, r.2),
        λ i. let r = (in_map (record_path p) k (down_from (last_record p))).0 i in (map-prefixes k).1 (r.0, in-down (last_record p) r.0 r.1, r.2),
      )

  pub count-forest : size (pool_forest p) ≡ used_count p
  count-forest = sym (length-prefixes (pool_forest p) forest-orderly) ∙ ap (λ (m : Map). length (prefixes m)) (sym (map-forest p)) ∙ count-prefixes

  -- ---- the prefixes that a key misses
  grow-missing : (b : ℕ) (bs : Key) → missing (b ∷ bs) (pool_map p) ≡ fresh_nodes (b ∷ bs) (None, pool_forest p)
  unfolding grow
  grow-missing b bs =
      let F = pool_forest p in
      let k : Key = b ∷ bs in
      let grown : insert k 0 (pool_map p) ≡ list_forest (grow k 0 (None, F)).1 =
      ap (insert k 0) (map-tree-list p) ∙ sym (list_tree-grow k 0 (None, F) forest-orderly) ∙ list_tree-forest (grow k 0 (None, F)).1 in
      let after : length (prefixes (insert k 0 (pool_map p))) ≡ size (grow k 0 (None, F)).1 =
      ap (λ (m : Map). length (prefixes m)) grown ∙ length-prefixes (grow k 0 (None, F)).1 (grow-orderly k 0 (None, F) forest-orderly) in
      omega (arith, after, size-grow k 0 (None, F) forest-orderly, prefixes-insert k 0 (pool_map p) map-rising, count-prefixes, count-forest)

  pub missing-rest : (there rest : Key) (c : ℕ) → Spells p 0 there c → Stops p c rest → 0 < length (there ++ rest) → missing (there ++ rest) (pool_map p) ≡ length rest
  unfolding pool_forest
  missing-rest there rest c h stops long =
      go (there ++ rest) refl long ∙ fresh-rest p s.children there rest (last_record p) 0 c None (inl refl) h (spells-most p there c h) stops
    where
      go : (k : Key) → k ≡ there ++ rest → 0 < length k → missing k (pool_map p) ≡ fresh_nodes k (None, pool_forest p)
      go [] e z = absurd (omega arith)
      go (b ∷ bs) e z = grow-missing b bs
