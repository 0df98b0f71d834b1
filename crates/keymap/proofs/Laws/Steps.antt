-- The next node of a listing. Nodes in byte order go depth first: after x comes its first child; where it has none, the next sibling of the nearest of x
-- and its ancestors that has one, since what begins with none of them stands below x or behind that sibling; and the climb ends at the top.
--
--     next_in-index, last_in-index     of rising paths the next is the one behind, and the last has none
--     next_in-first, last_in-none      the first child is the next of a node's children
--     next-child, last-child           the first child is the next below any top above it; without children nothing is
--                                      left below x
--     next-sibling, last-sibling       nothing is left below c: the next sibling of c is the next; without one nothing
--                                      is left below its parent
--     least_above-valued               the next node has a value: the listing gives it
--     least_above-unvalued             it has none: the listing goes on from it
--     least_above-last                 there is no next node: the listing ends
--     head-longer, least_above-longer  the postfix listing, by the predictive one
--     nodes_above-falls                above the next node are fewer
-- Assumes nothing.
use mathlib.Core.Path.{◌≡◌, refl, sym, ap, subst, ◌∙◌}
use mathlib.Core.Logic.{◌↔◌, ◌⊎◌, inl, inr}
use Prim.Native.Nat.{ℕ, suc, ◌<◌}
use native.Mathlib.Omega.{arith}
use mathlib.Core.List.{List, [], ◌∷◌, ◌++◌, append_assoc, append-nil, cons-ne-nil}
use Rattle.std.specs.Prelude.{Option, None, Some}
use lib.ListN.{length, get_or, length-append}
use Rattle.keymap.specs.Members.{In, Ordered, head_of}
use Rattle.keymap.specs.Key.{Key, compare_keys, Below, is_below, begins_with, PrefixOf, last_byte}
use Rattle.keymap.specs.Map.{Entry, Map, Rising, lookup}
use Rattle.keymap.specs.Queries.{keep, SomeBegins, beginning, longer, least_above, NextAfter}
use Rattle.keymap.specs.Image.{children_in}
use Rattle.keymap.specs.Paths.{nodes, index_of}
use Rattle.keymap.specs.Steps.{NextIn, LastIn, paths_below, nodes_above, upper}
use Rattle.keymap.proofs.Laws.Members.{get_or-in, ordered-get_or}
use Rattle.keymap.proofs.Laws.Key.{Order, order, compare-lt, KeyOrder, key_order, compare_keys-refl, compare_keys-trans, below_irrefl, below-asym}
use Rattle.keymap.proofs.Laws.Begins.{prefix-iff, prefix_refl, prefix_trans, prefix-length, prefix-below, prefix-append, prefix-proper, prefix-between, compare_keys-append}
use Rattle.keymap.proofs.Laws.Map.{dec_key, lookup-iff, lookup-none}
use Rattle.keymap.proofs.Laws.Queries.{keep-iff, keep_all, keep-drops, above-iff, beginning-iff, beginning-rising, longer-iff, longer-rising, longer-beginning, least_above-some, least_above-none}
use Rattle.keymap.proofs.Laws.Paths.{nodes-iff, index_of-in, children_in-iff, children_in-ordered, below-label}

-- ---- a path without its last byte

pub upper-append : (p : Key) (a : ℕ) → upper (p ++ (a ∷ [])) ≡ p
unfolding upper
upper-append [] a = refl
upper-append (b ∷ []) a = refl
upper-append (b ∷ c ∷ p) a = ap (λ (k : Key). b ∷ k) (upper-append (c ∷ p) a)

pub upper-last : (p : Key) → ¬ (p ≡ []) → p ≡ upper p ++ (last_byte p ∷ [])
unfolding upper
upper-last [] n = absurd (n refl)
upper-last (a ∷ []) n = refl
upper-last (a ∷ b ∷ p) n = ap (λ (k : Key). a ∷ k) (upper-last (b ∷ p) (cons-ne-nil b p))

-- ---- rising paths by index

module _ (ps : List Key) (o : Ordered Below ps) where
  -- what stands above a path has a higher index
  index-above : (j : ℕ) → j < length ps → (z : Key) → In z ps → Below (get_or ps j []) z → j < index_of z ps
  index-above j h z i b = go (order j (index_of z ps)) (index_of-in z ps i)
    where
      go : Order j (index_of z ps) → (index_of z ps < length ps) × (get_or ps (index_of z ps) [] ≡ z) → j < index_of z ps
      go (Order.below l e f) at = l
      go (Order.same l e) (k, at) = absurd (below_irrefl z (rw (ap (λ (n : ℕ). get_or ps n []) l ∙ at) at b))
      go (Order.above l e f) (k, at) = absurd (below-asym (get_or ps j []) z b (rw at at (ordered-get_or Below [] ps o (index_of z ps) j l h)))

  pub next_in-index : (j : ℕ) → suc j < length ps → NextIn ps (get_or ps j []) (get_or ps (suc j) [])
  next_in-index j h =
      record {
        among = get_or-in [] ps (suc j) h;
        above = ordered-get_or Below [] ps o j (suc j) (omega arith) h;
        least = λ z i b u. behind z i u (index-above j (omega arith) z i b) (order (suc j) (index_of z ps)) (index_of-in z ps i);
      }
    where
      behind : (z : Key) → In z ps → Below z (get_or ps (suc j) []) → j < index_of z ps → Order (suc j) (index_of z ps)
          → (index_of z ps < length ps) × (get_or ps (index_of z ps) [] ≡ z) → ⊥
      behind z i u l (Order.below g e f) (k, at) = below-asym z (get_or ps (suc j) []) u (rw at at (ordered-get_or Below [] ps o (suc j) (index_of z ps) g k))
      behind z i u l (Order.same g e) (k, at) = below_irrefl z (rw (ap (λ (n : ℕ). get_or ps n []) g ∙ at) at u)
      behind z i u l (Order.above g e f) at = omega arith

  pub last_in-index : (j : ℕ) → suc j ≡ length ps → LastIn ps (get_or ps j [])
  last_in-index j h z i b = omega (arith, index-above j (omega arith) z i b, (index_of-in z ps i).0)

-- ---- children and siblings

-- to be a path below a top
pub paths_below-iff : (m : Map) (p z : Key) → In z (paths_below m p) ↔ (In z (nodes m) × PrefixOf p z)
unfolding paths_below
paths_below-iff m p z = keep-iff (begins_with p) z (nodes m)

-- what begins with p is p, or begins with one byte more
prefix-next : (p z : Key) → PrefixOf p z → (z ≡ p) ⊎ ((b : ℕ) × (r : Key) × (z ≡ p ++ (b ∷ r)))
prefix-next p z h = go ((prefix-iff p z).0 h)
  where
    go : (r : Key) × (z ≡ p ++ r) → (z ≡ p) ⊎ ((b : ℕ) × (r : Key) × (z ≡ p ++ (b ∷ r)))
    go ([], e) = inl (e ∙ append-nil p)
    go (b ∷ r, e) = inr (b, r, e)

-- what a key begins with stands below all that stands above it
prefix-under : (w z y : Key) → PrefixOf w z → Below z y → Below w y
prefix-under w z y h b = go (dec_key z w)
  where
    go : Dec (z ≡ w) → Below w y
    go (yes e) = rw e at b
    go (no n) = compare_keys-trans w z y (prefix-below w z h ((prefix-proper w z h).1 n)) b

-- the first byte behind a common beginning decides
below-behind : (q : Key) (a b : ℕ) (s t : Key) → a < b → Below (q ++ (a ∷ s)) (q ++ (b ∷ t))
unfolding compare_keys
below-behind q a b s t l = rw (compare_keys-append q (a ∷ s) (b ∷ t), compare-lt a b l)

module _ (m : Map) where
  -- a node whose path goes on behind p with b lies below p's child with that label
  child-over : (p : Key) (b : ℕ) (r : Key) → In (p ++ (b ∷ r)) (nodes m)
      → In (p ++ (b ∷ [])) (children_in m p) × PrefixOf (p ++ (b ∷ [])) (p ++ (b ∷ r)) × Below p (p ++ (b ∷ []))
  child-over p b r i = (
    (children_in-iff m p (p ++ (b ∷ []))).1 (b, refl, go ((nodes-iff m (p ++ (b ∷ r))).0 i)),
    part,
    prefix-below p (p ++ (b ∷ [])) (prefix-append p (b ∷ [])) (omega (arith, length-append p (b ∷ []))),
  )
    where
      part : PrefixOf (p ++ (b ∷ [])) (p ++ (b ∷ r))
      part = (prefix-iff (p ++ (b ∷ [])) (p ++ (b ∷ r))).1 (r, sym (append_assoc p (b ∷ []) r))

      go : (p ++ (b ∷ r) ≡ []) ⊎ SomeBegins (p ++ (b ∷ r)) m → SomeBegins (p ++ (b ∷ [])) m
      go (inl e) = absurd (omega (arith, ap length e, length-append p (b ∷ r)))
      go (inr (e, j, f)) = (e, j, prefix_trans (p ++ (b ∷ [])) (p ++ (b ∷ r)) e.0 part f)

  -- a child is a node below its parent
  child-below : (p q y : Key) → PrefixOf p q → In y (children_in m q) → In y (paths_below m p)
  child-below p q y h i =
      let (a, e, b) = (children_in-iff m q y).0 i in
      (paths_below-iff m p y).1 ((nodes-iff m y).1 (inr b), prefix_trans p q y h ((prefix-iff q y).1 (a ∷ [], e)))

  -- what stands above x and begins with it has a child of x at or below it
  below-child : (x z : Key) → In z (nodes m) → PrefixOf x z → Below x z → (w : Key) × In w (children_in m x) × Below x w × PrefixOf w z
  below-child x z i h b = go (prefix-next x z h)
    where
      go : (z ≡ x) ⊎ ((b : ℕ) × (r : Key) × (z ≡ x ++ (b ∷ r))) → (w : Key) × In w (children_in m x) × Below x w × PrefixOf w z
      go (inl e) = absurd (below_irrefl x (rw e at b))
      go (inr (a, r, e)) = let (j, f, u) = child-over x a r (rw e at i) in (x ++ (a ∷ []), j, u, rw e f)

  -- children stand above their parent, so the first of them is the next
  pub next_in-first : Rising m → (x : Key) → 0 < length (children_in m x) → NextIn (children_in m x) x (get_or (children_in m x) 0 [])
  next_in-first r x h =
      record {
        among = get_or-in [] (children_in m x) 0 h;
        above = let (a, e, s) = (children_in-iff m x (get_or (children_in m x) 0 [])).0 (get_or-in [] (children_in m x) 0 h) in rw e (prefix-below x (x ++ (a ∷ [])) (prefix-append x (a ∷ [])) (omega (arith, length-append x (a ∷ []))));
        least = λ z i b u. go z u (order 0 (index_of z (children_in m x))) (index_of-in z (children_in m x) i);
      }
    where
      go : (z : Key) → Below z (get_or (children_in m x) 0 []) → Order 0 (index_of z (children_in m x))
          → (index_of z (children_in m x) < length (children_in m x)) × (get_or (children_in m x) (index_of z (children_in m x)) [] ≡ z) → ⊥
      go z u (Order.below l e f) (k, at) =
          below-asym z (get_or (children_in m x) 0 []) u (rw at at (ordered-get_or Below [] (children_in m x) (children_in-ordered m r x) 0 (index_of z (children_in m x)) l k))
      go z u (Order.same l e) (k, at) = below_irrefl z (rw (ap (λ (n : ℕ). get_or (children_in m x) n []) l ∙ at) at u)
      go z u (Order.above l e f) at = omega arith

  pub last_in-none : (x : Key) → length (children_in m x) ≡ 0 → LastIn (children_in m x) x
  last_in-none x h z i b = omega (arith, (index_of-in z (children_in m x) i).0)

  pub next-child : (p x y : Key) → PrefixOf p x → NextIn (children_in m x) x y → NextIn (paths_below m p) x y
  next-child p x y h n =
      record {
        among = child-below p x y h n.among;
        above = n.above;
        least = λ z i b u.
            let (a, e, s) = (children_in-iff m x y).0 n.among in
            let (j, g) = (paths_below-iff m p z).0 i in
            let (w, k, l, f) = below-child x z j (prefix-between x x z y (prefix_refl x) ((prefix-iff x y).1 (a ∷ [], e)) b u) b in
            n.least w k l (prefix-under w z y f u);
      }

  pub last-child : (x : Key) → LastIn (children_in m x) x → LastIn (paths_below m x) x
  last-child x n z i b =
      let (j, g) = (paths_below-iff m x z).0 i in
      let (w, k, l, f) = below-child x z j g b in
      n w k l

  -- nothing is left below c, the child of q with the label a: what is left below q has a later child at or below it
  below-sibling : (q : Key) (a : ℕ) (c x z : Key) → c ≡ q ++ (a ∷ []) → PrefixOf c x → LastIn (paths_below m c) x
      → In z (nodes m) → PrefixOf q z → Below x z → (w : Key) × In w (children_in m q) × Below c w × PrefixOf w z
  below-sibling q a c x z own h n i g b = go (prefix-next q z g)
    where
      over : PrefixOf q c
      over = (prefix-iff q c).1 (a ∷ [], own)

      later : (d : ℕ) (r : Key) → z ≡ q ++ (d ∷ r) → Order a d → (w : Key) × In w (children_in m q) × Below c w × PrefixOf w z
      later d r e (Order.below l s t) =
          let (j, f, u) = child-over q d r (rw e at i) in
          (q ++ (d ∷ []), j, rw own ((below-label q a d).1 l), rw e f)
      later d r e (Order.same l s) =
          let (j, f, u) = child-over q d r (rw e at i) in
          absurd (n z ((paths_below-iff m c z).1 (i, rw (own, e, l) f)) b)
      later d r e (Order.above l s t) =
          let (v, f) = (prefix-iff c x).0 h in
          let x-is : x ≡ q ++ (a ∷ v) = f ∙ ap (λ (k : Key). k ++ v) own ∙ append_assoc q (a ∷ []) v in
          absurd (below-asym x z b (rw (e, x-is) (below-behind q d a r v l)))

      go : (z ≡ q) ⊎ ((d : ℕ) × (r : Key) × (z ≡ q ++ (d ∷ r))) → (w : Key) × In w (children_in m q) × Below c w × PrefixOf w z
      go (inl e) =
          let l : length q < length x = omega (arith, ap length own, length-append q (a ∷ []), prefix-length c x h) in
          absurd (below-asym x z b (rw e (prefix-below q x (prefix_trans q c x over h) l)))
      go (inr (d, r, e)) = later d r e (order a d)

  pub next-sibling : (p c x d : Key) → ¬ (c ≡ []) → PrefixOf c x → LastIn (paths_below m c) x → PrefixOf p (upper c) → NextIn (children_in m (upper c)) c d
      → NextIn (paths_below m p) x d
  next-sibling p c x d ne h n g s =
      let q : Key = upper c in
      let a : ℕ = last_byte c in
      let e : c ≡ q ++ (a ∷ []) = upper-last c ne in
      let (b, f, o) = (children_in-iff m q d).0 s.among in
      let (v, t) = (prefix-iff c x).0 h in
      let l : a < b = (below-label q a b).0 (subst (λ (k : Key). Below k (q ++ (b ∷ []))) e (rw f at s.above)) in
      let x-is : x ≡ q ++ (a ∷ v) = t ∙ ap (λ (k : Key). k ++ v) e ∙ append_assoc q (a ∷ []) v in
      record {
        among = child-below p q d g s.among;
        above = rw (x-is, f) (below-behind q a b v [] l);
        least = λ z i k u.
            let (j, r) = (paths_below-iff m p z).0 i in
            let under : PrefixOf q z = prefix-between q x z d ((prefix-iff q x).1 (a ∷ v, x-is)) ((prefix-iff q d).1 (b ∷ [], f)) k u in
            let (w, y, lw, fw) = below-sibling q a c x z e h n j under k in
            s.least w y lw (prefix-under w z d fw u);
      }

  pub last-sibling : (c x : Key) → ¬ (c ≡ []) → PrefixOf c x → LastIn (paths_below m c) x → LastIn (children_in m (upper c)) c → LastIn (paths_below m (upper c)) x
  last-sibling c x ne h n s z i b =
      let (j, g) = (paths_below-iff m (upper c) z).0 i in
      let (w, y, l, f) = below-sibling (upper c) (last_byte c) c x z (upper-last c ne) h n j g b in
      s w y l

-- ---- what a listing gives

module _ (m : Map) (rises : Rising m) (p : Key) where
  -- the key of an entry of the listing is a path below its top
  entry-below : (e : Entry) → In e (beginning p m) → In e.0 (paths_below m p)
  entry-below e i =
      let (j, h) = (beginning-iff p m e).0 i in
      (paths_below-iff m p e.0).1 ((nodes-iff m e.0).1 (inr (e, j, prefix_refl e.0)), h)

  pub least_above-valued : (x y : Key) (v : ℕ) → NextIn (paths_below m p) x y → lookup y m ≡ Some v → least_above x (beginning p m) ≡ Some (y, v)
  least_above-valued x y v n h =
      (least_above-some x (beginning p m) (beginning-rising p m rises) (y, v)).1
      (record {
        entry = (beginning-iff p m (y, v)).1 ((lookup-iff y v m rises).0 h, ((paths_below-iff m p y).0 n.among).1);
        above = n.above;
        least = λ d j b. n.least d.0 (entry-below d j) b;
      })

  pub least_above-unvalued : (x y : Key) → NextIn (paths_below m p) x y → lookup y m ≡ None → least_above x (beginning p m) ≡ least_above y (beginning p m)
  least_above-unvalued x y n h = go (least_above y (beginning p m)) refl
    where
      -- an entry above x is above y, which has none
      beyond : (e : Entry) → In e (beginning p m) → Below x e.0 → KeyOrder y e.0 → Below y e.0
      beyond e i b (KeyOrder.below u w) = u
      beyond e i b (KeyOrder.same u w) = absurd ((lookup-none y m rises).0 h e.1 (rw u ((beginning-iff p m e).0 i).0))
      beyond e i b (KeyOrder.above u w) = absurd (n.least e.0 (entry-below e i) b w)

      go : (o : Option Entry) → least_above y (beginning p m) ≡ o → least_above x (beginning p m) ≡ o
      go None s = (least_above-none x (beginning p m)).1 (λ e i b. (least_above-none y (beginning p m)).0 s e i (beyond e i b (key_order y e.0)))
      go (Some e) s =
          let f : NextAfter y (beginning p m) e = (least_above-some y (beginning p m) (beginning-rising p m rises) e).0 s in
          (least_above-some x (beginning p m) (beginning-rising p m rises) e).1
          (record {
            entry = f.entry;
            above = compare_keys-trans x y e.0 n.above f.above;
            least = λ d j b. f.least d j (beyond d j b (key_order y d.0));
          })

  pub least_above-last : (x : Key) → LastIn (paths_below m p) x → least_above x (beginning p m) ≡ None
  least_above-last x n = (least_above-none x (beginning p m)).1 (λ e i b. n e.0 (entry-below e i) b)

  -- from the top on, the two listings go on alike
  pub least_above-longer : (x : Key) → PrefixOf p x → least_above x (longer p m) ≡ least_above x (beginning p m)
  least_above-longer x h = go (least_above x (beginning p m)) refl
    where
      beyond : (e : Entry) → In e (beginning p m) → Below x e.0 → In e (longer p m)
      beyond e i b = (longer-beginning p m e).1 (i, λ s. below_irrefl p (prefix-under p x p h (rw s at b)))

      go : (o : Option Entry) → least_above x (beginning p m) ≡ o → least_above x (longer p m) ≡ o
      go None s = (least_above-none x (longer p m)).1 (λ e i b. (least_above-none x (beginning p m)).0 s e ((longer-beginning p m e).0 i).0 b)
      go (Some e) s =
          let f : NextAfter x (beginning p m) e = (least_above-some x (beginning p m) (beginning-rising p m rises) e).0 s in
          (least_above-some x (longer p m) (longer-rising p m rises) e).1
          (record { entry = beyond e f.entry f.above; above = f.above; least = λ d j b. f.least d ((longer-beginning p m d).0 j).0 b })

  -- and the postfix listing begins with what stands above the top
  pub head-longer : head_of (longer p m) ≡ least_above p (beginning p m)
  unfolding least_above
  head-longer =
      let all : keep (λ (e : Entry). is_below p e.0) (longer p m) ≡ longer p m =
      keep_all (λ (e : Entry). is_below p e.0) (longer p m)
      (λ e i. let (j, h, l) = (longer-iff p m e).0 i in (above-iff p e.0).1 (prefix-below p e.0 h l)) in
      ap head_of (sym all) ∙ least_above-longer p (prefix_refl p)

-- ---- how many are left

pub nodes_above-falls : (m : Map) (x y : Key) → In y (nodes m) → Below x y → nodes_above m y < nodes_above m x
unfolding nodes_above
nodes_above-falls m x y i b =
    keep-drops (is_below y) (is_below x) (λ z h. (above-iff x z).1 (compare_keys-trans x y z b ((above-iff y z).0 h))) (nodes m) y i
    (rw compare_keys-refl) ((above-iff x y).1 b)
