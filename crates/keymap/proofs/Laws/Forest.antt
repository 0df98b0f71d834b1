-- The trie as a forest: a look-up follows one path, so each law speaks of one branch at a time.
--
--     branch-alter-same, ..-other   what an alteration does to its own branch, and to others
--     value_at-grow-same, ..-other  a path's value after it was set, and any other path's
--     grow-orderly                  growing keeps a tree orderly
--     forest-ext, tree-ext          orderly tries with the same values at every path are equal
--     size-grow                     growing adds as many nodes as the path misses
--     size-join, width-join         siblings behind siblings
-- Assumes nothing.
use mathlib.Core.Path.{◌≡◌, refl, sym, ap, ◌∙◌}
use Prim.Native.Nat.{ℕ, ◌+◌, ◌<◌, compare, Ordering}
use native.Mathlib.Omega.{arith}
use native.Mathlib.Decide.{ℕ_discrete}
use mathlib.Core.Bool.{Bool, true, false, cond}
use mathlib.Core.List.{[], ◌∷◌, ◌++◌}
use Rattle.std.specs.Prelude.{Option, None, Some}
use lib.Dec.{eqb}
use borrow.Author.Tests.{eq-eqb, ne_eqb}
use Rattle.keymap.specs.Key.{Key}
use Rattle.keymap.specs.Forest.{Forest, empty, node, Tree, bare, branch, descend, value_at, alter, grow, Above, Live, Orderly, size, width, join}
use Rattle.keymap.proofs.Laws.Key.{Order, order}

pub eqb_refl : (a : ℕ) → eqb a a ≡ true
eqb_refl a = eq-eqb a a refl

pub above-weak : (a b : ℕ) (f : Forest) → a < b → Above b f → Above a f
above-weak a b empty h k = tt
above-weak a b (node c w kids next) h k = omega arith

-- a label below all siblings is not there
pub branch-above : (a : ℕ) (f : Forest) → Above a f → Orderly f → branch a f ≡ bare
unfolding branch
branch-above a empty h s = refl
branch-above a (node b w kids next) h s = rw (ne_eqb a b (λ e. omega arith)) (branch-above a next (above-weak a b next h s.0) s.3)

pub branch-alter-same : (a : ℕ) (g : Tree → Tree) (f : Forest) → Orderly f → branch a (alter a g f) ≡ g (branch a f)
unfolding branch alter
branch-alter-same a g empty s = rw eqb_refl
branch-alter-same a g (node b w kids next) s = go (order a b) (branch-alter-same a g next s.3)
  where
    go : Order a b → branch a (alter a g next) ≡ g (branch a next) → branch a (alter a g (node b w kids next)) ≡ g (branch a (node b w kids next))
    go (Order.below l e f) ih = rw (e, eqb_refl) (ap g (sym (branch-above a next (above-weak a b next l s.0) s.3)))
    go (Order.same l e) ih = rw (e, e)
    go (Order.above l e f) ih = rw (e, e) ih

pub branch-alter-other : (a : ℕ) (g : Tree → Tree) (f : Forest) (x : ℕ) → ¬ (x ≡ a) → branch x (alter a g f) ≡ branch x f
unfolding branch alter
branch-alter-other a g empty x n = rw (ne_eqb x a n)
branch-alter-other a g (node b w kids next) x n = go (order a b) (branch-alter-other a g next x n)
  where
    go : Order a b → branch x (alter a g next) ≡ branch x next → branch x (alter a g (node b w kids next)) ≡ branch x (node b w kids next)
    go (Order.below l e f) ih = rw (e, ne_eqb x a n)
    go (Order.same l e) ih = rw (e, ne_eqb x b (λ q. n (q ∙ sym l)))
    go (Order.above l e f) ih = rw (e, ih)

pub branch-orderly : (a : ℕ) (f : Forest) → Orderly f → Orderly (branch a f).1
unfolding branch
branch-orderly a empty s = tt
branch-orderly a (node b w kids next) s = go (eqb a b) refl (branch-orderly a next s.3)
  where
    go : (t : Bool) → eqb a b ≡ t → Orderly (branch a next).1 → Orderly (branch a (node b w kids next)).1
    go true e ih = rw e s.2
    go false e ih = rw e ih

-- ---- paths

pub value_at-descend : (k : Key) (t : Tree) → value_at k t ≡ (descend k t).0
unfolding value_at descend
value_at-descend [] t = refl
value_at-descend (a ∷ k) t = value_at-descend k (branch a t.1)

pub descend-append : (p q : Key) (t : Tree) → descend (p ++ q) t ≡ descend q (descend p t)
unfolding descend
descend-append [] q t = refl
descend-append (a ∷ p) q t = descend-append p q (branch a t.1)

pub descend-orderly : (p : Key) (t : Tree) → Orderly t.1 → Orderly (descend p t).1
unfolding descend
descend-orderly [] t s = s
descend-orderly (a ∷ p) t s = descend-orderly p (branch a t.1) (branch-orderly a t.1 s)

pub value_at-grow-same : (k : Key) (v : ℕ) (t : Tree) → Orderly t.1 → value_at k (grow k v t) ≡ Some v
unfolding value_at grow
value_at-grow-same [] v t s = refl
value_at-grow-same (a ∷ k) v t s = rw branch-alter-same (value_at-grow-same k v (branch a t.1) (branch-orderly a t.1 s))

pub value_at-grow-other : (k : Key) (v : ℕ) (t : Tree) (x : Key) → ¬ (x ≡ k) → Orderly t.1 → value_at x (grow k v t) ≡ value_at x t
unfolding value_at grow
value_at-grow-other [] v t [] n s = absurd (n refl)
value_at-grow-other [] v t (b ∷ x) n s = refl
value_at-grow-other (a ∷ k) v t [] n s = refl
value_at-grow-other (a ∷ k) v t (b ∷ x) n s = go (ℕ_discrete b a) (λ c. value_at-grow-other k v (branch a t.1) x c (branch-orderly a t.1 s))
  where
    go : Dec (b ≡ a) → (¬ (x ≡ k) → value_at x (grow k v (branch a t.1)) ≡ value_at x (branch a t.1)) → value_at (b ∷ x) (grow (a ∷ k) v t) ≡ value_at (b ∷ x) t
    go (yes p) ih = rw (p, branch-alter-same) (ih (λ q. n (cc)))
    go (no p) ih = rw (branch-alter-other a (grow k v) t.1 b p)

-- ---- what stays orderly

alter-above : (a : ℕ) (g : Tree → Tree) (f : Forest) (c : ℕ) → c < a → Above c f → Above c (alter a g f)
unfolding alter
alter-above a g empty c l s = l
alter-above a g (node b w kids next) c l s = go (compare a b) refl
  where
    go : (o : Ordering) → compare a b ≡ o → Above c (alter a g (node b w kids next))
    go Ordering.lt e = rw e l
    go Ordering.eq e = rw e s
    go Ordering.gt e = rw e s

alter-live : (a : ℕ) (g : Tree → Tree) (f : Forest) (w : Option ℕ) → Live w (alter a g f)
unfolding alter
alter-live a g f (Some v) = tt
alter-live a g empty None = tt
alter-live a g (node b w kids next) None = go (compare a b) refl
  where
    go : (o : Ordering) → compare a b ≡ o → Live None (alter a g (node b w kids next))
    go Ordering.lt e = rw e tt
    go Ordering.eq e = rw e tt
    go Ordering.gt e = rw e tt

alter-orderly : (a : ℕ) (g : Tree → Tree) → ((t : Tree) → Orderly t.1 → Orderly (g t).1) → ((t : Tree) → Live (g t).0 (g t).1)
    → (f : Forest) → Orderly f → Orderly (alter a g f)
unfolding alter
alter-orderly a g gs gl empty s = (tt, gl bare, gs bare tt, tt)
alter-orderly a g gs gl (node b w kids next) s = go (order a b) (alter-orderly a g gs gl next s.3)
  where
    go : Order a b → Orderly (alter a g next) → Orderly (alter a g (node b w kids next))
    go (Order.below l e f) ih = rw e (l, gl bare, gs bare tt, s)
    go (Order.same l e) ih = rw e (s.0, gl (w, kids), gs (w, kids) s.2, s.3)
    go (Order.above l e f) ih = rw e (alter-above a g next b l s.0, s.1, s.2, ih)

pub grow-live : (k : Key) (v : ℕ) (t : Tree) → Live (grow k v t).0 (grow k v t).1
unfolding grow
grow-live [] v t = tt
grow-live (a ∷ k) v t = alter-live a (grow k v) t.1 t.0

pub grow-orderly : (k : Key) (v : ℕ) (t : Tree) → Orderly t.1 → Orderly (grow k v t).1
unfolding grow
grow-orderly [] v t s = s
grow-orderly (a ∷ k) v t s = alter-orderly a (grow k v) (grow-orderly k v) (grow-live k v) t.1 s

-- ---- orderly tries with the same values are the same

pub value_at-bare : (x : Key) → value_at x bare ≡ None
unfolding value_at branch
value_at-bare [] = refl
value_at-bare (a ∷ x) = value_at-bare x

witness : (kids : Forest) (w : Option ℕ) → Live w kids → Orderly kids → (x : Key) × (v : ℕ) × (value_at x (w, kids) ≡ Some v)
unfolding value_at branch
witness empty (Some v) l s = ([], v, refl)
witness empty None l s = absurd l
witness (node b w kids next) (Some v) l s = ([], v, refl)
witness (node b w kids next) None l s =
    let (x, v, e) = witness kids w s.1 s.2 in (b ∷ x, v, rw eqb_refl e)

-- a label on one side only
lone : (a : ℕ) (w : Option ℕ) (kids next g : Forest) → Live w kids → Orderly kids → branch a g ≡ bare
    → ((x : Key) → value_at x (branch a (node a w kids next)) ≡ value_at x (branch a g)) → ⊥
unfolding branch
lone a w kids next g l s d h =
    let (x, v, e) = witness kids w l s in
    let c : Some v ≡ None = sym e ∙ (rw eqb_refl at (h x)) ∙ rw d (value_at-bare x) in
    let z : ◌≡◌ {A = ℕ} 0 1 = cc in
    omega arith

pub forest-ext : (f g : Forest) → Orderly f → Orderly g → ((a : ℕ) (x : Key) → value_at x (branch a f) ≡ value_at x (branch a g)) → f ≡ g
unfolding value_at branch
forest-ext empty empty r s h = refl
forest-ext empty (node b w kids next) r s h = absurd (lone b w kids next empty s.1 s.2 refl (λ x. sym (h b x)))
forest-ext (node a w kids next) empty r s h = absurd (lone a w kids next empty r.1 r.2 refl (h a))
forest-ext (node a w kids next) (node b u sub rest) r s h =
    go (order a b) (λ q. forest-ext kids sub r.2 s.2 q) (λ q. forest-ext next rest r.3 s.3 q)
  where
    go : Order a b → (((c : ℕ) (x : Key) → value_at x (branch c kids) ≡ value_at x (branch c sub)) → kids ≡ sub)
        → (((c : ℕ) (x : Key) → value_at x (branch c next) ≡ value_at x (branch c rest)) → next ≡ rest) → node a w kids next ≡ node b u sub rest
    go (Order.below l e f) i j =
        absurd (lone a w kids next (node b u sub rest) r.1 r.2 (branch-above a (node b u sub rest) l s) (h a))
    go (Order.above l e f) i j =
        absurd (lone b u sub rest (node a w kids next) s.1 s.2 (branch-above b (node a w kids next) l r) (λ x. sym (h b x)))
    go (Order.same l e) i j =
        let k : (x : Key) → value_at x (w, kids) ≡ value_at x (u, sub) = λ x. rw (eqb_refl, eq-eqb a b l) at (h a x) in
        let down : kids ≡ sub = i (λ c x. k (c ∷ x)) in
        let along : next ≡ rest = j (λ c x. side c x (ℕ_discrete c a)) in
        λ n. node (l n) (k [] n) (down n) (along n)
      where
        side : (c : ℕ) (x : Key) → Dec (c ≡ a) → value_at x (branch c next) ≡ value_at x (branch c rest)
        side c x (yes p) = rw (p, branch-above a next r.0 r.3, l, branch-above b rest s.0 s.3)
        side c x (no p) = rw (ne_eqb c a p, ne_eqb c b (λ q. p (q ∙ sym l))) at (h c x)

pub tree-ext : (t u : Tree) → Orderly t.1 → Orderly u.1 → ((x : Key) → value_at x t ≡ value_at x u) → t ≡ u
unfolding value_at
tree-ext t u r s h = λ i. (h [] i, forest-ext t.1 u.1 r s (λ a x. h (a ∷ x)) i)

-- ---- how many nodes a path adds

-- 1 where there is no sibling a
unfoldable pub fresh_label : ℕ → Forest → ℕ
fresh_label a empty = 1
fresh_label a (node b w kids next) = cond (eqb a b) 0 (fresh_label a next)

-- how many nodes of the path are not there
unfoldable pub fresh_nodes : Key → Tree → ℕ
fresh_nodes [] t = 0
fresh_nodes (a ∷ k) t = fresh_label a t.1 + fresh_nodes k (branch a t.1)

fresh_label-above : (a : ℕ) (f : Forest) → Above a f → Orderly f → fresh_label a f ≡ 1
unfolding fresh_label
fresh_label-above a empty h s = refl
fresh_label-above a (node b w kids next) h s = rw (ne_eqb a b (λ e. omega arith)) (fresh_label-above a next (above-weak a b next h s.0) s.3)

size-alter : (a : ℕ) (g : Tree → Tree) (f : Forest) → Orderly f
    → size (alter a g f) + size (branch a f).1 ≡ size f + fresh_label a f + size (g (branch a f)).1
unfolding alter branch size fresh_label
size-alter a g empty s = omega arith
size-alter a g (node b w kids next) s = go (order a b) (size-alter a g next s.3)
  where
    go : Order a b → size (alter a g next) + size (branch a next).1 ≡ size next + fresh_label a next + size (g (branch a next)).1
        → size (alter a g (node b w kids next)) + size (branch a (node b w kids next)).1
        ≡ size (node b w kids next) + fresh_label a (node b w kids next) + size (g (branch a (node b w kids next))).1
    go (Order.below l e f) ih =
        let up : Above a next = above-weak a b next l s.0 in rw (e, branch-above a next up s.3, fresh_label-above a next up s.3) (omega arith)
    go (Order.same l e) ih = rw e (omega arith)
    go (Order.above l e f) ih = rw e (omega arith)

pub size-grow : (k : Key) (v : ℕ) (t : Tree) → Orderly t.1 → size (grow k v t).1 ≡ size t.1 + fresh_nodes k t
unfolding grow fresh_nodes
size-grow [] v t s = omega arith
size-grow (a ∷ k) v t s =
    omega (arith, size-alter a (grow k v) t.1 s, size-grow k v (branch a t.1) (branch-orderly a t.1 s))

-- ---- siblings behind siblings

pub size-join : (f g : Forest) → size (join f g) ≡ size f + size g
unfolding size join
size-join empty g = omega arith
size-join (node a w kids next) g = omega (arith, size-join next g)

pub width-join : (f g : Forest) → width (join f g) ≡ width f + width g
unfolding width join
width-join empty g = omega arith
width-join (node a w kids next) g = omega (arith, width-join next g)
