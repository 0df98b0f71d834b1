-- The levels of a rising map have its prefixes, each once: leading parts of one length rise with their keys, so equal ones stand together and a level rises strictly.
-- An insert has the map's prefixes and the missing ones, which are none of the map's, so their counts add up.
--
--     level-iff            a level has the prefixes of its length
--     prefixes-iff         all levels together have the nonempty ones
--     prefixes-empty       the empty map has none
--     prefixes-ordered     they come in breadth-first order, so none comes twice: `prefixes-distinct`
--     prefixes_of-iff      the same of one key, whose prefixes are as many as its bytes: `prefixes_of-length`
--     prefixes-insert      an insert adds those that are missing
--     missing-none         and none if some key begins with the key already
--
-- Assumes nothing.
use mathlib.Core.Path.{◌≡◌, refl, sym, ap, ◌∙◌}
use mathlib.Core.Logic.{◌↔◌, ◌⊎◌, inl, inr, ⊎_elim}
use mathlib.Core.Bool.{Bool, true, false, not, true≢false}
use Prim.Native.Nat.{ℕ, zero, suc, ◌+◌, ◌≤◌, ◌<◌}
use native.Mathlib.Omega.{arith}
use mathlib.Core.List.Memᴰ
use mathlib.Core.List.{List, [], ◌∷◌, ◌++◌, map, cons-ne-nil}
use Rattle.std.specs.Prelude.{Some}
use lib.ListN.{length, take, length-append, length-take, length-map}
use lib.Dec.{leb}
use borrow.Author.Tests.{leb-true, leb-false, not-true}
use Rattle.keymap.specs.Members.{In, here, there, Ordered, Distinct}
use Rattle.keymap.specs.Key.{Key, Below, PrefixOf}
use Rattle.keymap.specs.Map.{Entry, Map, Rising, insert, lookup}
use Rattle.keymap.specs.Queries.{keep, nonempty, beginning, SomeBegins}
use Rattle.keymap.specs.Prefixes.{once, level, deepest, levels, prefixes, Earlier, prefixes_of, missing}
use Rattle.keymap.proofs.Laws.Members.{in_map, members-none, ordered-append, ordered-weak, ordered-map, distinct-same}
use Rattle.keymap.proofs.Laws.Key.{Order, order, KeyOrder, key_order, compare_keys-trans, below_irrefl, below-asym}
use Rattle.keymap.proofs.Laws.Begins.{prefix-empty, prefix-nil, prefix-cons, prefix-length, prefix_refl, prefix_trans, prefix-take, take-rises}
use Rattle.keymap.proofs.Laws.Map.{rising-iff, lookup-iff, insert_iff, insert-rising, dec_key}
use Rattle.keymap.proofs.Laws.Queries.{keep-iff, keep-ordered, nonempty-beginning}

once-iff : (x p : Key) (ps : List Key) → In x (once p ps) ↔ ((x ≡ p) ⊎ In x ps)
once-iff x p [] = (λ h. Memᴰ.cases_cons h, λ h. ⊎_elim (λ s. here s) (λ i. there i) h)
once-iff x p (q ∷ ps) = go (key_order p q)
  where
    before : In x (p ∷ q ∷ ps) ↔ ((x ≡ p) ⊎ In x (q ∷ ps))
    before = (λ h. Memᴰ.cases_cons h, λ h. ⊎_elim (λ s. here s) (λ i. there i) h)

    go : KeyOrder p q → In x (once p (q ∷ ps)) ↔ ((x ≡ p) ⊎ In x (q ∷ ps))
    go (KeyOrder.below u v) = rw u before
    go (KeyOrder.same s u) = rw u (λ h. inr h, λ h. ⊎_elim (λ t. here (t ∙ s)) (λ i. i) h)
    go (KeyOrder.above u v) = rw u before

once-ordered : (p : Key) (ps : List Key) → Ordered Below ps → ((q : Key) → In q ps → (p ≡ q) ⊎ Below p q) → Ordered Below (once p ps)
once-ordered p [] o h = (λ y i. absurd (Memᴰ.not-nil i), tt)
once-ordered p (q ∷ ps) o h = go (key_order p q)
  where
    go : KeyOrder p q → Ordered Below (once p (q ∷ ps))
    go (KeyOrder.below u v) =
        rw u (λ y i. ⊎_elim (λ s. rw s u) (λ j. compare_keys-trans p q y u (o.0 y j)) (Memᴰ.cases_cons i), o)
    go (KeyOrder.same s u) = rw u o
    go (KeyOrder.above u v) = absurd (⊎_elim (λ s. below_irrefl q (rw s at v)) (λ b. below-asym p q b v) (h q (here refl)))

take-iff : (d : ℕ) (k p : Key) → d ≤ length k → (p ≡ take d k) ↔ ((length p ≡ d) × PrefixOf p k)
take-iff d k p l = (
  λ s.
      let n : length p ≡ d = ap length s ∙ length-take d k ∙ (omega arith) in
      (n, (prefix-take p k).1 (ap (λ i. take i k) n ∙ sym s)),
  λ h. sym ((prefix-take p k).0 h.1) ∙ ap (λ i. take i k) h.0,
)

pub level-iff : (d : ℕ) (m : Map) (p : Key) → In p (level d m) ↔ ((length p ≡ d) × SomeBegins p m)
unfolding level
level-iff d [] p = (λ h. absurd (Memᴰ.not-nil h), λ h. absurd (Memᴰ.not-nil h.1.1))
level-iff d (e ∷ m) p = go (leb d (length e.0)) refl (level-iff d m p)
  where
    -- a key of e ∷ m is that of e or one of m's
    either : SomeBegins p (e ∷ m) → PrefixOf p e.0 ⊎ SomeBegins p m
    either (f, i, h) = ⊎_elim (λ s. inl (rw s at h)) (λ j. inr (f, j, h)) (Memᴰ.cases_cons i)

    later : SomeBegins p m → SomeBegins p (e ∷ m)
    later (f, i, h) = (f, there i, h)

    go : (t : Bool)
        → leb d (length e.0) ≡ t
        → In p (level d m) ↔ ((length p ≡ d) × SomeBegins p m)
        → In p (level d (e ∷ m)) ↔ ((length p ≡ d) × SomeBegins p (e ∷ m))
    go true t ih =
        let own : (p ≡ take d e.0) ↔ ((length p ≡ d) × PrefixOf p e.0) = take-iff d e.0 p (leb-true _ _ t) in
        let parts : In p (once (take d e.0) (level d m)) ↔ ((p ≡ take d e.0) ⊎ In p (level d m)) = once-iff p (take d e.0) (level d m) in
        rw t (
          λ h. ⊎_elim (λ s. ((own.0 s).0, (e, here refl, (own.0 s).1))) (λ i. ((ih.0 i).0, later (ih.0 i).1)) (parts.0 h),
          λ h. parts.1 (⊎_elim (λ f. inl (own.1 (h.0, f))) (λ f. inr (ih.1 (h.0, f))) (either h.1)),
        )
    go false t ih =
        rw t (
          λ h. ((ih.0 h).0, later (ih.0 h).1),
          λ h. ih.1 (h.0, ⊎_elim (λ f. absurd (omega (arith, h.0, prefix-length p e.0 f, leb-false d (length e.0) t))) (λ f. f) (either h.1)),
        )

pub level-ordered : (d : ℕ) (m : Map) → Rising m → Ordered Below (level d m)
unfolding level
level-ordered d [] r = tt
level-ordered d (e ∷ m) r = go (leb d (length e.0)) refl (level-ordered d m r.1)
  where
    behind : (q : Key) → In q (level d m) → (take d e.0 ≡ q) ⊎ Below (take d e.0) q
    behind q i =
        let (n, (f, j, h)) = (level-iff d m q).0 i in
        let s : take d f.0 ≡ q = ap (λ c. take c f.0) (sym n) ∙ (prefix-take q f.0).0 h in
        rw s at (take-rises d e.0 f.0 (((rising-iff (e ∷ m)).0 r).0 f j))

    go : (t : Bool) → leb d (length e.0) ≡ t → Ordered Below (level d m) → Ordered Below (level d (e ∷ m))
    go true t ih = rw t (once-ordered (take d e.0) (level d m) ih behind)
    go false t ih = rw t ih

pub levels-iff : (n d : ℕ) (m : Map) (p : Key) → In p (levels n d m) ↔ ((d ≤ length p) × (length p < n + d) × SomeBegins p m)
unfolding levels
levels-iff zero d m p = (λ h. absurd (Memᴰ.not-nil h), λ h. absurd (omega (arith, h.0, h.1)))
levels-iff (suc n) d m p = go (levels-iff n (suc d) m p)
  where
    go : In p (levels n (suc d) m) ↔ ((suc d ≤ length p) × (length p < n + suc d) × SomeBegins p m)
        → In p (levels (suc n) d m) ↔ ((d ≤ length p) × (length p < suc n + d) × SomeBegins p m)
    go ih = (λ h. ⊎_elim here_on (λ i. let (a, b, f) = ih.0 i in (omega arith, omega arith, f)) (Memᴰ.append_cases (level d m) h), λ h. split h (order d (length p)))
      where
        here_on : In p (level d m) → (d ≤ length p) × (length p < suc n + d) × SomeBegins p m
        here_on i = let (s, f) = (level-iff d m p).0 i in (omega arith, omega arith, f)

        split : (d ≤ length p) × (length p < suc n + d) × SomeBegins p m → Order d (length p) → In p (level d m ++ levels n (suc d) m)
        split (a, b, f) (Order.below l e g) = Memᴰ.append_right (level d m) (ih.1 (omega arith, omega arith, f))
        split (a, b, f) (Order.same l e) = Memᴰ.append_left (levels n (suc d) m) ((level-iff d m p).1 (sym l, f))
        split (a, b, f) (Order.above l e g) = absurd (omega arith)

levels-ordered : (n d : ℕ) (m : Map) → Rising m → Ordered Earlier (levels n d m)
unfolding levels
levels-ordered zero d m r = tt
levels-ordered (suc n) d m r =
    (ordered-append Earlier (level d m) (levels n (suc d) m)).1 (
      ordered-weak (level d m) (λ x y i j b. inr (((level-iff d m x).0 i).0 ∙ sym ((level-iff d m y).0 j).0, b)) (level-ordered d m r),
      levels-ordered n (suc d) m r,
      λ x y i j. let s : length x ≡ d = ((level-iff d m x).0 i).0 in let (l, u, f) = (levels-iff n (suc d) m y).0 j in inl (omega arith),
    )

deepest-most : (m : Map) (e : Entry) → In e m → length e.0 ≤ deepest m
unfolding deepest
deepest-most [] e i = absurd (Memᴰ.not-nil i)
deepest-most (d ∷ m) e i = ⊎_elim (λ s. omega (arith, ap (λ (x : Entry). length x.0) s)) (λ j. omega (arith, deepest-most m e j)) (Memᴰ.cases_cons i)

nonempty-length : (p : Key) → (¬ (p ≡ [])) ↔ (1 ≤ length p)
nonempty-length [] = (λ h. absurd (h refl), λ h s. omega arith)
nonempty-length (a ∷ p) = (λ h. omega arith, λ h. cons-ne-nil a p)

pub prefixes-iff : (m : Map) (p : Key) → In p (prefixes m) ↔ ((¬ (p ≡ [])) × SomeBegins p m)
unfolding prefixes
prefixes-iff m p = (
  λ h. let (l, u, f) = (levels-iff (deepest m) 1 m p).0 h in ((nonempty-length p).1 l, f),
  λ h.
      let (n, (e, i, f)) = h in
      (levels-iff (deepest m) 1 m p).1 ((nonempty-length p).0 n, omega (arith, prefix-length p e.0 f, deepest-most m e i), (e, i, f)),
)

pub prefixes-empty : prefixes [] ≡ []
unfolding prefixes levels deepest
prefixes-empty = refl

pub prefixes-ordered : (m : Map) → Rising m → Ordered Earlier (prefixes m)
unfolding prefixes
prefixes-ordered m r = levels-ordered (deepest m) 1 m r

pub prefixes-distinct : (m : Map) → Rising m → Distinct (prefixes m)
prefixes-distinct m r = ordered-weak (prefixes m) (λ x y i j b s. apart x (rw (← s) at b)) (prefixes-ordered m r)
  where
    apart : (x : Key) → ¬ Earlier x x
    apart x (inl l) = omega arith
    apart x (inr b) = below_irrefl x b.1

pub prefixes_of-iff : (k p : Key) → In p (prefixes_of k) ↔ ((¬ (p ≡ [])) × PrefixOf p k)
unfolding prefixes_of
prefixes_of-iff [] [] = (λ h. absurd (Memᴰ.not-nil h), λ h. absurd (h.0 refl))
prefixes_of-iff [] (b ∷ p) = (λ h. absurd (Memᴰ.not-nil h), λ h. absurd (prefix-nil b p h.1))
prefixes_of-iff (a ∷ k) p = go (λ q. prefixes_of-iff k q)
  where
    -- behind a: nothing, or a prefix of k
    from : ((q : Key) → In q (prefixes_of k) ↔ ((¬ (q ≡ [])) × PrefixOf q k)) → (p ≡ a ∷ []) ⊎ In p (map (λ (q : Key). a ∷ q) (prefixes_of k)) → (q : Key) × (p ≡ a ∷ q) × PrefixOf q k
    from ih (inl s) = ([], s, prefix-empty k)
    from ih (inr i) = let (q, j, s) = (in_map (λ (x : Key). a ∷ x) p (prefixes_of k)).0 i in (q, s, ((ih q).0 j).1)

    to : ((q : Key) → In q (prefixes_of k) ↔ ((¬ (q ≡ [])) × PrefixOf q k)) → (q : Key) → p ≡ a ∷ q → PrefixOf q k → In p (prefixes_of (a ∷ k))
    to ih [] s f = here s
    to ih (c ∷ q) s f = there ((in_map (λ (x : Key). a ∷ x) p (prefixes_of k)).1 (c ∷ q, (ih (c ∷ q)).1 (cons-ne-nil c q, f), s))

    rest : (x : Key) → ¬ (x ≡ []) → PrefixOf x (a ∷ k) → (q : Key) × (x ≡ a ∷ q) × PrefixOf q k
    rest [] n f = absurd (n refl)
    rest (b ∷ q) n f = let (s, g) = (prefix-cons b q a k).0 f in (q, (λ i. s i ∷ q), g)

    go : ((q : Key) → In q (prefixes_of k) ↔ ((¬ (q ≡ [])) × PrefixOf q k)) → In p (prefixes_of (a ∷ k)) ↔ ((¬ (p ≡ [])) × PrefixOf p (a ∷ k))
    go ih = (
      λ h.
          let (q, s, f) = from ih (Memᴰ.cases_cons h) in
          (λ t. cons-ne-nil a q (sym s ∙ t), rw s ((prefix-cons a q a k).1 (refl, f))),
      λ h. let (q, s, f) = rest p h.0 h.1 in to ih q s f,
    )

pub prefixes_of-ordered : (k : Key) → Ordered (λ (p q : Key). length p < length q) (prefixes_of k)
unfolding prefixes_of
prefixes_of-ordered [] = tt
prefixes_of-ordered (a ∷ k) = (
  λ y i.
      let (q, j, s) = (in_map (λ (x : Key). a ∷ x) y (prefixes_of k)).0 i in
      omega (arith, ap length s, (nonempty-length q).0 ((prefixes_of-iff k q).0 j).0),
  ordered-map (λ (p q : Key). length p < length q) (λ (p q : Key). length p < length q) (λ (p : Key). a ∷ p) (λ x y l. omega arith) (prefixes_of k) (prefixes_of-ordered k),
)

pub prefixes_of-distinct : (k : Key) → Distinct (prefixes_of k)
prefixes_of-distinct k = ordered-weak (prefixes_of k) (λ x y i j l s. omega (arith, ap length s)) (prefixes_of-ordered k)

pub prefixes_of-length : (k : Key) → length (prefixes_of k) ≡ length k
unfolding prefixes_of
prefixes_of-length [] = refl
prefixes_of-length (a ∷ k) = ap suc (length-map (prefixes_of k) (λ (p : Key). a ∷ p) ∙ prefixes_of-length k)

-- an insert brings the prefixes of its key
pub some_begins-insert : (k : Key) (v : ℕ) (m : Map) → Rising m → (p : Key) → SomeBegins p (insert k v m) ↔ (PrefixOf p k ⊎ SomeBegins p m)
some_begins-insert k v m r p = (from, to)
  where
    from : SomeBegins p (insert k v m) → PrefixOf p k ⊎ SomeBegins p m
    from (e, i, f) = ⊎_elim (λ s. inl (rw s at f)) (λ h. inr (e, h.0, f)) ((insert_iff k v m r e).0 i)

    old : (e : Entry) → In e m → PrefixOf p e.0 → Dec (e.0 ≡ k) → SomeBegins p (insert k v m)
    old e i f (yes s) = ((k, v), (insert_iff k v m r (k, v)).1 (inl refl), rw s at f)
    old e i f (no n) = (e, (insert_iff k v m r e).1 (inr (i, n)), f)

    to : PrefixOf p k ⊎ SomeBegins p m → SomeBegins p (insert k v m)
    to (inl f) = ((k, v), (insert_iff k v m r (k, v)).1 (inl refl), f)
    to (inr (e, i, f)) = old e i f (dec_key e.0 k)

-- the prefixes of k that `missing` counts
abbrev fresh : Key → Map → List Key
fresh k m = keep (λ (p : Key). not (nonempty (beginning p m))) (prefixes_of k)

absent-iff : (m : Map) (p : Key) → (not (nonempty (beginning p m)) ≡ true) ↔ (¬ SomeBegins p m)
absent-iff m p = (
  λ h f. true≢false (sym ((nonempty-beginning p m).1 f) ∙ not-true (nonempty (beginning p m)) h),
  λ h. go (nonempty (beginning p m)) refl h,
)
  where
    go : (t : Bool) → nonempty (beginning p m) ≡ t → ¬ SomeBegins p m → not t ≡ true
    go true e h = absurd (h ((nonempty-beginning p m).0 e))
    go false e h = refl

fresh-iff : (k : Key) (m : Map) (p : Key) → In p (fresh k m) ↔ ((¬ (p ≡ [])) × PrefixOf p k × (¬ SomeBegins p m))
fresh-iff k m p = (
  λ h.
      let (i, t) = (keep-iff (λ (x : Key). not (nonempty (beginning x m))) p (prefixes_of k)).0 h in
      (((prefixes_of-iff k p).0 i).0, ((prefixes_of-iff k p).0 i).1, (absent-iff m p).0 t),
  λ h. (keep-iff (λ (x : Key). not (nonempty (beginning x m))) p (prefixes_of k)).1 ((prefixes_of-iff k p).1 (h.0, h.1), (absent-iff m p).1 h.2),
)

pub prefixes-insert : (k : Key) (v : ℕ) (m : Map) → Rising m → length (prefixes (insert k v m)) ≡ length (prefixes m) + missing k m
unfolding missing
prefixes-insert k v m r =
    distinct-same (prefixes (insert k v m)) (prefixes m ++ fresh k m) (prefixes-distinct (insert k v m) (insert-rising k v m r)) apart (λ p. (from p, to p))
    ∙ length-append (prefixes m) (fresh k m)
  where
    apart : Distinct (prefixes m ++ fresh k m)
    apart =
        (ordered-append (λ (x y : Key). ¬ (x ≡ y)) (prefixes m) (fresh k m)).1 (
          prefixes-distinct m r,
          keep-ordered (λ (x : Key). not (nonempty (beginning x m))) (λ (x y : Key). ¬ (x ≡ y)) (prefixes_of k) (prefixes_of-distinct k),
          λ x y i j s. ((fresh-iff k m y).0 j).2 (rw s at ((prefixes-iff m x).0 i).1),
        )

    sort : (p : Key) → ¬ (p ≡ []) → PrefixOf p k ⊎ SomeBegins p m → (t : Bool) → nonempty (beginning p m) ≡ t → In p (prefixes m ++ fresh k m)
    sort p n f true e = Memᴰ.append_left (fresh k m) ((prefixes-iff m p).1 (n, (nonempty-beginning p m).0 e))
    sort p n (inl f) false e = Memᴰ.append_right (prefixes m) ((fresh-iff k m p).1 (n, f, λ g. true≢false (sym ((nonempty-beginning p m).1 g) ∙ e)))
    sort p n (inr f) false e = Memᴰ.append_left (fresh k m) ((prefixes-iff m p).1 (n, f))

    from : (p : Key) → In p (prefixes (insert k v m)) → In p (prefixes m ++ fresh k m)
    from p h =
        let (n, f) = (prefixes-iff (insert k v m) p).0 h in
        sort p n ((some_begins-insert k v m r p).0 f) (nonempty (beginning p m)) refl

    to : (p : Key) → In p (prefixes m ++ fresh k m) → In p (prefixes (insert k v m))
    to p h =
        ⊎_elim
        (λ i. let (n, f) = (prefixes-iff m p).0 i in (prefixes-iff (insert k v m) p).1 (n, (some_begins-insert k v m r p).1 (inr f)))
        (λ i. let (n, f, a) = (fresh-iff k m p).0 i in (prefixes-iff (insert k v m) p).1 (n, (some_begins-insert k v m r p).1 (inl f)))
        (Memᴰ.append_cases (prefixes m) h)

-- a key that some key begins with misses nothing
pub missing-none : (k : Key) (m : Map) → SomeBegins k m → missing k m ≡ 0
unfolding missing
missing-none k m (e, i, f) = ap length (members-none (fresh k m) (λ p j. let (n, g, a) = (fresh-iff k m p).0 j in a (e, i, prefix_trans p k e.0 g f)))

pub missing-present : (k : Key) (v : ℕ) (m : Map) → Rising m → lookup k m ≡ Some v → missing k m ≡ 0
missing-present k v m r h = missing-none k m ((k, v), (lookup-iff k v m r).0 h, prefix_refl k)
