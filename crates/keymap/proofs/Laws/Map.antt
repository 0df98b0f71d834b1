-- Laws of the map as a rising list of entries: what is looked up after an insert, and that the look-ups, or the entries, determine the list.
--
--     insert-rising         an insert rises
--     lookup-insert-same    it has the value set, and `lookup-insert-other` the values of other keys
--     insert_iff            the same of its entries
--     insert_comm           different keys go in in either order
--     insert_all-last       of entries in turn the last is inserted last
--     insert_all-self       the entries of a rising map, inserted in turn into the empty map, are that map
--     insert-catalogue      an insert of a nonempty key keeps a catalogue
--     map-ext               two maps with the same look-ups are one list, and `map-members` with the same entries
--     rising-iff            each entry stands below all behind it
--     lookup-iff            a key has a value exactly if the two are an entry, and `lookup-none` no value if no entry
--                           has it
--
-- Assumes nothing.
use mathlib.Core.Path.{◌≡◌, refl, sym, ap, ◌∙◌}
use Prim.Native.Nat.{ℕ, ◌<◌, Ordering}
use mathlib.Core.List.Memᴰ
use mathlib.Core.List.{[], ◌∷◌, ◌++◌, append_assoc, append-nil, List-discrete}
use native.Mathlib.Decide.{ℕ_discrete}
use Rattle.std.specs.Prelude.{None, Some, Option}
use Rattle.std.proofs.lemmas.Option.{none-some, same_Some}
use Rattle.keymap.specs.Limits.{value_limit}
use Rattle.keymap.specs.Key.{Key, compare_keys, Below, Bytes}
use Rattle.keymap.specs.Map.{Map, Before, Rising, insert, lookup, Entry, Under, Proper, Catalogue, insert_all}
use Rattle.keymap.proofs.Laws.Key.{KeyOrder, key_order, compare_keys-refl, compare_keys-trans, below_irrefl, below-asym}
use mathlib.Core.Logic.{◌↔◌, ◌⊎◌, inl, inr, ⊎_elim}
use Rattle.keymap.specs.Members.{In, here, there, Ordered}

pub dec_key : (x y : Key) → Dec (x ≡ y)
dec_key = List-discrete ℕ_discrete

-- what stands before an entry's key and before the others' stays before, whatever is inserted after it
insert-before : (k : Key) (v : ℕ) (m : Map) (x : Key) → compare_keys x k ≡ Ordering.lt → Before x m → Before x (insert k v m)
unfolding insert
insert-before k v [] x p q = p
insert-before k v (e ∷ m) x p q = go (compare_keys k e.0) refl
  where
    go : (o : Ordering) → compare_keys k e.0 ≡ o → Before x (insert k v (e ∷ m))
    go Ordering.lt r = rw r p
    go Ordering.eq r = rw r p
    go Ordering.gt r = rw r q

pub before-weak : (x y : Key) (m : Map) → compare_keys x y ≡ Ordering.lt → Before y m → Before x m
before-weak x y [] p q = tt
before-weak x y (e ∷ m) p q = compare_keys-trans x y e.0 p q

pub insert-rising : (k : Key) (v : ℕ) (m : Map) → Rising m → Rising (insert k v m)
unfolding insert
insert-rising k v [] r = (tt, tt)
insert-rising k v (e ∷ m) r = go (key_order k e.0) (insert-rising k v m r.1)
  where
    go : KeyOrder k e.0 → Rising (insert k v m) → Rising (insert k v (e ∷ m))
    go (KeyOrder.below p q) ih = rw p (p, r)
    go (KeyOrder.same s p) ih = rw p (rw (← s) at r.0, r.1)
    go (KeyOrder.above p q) ih = rw p (insert-before k v m e.0 q r.0, ih)

pub lookup-insert-same : (k : Key) (v : ℕ) (m : Map) → lookup k (insert k v m) ≡ Some v
unfolding insert lookup
lookup-insert-same k v [] = rw compare_keys-refl
lookup-insert-same k v (e ∷ m) = go (key_order k e.0) (lookup-insert-same k v m)
  where
    go : KeyOrder k e.0 → lookup k (insert k v m) ≡ Some v → lookup k (insert k v (e ∷ m)) ≡ Some v
    go (KeyOrder.below p q) ih = rw (p, compare_keys-refl)
    go (KeyOrder.same s p) ih = rw (p, compare_keys-refl)
    go (KeyOrder.above p q) ih = rw (p, p) ih

pub lookup-insert-other : (k : Key) (v : ℕ) (m : Map) (x : Key) → ¬ (x ≡ k) → lookup x (insert k v m) ≡ lookup x m
unfolding insert lookup
lookup-insert-other k v [] x n = go (key_order x k)
  where
    go : KeyOrder x k → lookup x (insert k v []) ≡ lookup x []
    go (KeyOrder.below p q) = rw p
    go (KeyOrder.same s p) = absurd (n s)
    go (KeyOrder.above p q) = rw p
lookup-insert-other k v (e ∷ m) x n = go (key_order k e.0) (key_order x k) (lookup-insert-other k v m x n)
  where
    go : KeyOrder k e.0 → KeyOrder x k → lookup x (insert k v m) ≡ lookup x m → lookup x (insert k v (e ∷ m)) ≡ lookup x (e ∷ m)
    go (KeyOrder.above p q) o ih = rw (p, ih)
    go (KeyOrder.below p q) (KeyOrder.below p' q') ih = rw (p, p', compare_keys-trans x k e.0 p' p)
    go (KeyOrder.below p q) (KeyOrder.same s p') ih = absurd (n s)
    go (KeyOrder.below p q) (KeyOrder.above p' q') ih = rw (p, p')
    go (KeyOrder.same s p) (KeyOrder.below p' q') ih = rw (p, ← s, p')
    go (KeyOrder.same s p) (KeyOrder.same s' p') ih = absurd (n s')
    go (KeyOrder.same s p) (KeyOrder.above p' q') ih = rw (p, ← s, p')

pub lookup-before : (x : Key) (m : Map) → Before x m → lookup x m ≡ None
unfolding lookup
lookup-before x [] b = refl
lookup-before x (e ∷ m) b = rw b

-- two maps with the same answers are the same list
pub map-ext : (m n : Map) → Rising m → Rising n → ((x : Key) → lookup x m ≡ lookup x n) → m ≡ n
unfolding lookup
map-ext [] [] r s h = refl
map-ext [] (d ∷ n) r s h = let c : None ≡ Some d.1 = h d.0 ∙ rw compare_keys-refl in cc
map-ext (e ∷ m) [] r s h = let c : None ≡ Some e.1 = sym (h e.0) ∙ rw compare_keys-refl in cc
map-ext (e ∷ m) (d ∷ n) r s h = go (key_order e.0 d.0) (λ t. map-ext m n r.1 s.1 t)
  where
    tails : e.0 ≡ d.0 → (x : Key) → lookup x m ≡ lookup x n
    tails p x = case (key_order x e.0)
      where
        case : KeyOrder x e.0 → lookup x m ≡ lookup x n
        case (KeyOrder.below u w) =
            lookup-before x m (before-weak x e.0 m u r.0) ∙ sym (lookup-before x n (before-weak x d.0 n (rw p at u) s.0))
        case (KeyOrder.same u w) = lookup-before x m (rw u r.0) ∙ sym (lookup-before x n (rw (u, p) s.0))
        case (KeyOrder.above u w) = rw (u, rw p at u) at (h x)

    go : KeyOrder e.0 d.0 → (((x : Key) → lookup x m ≡ lookup x n) → m ≡ n) → e ∷ m ≡ d ∷ n
    go (KeyOrder.below p q) t = let c : None ≡ Some e.1 = sym (rw (compare_keys-refl, p) at (h e.0)) in cc
    go (KeyOrder.above p q) t = let c : None ≡ Some d.1 = rw (compare_keys-refl, q) at (h d.0) in cc
    go (KeyOrder.same p q) t =
        let values : Some e.1 ≡ Some d.1 = rw (compare_keys-refl, p, compare_keys-refl) at (h e.0) in
        let v : e.1 ≡ d.1 = cc in
        let rest : m ≡ n = t (tails p) in
        λ i. (p i, v i) ∷ rest i

-- two different keys go in in either order
pub insert_comm : (j k : Key) (u v : ℕ) (m : Map) → ¬ (j ≡ k) → Rising m → insert j u (insert k v m) ≡ insert k v (insert j u m)
insert_comm j k u v m n r =
    map-ext _ _ (insert-rising j u _ (insert-rising k v m r)) (insert-rising k v _ (insert-rising j u m r)) (λ x. go x (dec_key x j) (dec_key x k))
  where
    go : (x : Key) → Dec (x ≡ j) → Dec (x ≡ k) → lookup x (insert j u (insert k v m)) ≡ lookup x (insert k v (insert j u m))
    go x (yes a) (yes b) = absurd (n (sym a ∙ b))
    go x (yes a) (no b) = rw a (lookup-insert-same j u _ ∙ sym (lookup-insert-other k v _ j n ∙ lookup-insert-same j u m))
    go x (no a) (yes b) = rw b (lookup-insert-other j u _ k (λ c. n (sym c)) ∙ lookup-insert-same k v m ∙ sym (lookup-insert-same k v _))
    go x (no a) (no b) = lookup-insert-other j u _ x a ∙ lookup-insert-other k v m x b ∙ sym (lookup-insert-other k v _ x b ∙ lookup-insert-other j u m x a)

-- what stands before the first key stands below every key
pub before-all : (k : Key) (m : Map) → Before k m → Rising m → (e : Entry) → In e m → Below k e.0
before-all k [] b r e h = absurd (Memᴰ.not-nil h)
before-all k (d ∷ m) b r e h = ⊎_elim (λ p. rw p b) (λ i. before-all k m (before-weak k d.0 m b r.0) r.1 e i) (Memᴰ.cases_cons h)

-- the keys rise exactly if each stands below all behind it
pub rising-iff : (m : Map) → Rising m ↔ Ordered Under m
rising-iff [] = (λ r. tt, λ o. tt)
rising-iff (e ∷ m) = (λ r. (before-all e.0 m r.0 r.1, (rising-iff m).0 r.1), λ o. (first m o.0, (rising-iff m).1 o.1))
  where
    first : (n : Map) → ((d : Entry) → In d n → Below e.0 d.0) → Before e.0 n
    first [] h = tt
    first (d ∷ n) h = h d (here refl)

-- a key has a value exactly if the two are an entry
pub lookup-iff : (k : Key) (v : ℕ) (m : Map) → Rising m → (lookup k m ≡ Some v) ↔ In (k, v) m
unfolding lookup
lookup-iff k v [] r = (λ h. absurd (none-some v h), λ h. absurd (Memᴰ.not-nil h))
lookup-iff k v (e ∷ m) r = go (key_order k e.0) (lookup-iff k v m r.1)
  where
    ahead : In (k, v) m → Below e.0 k
    ahead i = before-all e.0 m r.0 r.1 (k, v) i

    own : (k, v) ≡ e → k ≡ e.0
    own s i = (s i).0

    held : (k, v) ≡ e → Some e.1 ≡ Some v
    held s = sym (λ i. Some (s i).1)

    go : KeyOrder k e.0 → (lookup k m ≡ Some v) ↔ In (k, v) m → (lookup k (e ∷ m) ≡ Some v) ↔ In (k, v) (e ∷ m)
    go (KeyOrder.below p q) ih =
        rw p (
          λ h. absurd (none-some v h),
          λ h. absurd (⊎_elim (λ s. below_irrefl e.0 (rw (own s) at p)) (λ i. below-asym k e.0 p (ahead i)) (Memᴰ.cases_cons h)),
        )
    go (KeyOrder.same s p) ih =
        rw p (
          λ h. let u : e.1 ≡ v = same_Some e.1 v h in here (λ i. (s i, sym u i)),
          λ h. ⊎_elim held (λ i. absurd (below_irrefl k (rw (← s) at (ahead i)))) (Memᴰ.cases_cons h),
        )
    go (KeyOrder.above p q) ih =
        rw p
        (λ h. there (ih.0 h), λ h. ⊎_elim (λ s. absurd (below_irrefl k (rw (← (own s)) at q))) (λ i. ih.1 i) (Memᴰ.cases_cons h))

-- entries with one key are one entry
pub entry-one : (m : Map) → Rising m → (e d : Entry) → In e m → In d m → e.0 ≡ d.0 → e ≡ d
entry-one m r e d i j s =
    let h : lookup e.0 m ≡ Some e.1 = (lookup-iff e.0 e.1 m r).1 i in
    let g : lookup d.0 m ≡ Some d.1 = (lookup-iff d.0 d.1 m r).1 j in
    let u : e.1 ≡ d.1 = same_Some e.1 d.1 (sym h ∙ ap (λ x. lookup x m) s ∙ g) in
    λ t. (s t, u t)

-- a key has no value exactly if no entry has it
pub lookup-none : (k : Key) (m : Map) → Rising m → (lookup k m ≡ None) ↔ ((v : ℕ) → ¬ In (k, v) m)
lookup-none k m r = (λ h v i. none-some v (sym h ∙ (lookup-iff k v m r).1 i), go (lookup k m) refl)
  where
    go : (o : Option ℕ) → lookup k m ≡ o → ((v : ℕ) → ¬ In (k, v) m) → lookup k m ≡ None
    go None e h = e
    go (Some v) e h = absurd (h v ((lookup-iff k v m r).0 e))

-- look-ups follow the entries
pub lookup-members : (k : Key) (m n : Map) → Rising m → Rising n → ((v : ℕ) → In (k, v) m ↔ In (k, v) n) → lookup k m ≡ lookup k n
lookup-members k m n r s h = go (lookup k n) refl
  where
    go : (o : Option ℕ) → lookup k n ≡ o → lookup k m ≡ lookup k n
    go None e = (lookup-none k m r).1 (λ v i. (lookup-none k n s).0 e v ((h v).0 i)) ∙ sym e
    go (Some v) e = (lookup-iff k v m r).1 ((h v).1 ((lookup-iff k v n s).0 e)) ∙ sym e

-- two maps with the same entries are the same list
pub map-members : (m n : Map) → Rising m → Rising n → ((e : Entry) → In e m ↔ In e n) → m ≡ n
map-members m n r s h = map-ext m n r s (λ k. lookup-members k m n r s (λ v. h (k, v)))

-- an insert has its own entry, those of the map with other keys, and no more
pub insert_iff : (k : Key) (v : ℕ) (m : Map) → Rising m → (e : Entry) → In e (insert k v m) ↔ ((e ≡ (k, v)) ⊎ (In e m × (¬ (e.0 ≡ k))))
insert_iff k v m r e = (from (dec_key e.0 k), to)
  where
    after : Rising (insert k v m)
    after = insert-rising k v m r

    from : Dec (e.0 ≡ k) → In e (insert k v m) → (e ≡ (k, v)) ⊎ (In e m × (¬ (e.0 ≡ k)))
    from (yes s) i =
        let h : lookup e.0 (insert k v m) ≡ Some e.1 = (lookup-iff e.0 e.1 _ after).1 i in
        let u : v ≡ e.1 = same_Some v e.1 (sym (lookup-insert-same k v m) ∙ rw s at h) in
        inl (λ t. (s t, sym u t))
    from (no n) i =
        let h : lookup e.0 (insert k v m) ≡ Some e.1 = (lookup-iff e.0 e.1 _ after).1 i in
        inr ((lookup-iff e.0 e.1 m r).0 (sym (lookup-insert-other k v m e.0 n) ∙ h), n)

    to : (e ≡ (k, v)) ⊎ (In e m × (¬ (e.0 ≡ k))) → In e (insert k v m)
    to (inl s) = Memᴰ.cast s ((lookup-iff k v _ after).0 (lookup-insert-same k v m))
    to (inr (i, n)) = (lookup-iff e.0 e.1 _ after).0 (lookup-insert-other k v m e.0 n ∙ (lookup-iff e.0 e.1 m r).1 i)

-- no proper map has the empty key
pub lookup-empty : (m : Map) → Proper m → lookup [] m ≡ None
unfolding lookup compare_keys
lookup-empty [] p = refl
lookup-empty (([], v) ∷ m) p = absurd (p.0 refl)
lookup-empty ((a ∷ k, v) ∷ m) p = refl

-- what is said of a proper map's entries, of each
pub proper-in : (m : Map) → Proper m → (e : Entry) → In e m → (¬ (e.0 ≡ [])) × Bytes e.0 × (e.1 < value_limit)
proper-in [] p e i = absurd (Memᴰ.not-nil i)
proper-in (d ∷ m) p e i = ⊎_elim (λ s. rw s (p.0, p.1, p.2)) (λ j. proper-in m p.3 e j) (Memᴰ.cases_cons i)

-- ---- inserts in turn

-- what comes last is inserted last
pub insert_all-last : (es : Map) (k : Key) (v : ℕ) (m : Map) → insert_all (es ++ ((k, v) ∷ [])) m ≡ insert k v (insert_all es m)
unfolding insert_all
insert_all-last [] k v m = refl
insert_all-last (e ∷ es) k v m = insert_all-last es k v (insert e.0 e.1 m)

pub insert_all-rising : (es m : Map) → Rising m → Rising (insert_all es m)
unfolding insert_all
insert_all-rising [] m r = r
insert_all-rising (e ∷ es) m r = insert_all-rising es (insert e.0 e.1 m) (insert-rising e.0 e.1 m r)

before-left : (k : Key) (m n : Map) → Before k (m ++ n) → Before k m
before-left k [] n b = tt
before-left k (e ∷ m) n b = b

rising-left : (m n : Map) → Rising (m ++ n) → Rising m
rising-left [] n r = tt
rising-left (e ∷ m) n r = (before-left e.0 m n r.0, rising-left m n r.1)

-- a key above all others goes in at the end
insert-end : (m : Map) (e : Entry) → Rising (m ++ (e ∷ [])) → insert e.0 e.1 m ≡ m ++ (e ∷ [])
unfolding insert
insert-end [] e r = refl
insert-end (d ∷ m) e r =
    go (key_order e.0 d.0) (before-all d.0 (m ++ (e ∷ [])) r.0 r.1 e (Memᴰ.append_right m (here refl))) (insert-end m e r.1)
  where
    go : KeyOrder e.0 d.0 → Below d.0 e.0 → insert e.0 e.1 m ≡ m ++ (e ∷ []) → insert e.0 e.1 (d ∷ m) ≡ d ∷ m ++ (e ∷ [])
    go (KeyOrder.below p q) b ih = absurd (below-asym e.0 d.0 p b)
    go (KeyOrder.same s p) b ih = absurd (below_irrefl d.0 (rw s at b))
    go (KeyOrder.above p q) b ih = rw p (λ i. d ∷ ih i)

insert_all-append : (es m : Map) → Rising (m ++ es) → insert_all es m ≡ m ++ es
unfolding insert_all
insert_all-append [] m r = sym (append-nil m)
insert_all-append (e ∷ es) m r =
    let whole : (m ++ (e ∷ [])) ++ es ≡ m ++ (e ∷ es) = append_assoc m (e ∷ []) es in
    let up : Rising ((m ++ (e ∷ [])) ++ es) = rw whole r in
    let last = insert-end m e (rising-left (m ++ (e ∷ [])) es up) in
    ap (insert_all es) last ∙ insert_all-append es (m ++ (e ∷ [])) up ∙ whole

pub insert_all-self : (m : Map) → Rising m → insert_all m [] ≡ m
insert_all-self m r = insert_all-append m [] r

-- ---- what a catalogue may hold

insert-proper : (k : Key) (v : ℕ) (m : Map) → ¬ (k ≡ []) → Bytes k → v < value_limit → Proper m → Proper (insert k v m)
unfolding insert
insert-proper k v [] n b l p = (n, b, l, tt)
insert-proper k v (e ∷ m) n b l p = go (compare_keys k e.0) refl (insert-proper k v m n b l p.3)
  where
    go : (o : Ordering) → compare_keys k e.0 ≡ o → Proper (insert k v m) → Proper (insert k v (e ∷ m))
    go Ordering.lt r ih = rw r (n, b, l, p)
    go Ordering.eq r ih = rw r (n, b, l, p.3)
    go Ordering.gt r ih = rw r (p.0, p.1, p.2, ih)

pub insert-catalogue : (k : Key) (v : ℕ) (m : Map) → ¬ (k ≡ []) → Bytes k → v < value_limit → Catalogue m → Catalogue (insert k v m)
insert-catalogue k v m n b l c = record { rising = insert-rising k v m c.rising; proper = insert-proper k v m n b l c.proper }
