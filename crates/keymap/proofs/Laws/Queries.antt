-- The queries of a rising map are what 01 says of them. A listing keeps the entries that pass a test, so it rises as the map does and its first entry is its least;
-- prefixes of one query rise with their lengths, so there the first is the shortest.
--
--     keep-iff, lookup-keep   what a test keeps of a list, and what is looked up in a map of which it keeps a part
--     keep_all, keep-drops    a test that all pass keeps the list; a sharper test that drops one keeps fewer
--     beginning-iff           the predictive listing has the entries whose keys begin with the query
--     longer-iff              the postfix listing has those that are longer besides
--     beginning-present       the first is the second with the query's own entry before it, and `beginning-absent`
--                             where it has none
--     is_prefix_in-iff        some key begins with the query and is longer
--     common_of_all-longest   the longest common prefix of a map that has a key
--     longest_prefix_in-some  which prefix is answered, and `longest_prefix_in-none` when none is
--     common_prefix_in-some   which key is answered, and `common_prefix_in-none` when none is
--     least_above-some        which key is answered, and `least_above-none` when none is
--     least_above-next        steps go through a listing from its head on, each entry once, and then end
--
-- Assumes nothing.
use mathlib.Core.Path.{◌≡◌, refl, sym, ap, ◌∙◌}
use mathlib.Core.Logic.{◌↔◌, ◌⊎◌, inl, inr, ⊎_elim}
use mathlib.Core.Bool.{Bool, true, false, cond, ◌&&◌, true≢false, false≢true}
use Prim.Native.Nat.{ℕ, ◌≤◌, ◌<◌, Ordering}
use native.Mathlib.Omega.{arith}
use mathlib.Core.List.Memᴰ
use mathlib.Core.List.{List, [], ◌∷◌, ◌++◌, cons-ne-nil}
use Rattle.std.specs.Prelude.{Option, None, Some}
use Rattle.std.proofs.lemmas.Option.{none-some, same_Some}
use lib.ListN.{length}
use lib.Dec.{ltb}
use borrow.Author.Tests.{ltb-true, lt-ltb}
use Rattle.keymap.specs.Members.{In, here, there, Ordered, head_of}
use Rattle.keymap.specs.Key.{Key, pick, compare_keys, Below, is_below, begins_with, PrefixOf, extends}
use Rattle.keymap.specs.Map.{Entry, Map, Under, Rising, lookup}
use Rattle.keymap.specs.Queries.{keep, nonempty, SomeBegins, beginning, longer, is_prefix_in, LongestCommon, common_of_all, unless_empty, longest_prefix_in, ShortestWithin, common_prefix_in, NextAfter, least_above}
use Rattle.keymap.proofs.Laws.Members.{members-none, head_in, head-none, head-before, ordered-append}
use Rattle.keymap.proofs.Laws.Key.{KeyOrder, key_order, below_irrefl, below-asym}
use Rattle.keymap.proofs.Laws.Begins.{both_true, extends-iff, common_prefix-iff, prefix-length, prefix-chain, prefix-whole, prefix-proper, prefix-below, prefix_refl, prefix-rises}
use Rattle.keymap.proofs.Laws.Map.{dec_key, rising-iff, lookup-iff, lookup-none, lookup-members, map-members, entry-one}

module _ {A : Type 0} (test : A → Bool) where
  pub keep-iff : (x : A) (xs : List A) → In x (keep test xs) ↔ (In x xs × (test x ≡ true))
  unfolding keep
  keep-iff x [] = (λ h. absurd (Memᴰ.not-nil h), λ h. h.0)
  keep-iff x (y ∷ xs) = go (test y) refl (keep-iff x xs)
    where
      go : (t : Bool) → test y ≡ t → In x (keep test xs) ↔ (In x xs × (test x ≡ true)) → In x (keep test (y ∷ xs)) ↔ (In x (y ∷ xs) × (test x ≡ true))
      go true e ih =
          rw e (
            λ h. ⊎_elim (λ s. (here s, ap test s ∙ e)) (λ i. (there (ih.0 i).0, (ih.0 i).1)) (Memᴰ.cases_cons h),
            λ h. ⊎_elim (λ s. here s) (λ i. there (ih.1 (i, h.1))) (Memᴰ.cases_cons h.0),
          )
      go false e ih =
          rw e (
            λ h. (there (ih.0 h).0, (ih.0 h).1),
            λ h. ⊎_elim (λ s. absurd (true≢false (sym h.1 ∙ ap test s ∙ e))) (λ i. ih.1 (i, h.1)) (Memᴰ.cases_cons h.0),
          )

  pub keep-ordered : (R : A → A → Type 0) (xs : List A) → Ordered R xs → Ordered R (keep test xs)
  unfolding keep
  keep-ordered R [] o = tt
  keep-ordered R (x ∷ xs) o = go (test x) refl (keep-ordered R xs o.1)
    where
      go : (t : Bool) → test x ≡ t → Ordered R (keep test xs) → Ordered R (keep test (x ∷ xs))
      go true e ih = rw e (λ y i. o.0 y ((keep-iff y xs).0 i).0, ih)
      go false e ih = rw e ih

  keep-none : (xs : List A) → (keep test xs ≡ []) ↔ ((x : A) → In x xs → ¬ (test x ≡ true))
  keep-none xs = (
    λ h x i t. Memᴰ.not-nil (rw h at ((keep-iff x xs).1 (i, t))),
    λ h. members-none (keep test xs) (λ x i. let (j, t) = (keep-iff x xs).0 i in h x j t),
  )

  pub keep_all : (xs : List A) → ((x : A) → In x xs → test x ≡ true) → keep test xs ≡ xs
  unfolding keep
  keep_all [] h = refl
  keep_all (x ∷ xs) h = rw (h x (here refl)) (ap (λ (ys : List A). x ∷ ys) (keep_all xs (λ y i. h y (there i))))

  nonempty-keep : (xs : List A) → (nonempty (keep test xs) ≡ true) ↔ ((x : A) × In x xs × (test x ≡ true))
  nonempty-keep xs = (go (keep test xs) refl, λ h. back (keep test xs) ((keep-iff h.0 xs).1 (h.1, h.2)))
    where
      go : (ys : List A) → keep test xs ≡ ys → nonempty ys ≡ true → (x : A) × In x xs × (test x ≡ true)
      go [] e h = absurd (false≢true h)
      go (y ∷ ys) e h = let (i, t) = (keep-iff y xs).0 (rw e (here refl)) in (y, i, t)

      back : {x : A} (ys : List A) → In x ys → nonempty ys ≡ true
      back [] i = absurd (Memᴰ.not-nil i)
      back (y ∷ ys) i = refl

-- a sharper test keeps fewer, and strictly fewer where it drops one that the other keeps
module _ {A : Type 0} (s t : A → Bool) (sharper : (x : A) → s x ≡ true → t x ≡ true) where
  keep-fewer : (xs : List A) → length (keep s xs) ≤ length (keep t xs)
  unfolding keep
  keep-fewer [] = omega arith
  keep-fewer (x ∷ xs) = go (s x) refl (t x) refl (keep-fewer xs)
    where
      go : (a : Bool) → s x ≡ a → (b : Bool) → t x ≡ b → length (keep s xs) ≤ length (keep t xs) → length (keep s (x ∷ xs)) ≤ length (keep t (x ∷ xs))
      go true e true f l = rw (e, f) (omega arith)
      go true e false f l = absurd (true≢false (sym (sharper x e) ∙ f))
      go false e true f l = rw (e, f) (omega arith)
      go false e false f l = rw (e, f) l

  pub keep-drops : (xs : List A) (y : A) → In y xs → s y ≡ false → t y ≡ true → length (keep s xs) < length (keep t xs)
  unfolding keep
  keep-drops [] y i g h = absurd (Memᴰ.not-nil i)
  keep-drops (x ∷ xs) y i g h = go (s x) refl (t x) refl (Memᴰ.cases_cons i) (λ j. keep-drops xs y j g h)
    where
      go : (a : Bool) → s x ≡ a → (b : Bool) → t x ≡ b → (y ≡ x) ⊎ In y xs → (In y xs → length (keep s xs) < length (keep t xs))
          → length (keep s (x ∷ xs)) < length (keep t (x ∷ xs))
      go true e true f (inl u) ih = absurd (true≢false (sym (ap s u ∙ e) ∙ g))
      go true e true f (inr j) ih = rw (e, f) (omega (arith, ih j))
      go true e false f j ih = absurd (true≢false (sym (sharper x e) ∙ f))
      go false e true f j ih = rw (e, f) (omega (arith, keep-fewer xs))
      go false e false f (inl u) ih = absurd (true≢false (sym h ∙ ap t u ∙ f))
      go false e false f (inr j) ih = rw (e, f) (ih j)

pub keep-rising : (test : Entry → Bool) (m : Map) → Rising m → Rising (keep test m)
keep-rising test m r = (rising-iff (keep test m)).1 (keep-ordered test _ m ((rising-iff m).0 r))

pub lookup-keep : (test : Key → Bool) (m : Map) → Rising m → (k : Key) → lookup k (keep (λ (e : Entry). test e.0) m) ≡ cond (test k) (lookup k m) None
lookup-keep test m r k = go (test k) refl
  where
    kept : Map
    kept = keep (λ (e : Entry). test e.0) m

    rises : Rising kept
    rises = keep-rising (λ (e : Entry). test e.0) m r

    has : (v : ℕ) → In (k, v) kept ↔ (In (k, v) m × (test k ≡ true))
    has v = keep-iff (λ (e : Entry). test e.0) (k, v) m

    go : (t : Bool) → test k ≡ t → lookup k kept ≡ cond t (lookup k m) None
    go true e = lookup-members k kept m rises r (λ v. (λ i. ((has v).0 i).0, λ i. (has v).1 (i, e)))
    go false e = (lookup-none k kept rises).1 (λ v i. false≢true (sym e ∙ ((has v).0 i).1))

pub beginning-iff : (q : Key) (m : Map) (e : Entry) → In e (beginning q m) ↔ (In e m × PrefixOf q e.0)
unfolding beginning
beginning-iff q m e = keep-iff (λ (d : Entry). begins_with q d.0) e m

pub nonempty-beginning : (q : Key) (m : Map) → (nonempty (beginning q m) ≡ true) ↔ SomeBegins q m
unfolding beginning
nonempty-beginning q m = nonempty-keep (λ (e : Entry). begins_with q e.0) m

pub beginning-rising : (q : Key) (m : Map) → Rising m → Rising (beginning q m)
unfolding beginning
beginning-rising q m r = keep-rising (λ (d : Entry). begins_with q d.0) m r

pub lookup-beginning : (q : Key) (m : Map) → Rising m → (k : Key) → lookup k (beginning q m) ≡ cond (begins_with q k) (lookup k m) None
unfolding beginning
lookup-beginning q m r k = lookup-keep (begins_with q) m r k

pub longer-iff : (q : Key) (m : Map) (e : Entry) → In e (longer q m) ↔ (In e m × PrefixOf q e.0 × (length q < length e.0))
unfolding longer
longer-iff q m e = (
  λ h.
      let (i, t) = (keep-iff (λ (d : Entry). extends q d.0) e m).0 h in
      let (p, l) = (extends-iff q e.0).0 t in
      (i, p, l),
  λ h. (keep-iff (λ (d : Entry). extends q d.0) e m).1 (h.0, (extends-iff q e.0).1 (h.1, h.2)),
)

pub longer-rising : (q : Key) (m : Map) → Rising m → Rising (longer q m)
unfolding longer
longer-rising q m r = keep-rising (λ (d : Entry). extends q d.0) m r

pub lookup-longer : (q : Key) (m : Map) → Rising m → (k : Key) → lookup k (longer q m) ≡ cond (extends q k) (lookup k m) None
unfolding longer
lookup-longer q m r k = lookup-keep (extends q) m r k

-- the postfix listing has what the predictive one has, but for the query itself
pub longer-beginning : (q : Key) (m : Map) (e : Entry) → In e (longer q m) ↔ (In e (beginning q m) × (¬ (e.0 ≡ q)))
longer-beginning q m e = (
  λ h. let (i, p, l) = (longer-iff q m e).0 h in ((beginning-iff q m e).1 (i, p), (prefix-proper q e.0 p).0 l),
  λ h. let (i, p) = (beginning-iff q m e).0 h.0 in (longer-iff q m e).1 (i, p, (prefix-proper q e.0 p).1 h.1),
)

-- as lists: the query's own entry comes first in the predictive listing, if it is there, and then the postfix listing
pub beginning-present : (q : Key) (v : ℕ) (m : Map) → Rising m → lookup q m ≡ Some v → beginning q m ≡ (q, v) ∷ longer q m
beginning-present q v m r h = map-members _ _ (beginning-rising q m r) rises (λ e. (from e (dec_key e.0 q), to e))
  where
    own : In (q, v) (beginning q m)
    own = (beginning-iff q m (q, v)).1 ((lookup-iff q v m r).0 h, prefix_refl q)

    rises : Rising ((q, v) ∷ longer q m)
    rises =
        (rising-iff ((q, v) ∷ longer q m)).1
        (λ e i. let (j, p, l) = (longer-iff q m e).0 i in prefix-below q e.0 p l, (rising-iff (longer q m)).0 (longer-rising q m r))

    from : (e : Entry) → Dec (e.0 ≡ q) → In e (beginning q m) → In e ((q, v) ∷ longer q m)
    from e (yes s) i = here (entry-one (beginning q m) (beginning-rising q m r) e (q, v) i own s)
    from e (no n) i = there ((longer-beginning q m e).1 (i, n))

    to : (e : Entry) → In e ((q, v) ∷ longer q m) → In e (beginning q m)
    to e i = ⊎_elim (λ s. Memᴰ.cast s own) (λ j. ((longer-beginning q m e).0 j).0) (Memᴰ.cases_cons i)

pub beginning-absent : (q : Key) (m : Map) → Rising m → lookup q m ≡ None → beginning q m ≡ longer q m
beginning-absent q m r h =
    map-members _ _ (beginning-rising q m r) (longer-rising q m r)
    (λ e. (λ i. (longer-beginning q m e).1 (i, away e ((beginning-iff q m e).0 i).0), λ i. ((longer-beginning q m e).0 i).0))
  where
    away : (e : Entry) → In e m → ¬ (e.0 ≡ q)
    away e i s = (lookup-none q m r).0 h e.1 (rw s at i)

pub is_prefix_in-iff : (q : Key) (m : Map) → (is_prefix_in q m ≡ true) ↔ ((e : Entry) × In e m × PrefixOf q e.0 × (length q < length e.0))
unfolding is_prefix_in longer
is_prefix_in-iff q m =
    let some-longer : (is_prefix_in q m ≡ true) ↔ ((e : Entry) × In e m × (extends q e.0 ≡ true)) = nonempty-keep (λ (e : Entry). extends q e.0) m in (
      λ h. let (e, i, t) = some-longer.0 h in let (p, l) = (extends-iff q e.0).0 t in (e, i, p, l),
      λ h. some-longer.1 (h.0, h.1, (extends-iff q h.0.0).1 (h.2, h.3)),
    )

-- the prefixes of the common one are those that all keys have
pub common_of_all-iff : (e : Entry) (m : Map) (p : Key) → PrefixOf p (common_of_all (e ∷ m)) ↔ ((d : Entry) → In d (e ∷ m) → PrefixOf p d.0)
unfolding common_of_all
common_of_all-iff e [] p = (λ h d i. rw (Memᴰ.eq_of_singleton i) h, λ h. h e (here refl))
common_of_all-iff e (c ∷ m) p = go (common_of_all-iff c m p)
  where
    split : PrefixOf p (common_of_all (e ∷ c ∷ m)) ↔ (PrefixOf p e.0 × PrefixOf p (common_of_all (c ∷ m)))
    split = common_prefix-iff p e.0 (common_of_all (c ∷ m))

    go : PrefixOf p (common_of_all (c ∷ m)) ↔ ((d : Entry) → In d (c ∷ m) → PrefixOf p d.0)
        → PrefixOf p (common_of_all (e ∷ c ∷ m)) ↔ ((d : Entry) → In d (e ∷ c ∷ m) → PrefixOf p d.0)
    go ih = (
      λ h d i. ⊎_elim (λ s. rw s (split.0 h).0) (λ j. ih.0 (split.0 h).1 d j) (Memᴰ.cases_cons i),
      λ h. split.1 (h e (here refl), ih.1 (λ d j. h d (there j))),
    )

pub common_of_all-longest : (m : Map) (e : Entry) → In e m → LongestCommon m (common_of_all m)
common_of_all-longest [] e i = absurd (Memᴰ.not-nil i)
common_of_all-longest (d ∷ m) e i =
    record {
      common = (common_of_all-iff d m (common_of_all (d ∷ m))).0 (prefix_refl (common_of_all (d ∷ m)));
      longest = λ r h. prefix-length r (common_of_all (d ∷ m)) ((common_of_all-iff d m r).1 h);
    }

-- what all keys of a map begin with, its longest common prefix begins with
pub longest_common-begins : (m : Map) (p r : Key) (e : Entry) → In e m → LongestCommon m p → ((d : Entry) → In d m → PrefixOf r d.0) → PrefixOf r p
longest_common-begins m p r e i c h = prefix-chain r p e.0 (h e i) (c.common e i) (c.longest r h)

-- a map with an entry has one longest common prefix
pub longest_common-one : (m : Map) (p r : Key) (e : Entry) → In e m → LongestCommon m p → LongestCommon m r → p ≡ r
longest_common-one m p r e i c d = prefix-whole p r (longest_common-begins m r p e i d c.common) (c.longest r d.common)

unless_empty-some : (k p : Key) → (unless_empty k ≡ Some p) ↔ ((k ≡ p) × (¬ (p ≡ [])))
unless_empty-some [] p = (λ h. absurd (none-some p h), λ h. absurd (h.1 (sym h.0)))
unless_empty-some (a ∷ k) p =
    let same : Some (a ∷ k) ≡ Some p → a ∷ k ≡ p = same_Some (a ∷ k) p in
    (λ h. (same h, λ s. cons-ne-nil a k (same h ∙ s)), λ h. ap Some h.0)

unless_empty-none : (k : Key) → (unless_empty k ≡ None) ↔ (k ≡ [])
unless_empty-none [] = (λ h. refl, λ h. refl)
unless_empty-none (a ∷ k) = (λ h. absurd (none-some (a ∷ k) (sym h)), λ h. absurd (cons-ne-nil a k h))

-- some key begins with q, all that do have p in common and nothing longer, and p is not empty
pub longest_prefix_in-some :
    (q : Key) (m : Map) (p : Key) → (longest_prefix_in q m ≡ Some p) ↔ (SomeBegins q m × LongestCommon (beginning q m) p × (¬ (p ≡ [])))
unfolding longest_prefix_in common_of_all
longest_prefix_in-some q m p = (
  λ h. let (s, n) = (unless_empty-some _ p).0 h in from (beginning q m) refl s n,
  λ h.
      let ((e, i, b), c, n) = h in
      let j : In e (beginning q m) = (beginning-iff q m e).1 (i, b) in
      (unless_empty-some _ p).1 (longest_common-one (beginning q m) _ p e j (common_of_all-longest _ e j) c, n),
)
  where
    from : (n : Map) → beginning q m ≡ n → common_of_all n ≡ p → ¬ (p ≡ []) → SomeBegins q m × LongestCommon n p × (¬ (p ≡ []))
    from [] b s u = absurd (u (sym s))
    from (e ∷ n) b s u =
        let (i, f) = (beginning-iff q m e).0 (rw b (here refl)) in
        ((e, i, f), rw s at (common_of_all-longest (e ∷ n) e (here refl)), u)

pub longest_prefix_in-none :
    (q : Key) (m : Map) → (longest_prefix_in q m ≡ None) ↔ ((¬ SomeBegins q m) ⊎ LongestCommon (beginning q m) [])
unfolding longest_prefix_in common_of_all
longest_prefix_in-none q m = (λ h. from (beginning q m) refl ((unless_empty-none _).0 h), λ h. (unless_empty-none _).1 (to (beginning q m) refl h))
  where
    from : (n : Map) → beginning q m ≡ n → common_of_all n ≡ [] → (¬ SomeBegins q m) ⊎ LongestCommon n []
    from [] b s = inl (λ h. Memᴰ.not-nil (rw b at ((beginning-iff q m h.0).1 (h.1, h.2))))
    from (e ∷ n) b s = inr (rw s at (common_of_all-longest (e ∷ n) e (here refl)))

    to : (n : Map) → beginning q m ≡ n → (¬ SomeBegins q m) ⊎ LongestCommon n [] → common_of_all n ≡ []
    to [] b h = refl
    to (e ∷ n) b (inl h) = let (i, f) = (beginning-iff q m e).0 (rw b (here refl)) in absurd (h (e, i, f))
    to (e ∷ n) b (inr c) = longest_common-one (e ∷ n) _ [] e (here refl) (common_of_all-longest (e ∷ n) e (here refl)) c

-- no entry that passes a test stands below e, which does
abbrev First : (Entry → Bool) → Map → Entry → Type 0
First test m e = In e m × (test e ≡ true) × ((d : Entry) → In d m → test d ≡ true → ¬ Below d.0 e.0)

first_one : (test : Entry → Bool) (m : Map) → Rising m → (d e : Entry) → First test m d → First test m e → d ≡ e
first_one test m r d e (j, u, g) (i, t, h) = go (key_order d.0 e.0)
  where
    go : KeyOrder d.0 e.0 → d ≡ e
    go (KeyOrder.below p q) = absurd (h d j u p)
    go (KeyOrder.same p q) = entry-one m r d e j i p
    go (KeyOrder.above p q) = absurd (g e i t q)

first_some : (test : Entry → Bool) (m : Map) → Rising m → (e : Entry) → (head_of (keep test m) ≡ Some e) ↔ First test m e
first_some test m r e = (from e, λ h. to h (head_of (keep test m)) refl)
  where
    kept : Ordered Under (keep test m)
    kept = (rising-iff (keep test m)).0 (keep-rising test m r)

    from : (c : Entry) → head_of (keep test m) ≡ Some c → First test m c
    from c h =
        let (i, t) = (keep-iff test c m).0 (head_in (keep test m) h) in (
          i,
          t,
          λ d j s b.
              ⊎_elim (λ u. below_irrefl c.0 (rw u at b)) (λ g. below-asym c.0 d.0 g b)
              (head-before Under (keep test m) kept h d ((keep-iff test d m).1 (j, s))),
        )

    to : First test m e → (o : Option Entry) → head_of (keep test m) ≡ o → head_of (keep test m) ≡ Some e
    to f None s = absurd ((keep-none test m).0 (head-none (keep test m) s) e f.0 f.1)
    to f (Some d) s = s ∙ ap Some (first_one test m r d e (from d s) f)

first-none : (test : Entry → Bool) (m : Map) → (head_of (keep test m) ≡ None) ↔ ((e : Entry) → In e m → ¬ (test e ≡ true))
first-none test m = (λ h. (keep-none test m).0 (head-none _ h), λ h. ap head_of ((keep-none test m).1 h))

fits_iff : (q : Key) (seen : ℕ) (k : Key) → ((begins_with k q && ltb seen (length k)) ≡ true) ↔ (PrefixOf k q × (seen < length k))
fits_iff q seen k =
    let both : ((begins_with k q && ltb seen (length k)) ≡ true) ↔ (PrefixOf k q × (ltb seen (length k) ≡ true)) = both_true (begins_with k q) (ltb seen (length k)) in
    (λ h. ((both.0 h).0, ltb-true _ _ (both.0 h).1), λ h. both.1 (h.0, lt-ltb _ _ h.1))

pub common_prefix_in-some : (q : Key) (seen : ℕ) (m : Map) → Rising m → (e : Entry) → (common_prefix_in q seen m ≡ Some e) ↔ ShortestWithin q seen m e
unfolding common_prefix_in
common_prefix_in-some q seen m r e = (λ h. from (first.0 h), λ h. first.1 (to h))
  where
    test : Entry → Bool
    test d = begins_with d.0 q && ltb seen (length d.0)

    first : (common_prefix_in q seen m ≡ Some e) ↔ First test m e
    first = first_some test m r e

    from : First test m e → ShortestWithin q seen m e
    from (i, t, h) =
        let (w, b) = (fits_iff q seen e.0).0 t in
        record {
          entry = i;
          within = w;
          beyond = b;
          shortest = λ d j v l. let n : ¬ (length d.0 < length e.0) = λ g. h d j ((fits_iff q seen d.0).1 (v, l)) ((prefix-rises d.0 e.0 q v w).1 g) in omega arith;
        }

    to : ShortestWithin q seen m e → First test m e
    to c = (
      c.entry,
      (fits_iff q seen e.0).1 (c.within, c.beyond),
      λ d j t b.
          let (v, l) = (fits_iff q seen d.0).0 t in
          omega (arith, c.shortest d j v l, (prefix-rises d.0 e.0 q v c.within).0 b),
    )

pub common_prefix_in-none : (q : Key) (seen : ℕ) (m : Map) → (common_prefix_in q seen m ≡ None) ↔ ((e : Entry) → In e m → PrefixOf e.0 q → ¬ (seen < length e.0))
unfolding common_prefix_in
common_prefix_in-none q seen m =
    let first : (common_prefix_in q seen m ≡ None) ↔ ((e : Entry) → In e m → ¬ ((begins_with e.0 q && ltb seen (length e.0)) ≡ true)) =
    first-none (λ (e : Entry). begins_with e.0 q && ltb seen (length e.0)) m in
    (λ h e i w l. first.0 h e i ((fits_iff q seen e.0).1 (w, l)), λ h. first.1 (λ e i t. let (w, l) = (fits_iff q seen e.0).0 t in h e i w l))

-- what is answered is a prefix of the query
pub common_prefix_in-within : (q : Key) (seen : ℕ) (m : Map) (e : Entry) → common_prefix_in q seen m ≡ Some e → PrefixOf e.0 q
unfolding common_prefix_in
common_prefix_in-within q seen m e h = ((fits_iff q seen e.0).0 ((keep-iff (λ (d : Entry). begins_with d.0 q && ltb seen (length d.0)) e m).0 (head_in _ h)).1).0

-- nothing that is longer than the query is a prefix of it
pub common_prefix_in-past : (q : Key) (seen : ℕ) (m : Map) → length q ≤ seen → common_prefix_in q seen m ≡ None
common_prefix_in-past q seen m h = (common_prefix_in-none q seen m).1 (λ e i w l. omega (arith, prefix-length e.0 q w))

pub above-iff : (k x : Key) → (is_below k x ≡ true) ↔ Below k x
above-iff k x = go (compare_keys k x) refl
  where
    go : (o : Ordering) → compare_keys k x ≡ o → (pick o true false false ≡ true) ↔ Below k x
    go Ordering.lt e = (λ h. e, λ h. refl)
    go Ordering.eq e = (λ h. absurd (false≢true h), λ h. cc)
    go Ordering.gt e = (λ h. absurd (false≢true h), λ h. cc)

pub least_above-some : (k : Key) (m : Map) → Rising m → (e : Entry) → (least_above k m ≡ Some e) ↔ NextAfter k m e
unfolding least_above
least_above-some k m r e =
    let first : (least_above k m ≡ Some e) ↔ First test m e = first_some test m r e in (
      λ h.
          let (i, t, g) = first.0 h in
          record { entry = i; above = (above-iff k e.0).0 t; least = λ d j b. g d j ((above-iff k d.0).1 b) },
      λ h. first.1 (h.entry, (above-iff k e.0).1 h.above, λ d j t. h.least d j ((above-iff k d.0).0 t)),
    )
  where
    test : Entry → Bool
    test d = is_below k d.0

pub least_above-none : (k : Key) (m : Map) → (least_above k m ≡ None) ↔ ((e : Entry) → In e m → ¬ Below k e.0)
unfolding least_above
least_above-none k m =
    let first : (least_above k m ≡ None) ↔ ((e : Entry) → In e m → ¬ (is_below k e.0 ≡ true)) =
    first-none (λ (e : Entry). is_below k e.0) m in
    (λ h e i b. first.0 h e i ((above-iff k e.0).1 b), λ h. first.1 (λ e i t. h e i ((above-iff k e.0).0 t)))

-- what stands above an entry stands behind it
above-behind : (xs : Map) (e : Entry) (ys : Map) → Rising (xs ++ (e ∷ ys)) → (c : Entry) → In c (xs ++ (e ∷ ys)) → Below e.0 c.0 → In c ys
above-behind xs e ys r c i b = go (Memᴰ.append_cases xs i)
  where
    go : In c xs ⊎ In c (e ∷ ys) → In c ys
    go (inl j) = absurd (below-asym e.0 c.0 b (((ordered-append Under xs (e ∷ ys)).0 ((rising-iff (xs ++ (e ∷ ys))).0 r)).2 c e j (here refl)))
    go (inr j) = ⊎_elim (λ s. absurd (below_irrefl e.0 (rw s at b))) (λ h. h) (Memᴰ.cases_cons j)

-- from the head on each step gives the entry behind the last one given, and none behind the last
pub least_above-next : (xs : Map) (e : Entry) (ys : Map) → Rising (xs ++ (e ∷ ys)) → least_above e.0 (xs ++ (e ∷ ys)) ≡ head_of ys
least_above-next xs e [] r = (least_above-none e.0 (xs ++ (e ∷ []))).1 (λ c i b. Memᴰ.not-nil (above-behind xs e [] r c i b))
least_above-next xs e (d ∷ ys) r =
    (least_above-some e.0 (xs ++ (e ∷ d ∷ ys)) r d).1
    (record { entry = Memᴰ.append_right xs (there (here refl)); above = part.0 d (here refl); least = λ c i b g. least c g (above-behind xs e (d ∷ ys) r c i b) })
  where
    part : Ordered Under (e ∷ d ∷ ys)
    part = ((ordered-append Under xs (e ∷ d ∷ ys)).0 ((rising-iff (xs ++ (e ∷ d ∷ ys))).0 r)).1

    least : (c : Entry) → Below c.0 d.0 → ¬ In c (d ∷ ys)
    least c g i = ⊎_elim (λ s. below_irrefl d.0 (rw s at g)) (λ j. below-asym d.0 c.0 (part.1.0 c j) g) (Memᴰ.cases_cons i)
