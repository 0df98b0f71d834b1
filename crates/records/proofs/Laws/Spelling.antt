-- Laws of what records spell. The way up from a record is unique, so a record is spelled by one path only; siblings have different labels, so a path spells one record only;
-- and the records on a way are distinct, so no path is longer than the records are many.
--
--     sound-climbs                  in a sound pool every record in use reaches the root through parents in use
--     spells-join, spells-cut       ways one behind the other
--     spells-one-path               a record is spelled by one path only
--     spells-one-record             a path spells one record only
--     spells-in-use                 a nonempty path spells a record in use
--     spells-most                   and has no more bytes than there are records
--     path-spells                   the path of a record spells it
--     path-only                     and is the only one
--     child-or-not, spelled-or-not  whether there is such a child, such a record
-- Assumes nothing.
use Prim.Native.Nat.{ℕ, zero, suc, ◌+◌, ◌≤◌, ◌<◌}
use mathlib.Core.Path.{◌≡◌, refl, sym, ◌∙◌, ap, subst}
use mathlib.Core.List.{List, [], ◌∷◌, ◌++◌, reverse, reverse_aux, reverse-reverse}
use mathlib.Core.Logic.{◌⊎◌, inl, inr, ⊎_elim}
use native.Mathlib.Omega.{arith}
use lib.ListN.{length}
use borrow.Author.Tests.{eq-eqb, ne_eqb}
use Rattle.keymap.specs.Key.{Key}
use Rattle.records.specs.Words.{Pool, label, parent, last_record, InUse, Node}
use Rattle.records.specs.Sound.{Among, Chain, LabelsRise, ChildChain, Sound}
use Rattle.records.specs.Spelling.{ChildBy, Spells, path_up, record_path, Climbs}
use Rattle.records.proofs.Laws.Distinct.{equal_or_not, once-at-most}
use Rattle.records.proofs.Laws.Sound.{chain-distinct, rises-above, parent-in-use}

-- ---- the way up: it ends since "the parent's number is below its own"
climbs-from : (p : Pool) → Sound p → (m c : ℕ) → c < m → Node p c → Climbs p c
climbs-from p s zero c h n = absurd (omega arith)
climbs-from p s (suc m) c h (inl e) = record { up = []; chain = e; used = λ x i. absurd i }
climbs-from p s (suc m) c h (inr u) =
    let low = (s.fits c u).parent-below in
    let above = climbs-from p s m (parent p c) (omega arith) (parent-in-use p s c u) in
    record { up = c ∷ above.up; chain = (refl, u.0, above.chain); used = λ x i. ⊎_elim (λ (e : x ≡ c). subst (InUse p) (sym e) u) (λ j. above.used x j) i }

pub sound-climbs : (p : Pool) → Sound p → (c : ℕ) → Node p c → Climbs p c
sound-climbs p s c n = climbs-from p s (suc c) c (omega arith) n

-- ---- ways one behind the other
module _ (p : Pool) where
  pub spells-join : (i : ℕ) (xs ys : Key) (j k : ℕ) → Spells p i xs j → Spells p j ys k → Spells p i (xs ++ ys) k
  spells-join i [] ys j k a b = rw a b
  spells-join i (x ∷ xs) ys j k a b = (a.0, a.1, spells-join a.0 xs ys j k a.2 b)

  pub spells-cut : (i : ℕ) (xs ys : Key) (k : ℕ) → Spells p i (xs ++ ys) k → (j : ℕ) × Spells p i xs j × Spells p j ys k
  spells-cut i [] ys k s = (i, refl, s)
  spells-cut i (x ∷ xs) ys k s = let r = spells-cut s.0 xs ys k s.2 in (r.0, (s.0, s.1, r.1), r.2)

  pub spells-child : (i : ℕ) (xs : Key) (j b x : ℕ) → Spells p i xs j → ChildBy p j b x → Spells p i (xs ++ (b ∷ [])) x
  spells-child i xs j b x s c = spells-join i xs (b ∷ []) j x s (x, c, refl)

  pub spells-node : (i : ℕ) (xs : Key) (j : ℕ) → Node p i → Spells p i xs j → Node p j
  spells-node i [] j n s = subst (Node p) s n
  spells-node i (x ∷ xs) j n s = spells-node s.0 xs j (inr s.1.0) s.2

  pub spells-in-use : (i : ℕ) (xs : Key) (j : ℕ) → (0 < i) ⊎ (0 < length xs) → Node p i → Spells p i xs j → InUse p j
  spells-in-use i [] j (inl h) n s = ⊎_elim (λ (e : i ≡ 0). absurd (omega arith)) (λ u. subst (InUse p) s u) n
  spells-in-use i [] j (inr h) n s = absurd (omega arith)
  spells-in-use i (x ∷ xs) j h n s = spells-in-use s.0 xs j (inl s.1.0.0) (inr s.1.0) s.2

  -- ---- one path: the way up spells it backwards
  abbrev Climbing : ℕ → Key → Type 0
  Climbing k [] = k ≡ 0
  Climbing k (b ∷ bs) = (0 < k) × (label p k ≡ b) × Climbing (parent p k) bs

  climbing-one : (k : ℕ) (xs ys : Key) → Climbing k xs → Climbing k ys → xs ≡ ys
  climbing-one k [] [] a b = refl
  climbing-one k [] (y ∷ ys) a b = absurd (omega (arith, b.0))
  climbing-one k (x ∷ xs) [] a b = absurd (omega (arith, a.0))
  climbing-one k (x ∷ xs) (y ∷ ys) a b = let r = climbing-one (parent p k) xs ys a.2 b.2 in let z : x ≡ y = sym a.1 ∙ b.1 in cc

  spells-climbing : (j : ℕ) (bs above : Key) (k : ℕ) → Spells p j bs k → Climbing j above → Climbing k (reverse_aux bs above)
  spells-climbing j [] above k s c = rw (← s) c
  spells-climbing j (b ∷ bs) above k s c =
      let d = s.1 in spells-climbing s.0 bs (b ∷ above) k s.2 (d.0.0, d.2, rw d.1 c)

  pub spells-one-path : (xs ys : Key) (k : ℕ) → Spells p 0 xs k → Spells p 0 ys k → xs ≡ ys
  spells-one-path xs ys k a b =
      let z = climbing-one k (reverse xs) (reverse ys) (spells-climbing 0 xs [] k a refl) (spells-climbing 0 ys [] k b refl) in
      sym (reverse-reverse xs) ∙ ap reverse z ∙ reverse-reverse ys

  -- ---- as long as the records are many
  record Up (k n : ℕ) : Type 0 where
    up : List ℕ
    chain : Chain (parent p) k up
    used : (x : ℕ) → Among x up → InUse p x
    count : length up ≡ n

  spells-up : (j : ℕ) (bs : Key) (k n : ℕ) → Spells p j bs k → Up j n → Up k (length bs + n)
  spells-up j [] k n s u = rw (← s) (record { up = u.up; chain = u.chain; used = u.used; count = omega (arith, u.count) })
  spells-up j (b ∷ bs) k n s u =
      let d = s.1 in
      let r = spells-up s.0 bs k (suc n) s.2
      (record {
        up = s.0 ∷ u.up;
        chain = (refl, d.0.0, rw d.1 u.chain);
        used = λ x i. ⊎_elim (λ (e : x ≡ s.0). subst (InUse p) (sym e) d.0) (λ m. u.used x m) i;
        count = omega (arith, u.count);
      }) in
      record { up = r.up; chain = r.chain; used = r.used; count = omega (arith, r.count) }

  pub spells-most : (bs : Key) (k : ℕ) → Spells p 0 bs k → length bs ≤ last_record p
  spells-most bs k s =
      let u = spells-up 0 bs k 0 s (record { up = []; chain = refl; used = λ x i. absurd i; count = refl }) in
      omega (arith, u.count, once-at-most (last_record p) u.up (chain-distinct (parent p) k u.up u.chain) u.used)

  -- ---- the path of a record
  path-up-spells : (up : List ℕ) (f c : ℕ) → Chain (parent p) c up → ((x : ℕ) → Among x up → InUse p x) → length up ≤ f → Spells p 0 (path_up f p c) c
  unfolding path_up
  path-up-spells [] zero c h u l = sym h
  path-up-spells [] (suc f) c h u l = rw (eq-eqb c 0 h) (sym h)
  path-up-spells (x ∷ xs) zero c h u l = absurd (omega arith)
  path-up-spells (x ∷ xs) (suc f) c h u l =
      let used : InUse p c = subst (InUse p) (sym h.0) (u x (inl refl)) in
      let above : Spells p 0 (path_up f p (parent p c)) (parent p c) =
      path-up-spells xs f (parent p c) (subst (λ (k : ℕ). Chain (parent p) (parent p k) xs) (sym h.0) h.2) (λ y i. u y (inr i)) (omega arith) in
      rw (ne_eqb c 0 (λ e. omega (arith, used.0))) (spells-child 0 (path_up f p (parent p c)) (parent p c) (label p c) c above (used, refl, refl))

  module _ (s : Sound p) where
    pub path-spells : (c : ℕ) → Node p c → Spells p 0 (record_path p c) c
    unfolding record_path
    path-spells c n =
        let w = sound-climbs p s c n in
        path-up-spells w.up (last_record p) c w.chain w.used (once-at-most (last_record p) w.up (chain-distinct (parent p) c w.up w.chain) w.used)

    pub path-only : (c : ℕ) (k : Key) → Node p c → Spells p 0 k c → k ≡ record_path p c
    path-only c k n h = spells-one-path k (record_path p c) c h (path-spells c n)

-- ---- one record
label-one : (p : Pool) (l : ℕ) (xs : List ℕ) → LabelsRise p l xs → (x y : ℕ) → Among x xs → Among y xs → label p x ≡ label p y → x ≡ y
label-one p l [] r x y i j e = absurd i
label-one p l (z ∷ zs) r x y (inl i) (inl j) e = i ∙ sym j
label-one p l (z ∷ zs) r x y (inl i) (inr j) e = absurd (omega (arith, rises-above p (label p z + 1) zs r.1 y j, ap (λ (k : ℕ). label p k) i))
label-one p l (z ∷ zs) r x y (inr i) (inl j) e = absurd (omega (arith, rises-above p (label p z + 1) zs r.1 x i, ap (λ (k : ℕ). label p k) j))
label-one p l (z ∷ zs) r x y (inr i) (inr j) e = label-one p (label p z + 1) zs r.1 x y i j e

label-or-not : (p : Pool) (b : ℕ) (xs : List ℕ) → ((x : ℕ) × Among x xs × (label p x ≡ b)) ⊎ ((x : ℕ) → Among x xs → label p x ≡ b → ⊥)
label-or-not p b [] = inr (λ x i e. i)
label-or-not p b (x ∷ xs) =
    ⊎_elim (λ (e : label p x ≡ b). inl (x, inl refl, e))
    (λ (ne : label p x ≡ b → ⊥).
    ⊎_elim (λ r. inl (r.0, inr r.1, r.2)) (λ (n : (y : ℕ) → Among y xs → label p y ≡ b → ⊥). inr (λ y i e. ⊎_elim (λ (q : y ≡ x). ne (sym (ap (λ (k : ℕ). label p k) q) ∙ e)) (λ j. n y j e) i))
    (label-or-not p b xs))
    (equal_or_not (label p x) b)

module _ (p : Pool) (K : (c : ℕ) → Node p c → ChildChain p c) where
  pub child-one : (i b x y : ℕ) → Node p i → ChildBy p i b x → ChildBy p i b y → x ≡ y
  child-one i b x y n c d =
      let k = K i n in label-one p 0 k.kids k.rising x y (k.all x c.0 c.1) (k.all y d.0 d.1) (c.2 ∙ sym d.2)

  pub spells-one-record : (i : ℕ) (bs : Key) (c d : ℕ) → Node p i → Spells p i bs c → Spells p i bs d → c ≡ d
  spells-one-record i [] c d n s t = sym s ∙ t
  spells-one-record i (b ∷ bs) c d n s t =
      let e : t.0 ≡ s.0 = child-one i b t.0 s.0 n t.1 s.1 in
      spells-one-record s.0 bs c d (inr s.1.0) s.2 (subst (λ (k : ℕ). Spells p k bs d) e t.2)

  pub child-or-not : (i b : ℕ) → Node p i → ((x : ℕ) × ChildBy p i b x) ⊎ ((x : ℕ) → ChildBy p i b x → ⊥)
  child-or-not i b n =
      let k = K i n in
      ⊎_elim (λ r. let o = k.only r.0 r.1 in inl (r.0, (o.0, o.1, r.2)))
      (λ (h : (x : ℕ) → Among x k.kids → label p x ≡ b → ⊥). inr (λ x c. h x (k.all x c.0 c.1) c.2)) (label-or-not p b k.kids)

  pub spelled-or-not : (bs : Key) (i : ℕ) → Node p i → ((c : ℕ) × Spells p i bs c) ⊎ ((c : ℕ) → Spells p i bs c → ⊥)
  spelled-or-not [] i n = inl (i, refl)
  spelled-or-not (b ∷ bs) i n =
      ⊎_elim
      (λ r.
      ⊎_elim (λ t. inl (t.0, (r.0, r.1, t.1)))
      (λ (h : (c : ℕ) → Spells p r.0 bs c → ⊥). inr (λ c s. h c (subst (λ (k : ℕ). Spells p k bs c) (child-one i b s.0 r.0 n s.1 r.1) s.2)))
      (spelled-or-not bs r.0 (inr r.1.0)))
      (λ (h : (x : ℕ) → ChildBy p i b x → ⊥). inr (λ c s. h s.0 s.1))
      (child-or-not i b n)
