-- Laws of the search among siblings: the search by cases, for the loop; then, along a chain with rising labels, it stops behind the last label below the one sought,
-- so a child with that label is what it finds.
--
--     slot-from-..            the search's cases: out of steps, at the chain's end, at the place, one step on
--     slot-from-prev          what the slot follows is where the search began, or one of the chain
--     slot-from-finds         a sibling with the label is found
--     placed-..               a chain with one record more, put in by label
--     child-here, ..          the cases of `child_at`
--     child-found             the child with a label is the one
--     child-is                what `child_at` gives is a child with that label
--     child-absent            where it gives none there is none
-- Assumes nothing.
use Prim.Native.Nat.{ℕ, zero, suc, ◌+◌, ◌-◌, ◌≤◌, ◌<◌}
use mathlib.Core.Path.{◌≡◌, refl, sym, ◌∙◌, ap, subst}
use mathlib.Core.Bool.{Bool, true, false, cond}
use mathlib.Core.List.{List, [], ◌∷◌}
use mathlib.Core.Logic.{◌⊎◌, inl, inr, ⊎_elim}
use native.Mathlib.Omega.{arith}
use native.Mathlib.Numerals.{sub-one}
use lib.ListN.{length}
use lib.Dec.{ltb, eqb}
use borrow.Author.Tests.{le-ltb, lt-ltb, eq-eqb, ne_eqb, eqb-true, eqb-false}
use Rattle.std.specs.Prelude.{None, Some}
use Rattle.records.specs.Words.{Pool, label, first_child, next_sibling, last_record, Node}
use Rattle.records.specs.Sound.{Among, Chain, LabelsRise, ChildChain}
use Rattle.records.specs.Spelling.{ChildBy}
use Rattle.records.proofs.Laws.Distinct.{Once, equal_or_not, below_or_not}
use Rattle.records.proofs.Laws.Sound.{chain_same, rises-same, rises-above, children-most}
use Rattle.pool.specs.declared.siblings.Slot.{Slot}
use Rattle.pool.specs.Siblings.{slot, slot_from, slot_of, child_at}

module _ (p : Pool) where
  pub slot-from-out : (f a x b : ℕ) → f ≤ 0 → slot_from p f a x b ≡ slot a x
  unfolding slot_from
  slot-from-out zero a x b h = refl
  slot-from-out (suc f) a x b h = absurd (omega arith)

  pub slot-from-end : (f a x b : ℕ) → x ≡ 0 → slot_from p f a x b ≡ slot a x
  unfolding slot_from
  slot-from-end zero a x b h = refl
  slot-from-end (suc f) a x b h = simp (eq-eqb _ _ h)

  pub slot-from-here : (f a x b : ℕ) → (x ≡ 0 → ⊥) → b ≤ label p x → slot_from p f a x b ≡ slot a x
  unfolding slot_from
  slot-from-here zero a x b n h = refl
  slot-from-here (suc f) a x b n h = simp (ne_eqb _ _ n, le-ltb _ _ h)

  pub slot-from-step : (f a x b : ℕ) → 0 < f → (x ≡ 0 → ⊥) → label p x < b → slot_from p f a x b ≡ slot_from p (f - 1) x (next_sibling p x) b
  unfolding slot_from
  slot-from-step zero a x b l n h = absurd (omega arith)
  slot-from-step (suc f) a x b l n h = simp (ne_eqb _ _ n, lt-ltb _ _ h, sub-one)

  pub slot-of-start : (i b : ℕ) → slot_of p i b ≡ slot_from p (last_record p) 0 (first_child p i) b
  unfolding slot_of
  slot-of-start i b = refl

-- ---- along a chain
-- x of the chain x ∷ xs from c on
chain_head : (f : ℕ → ℕ) (c x : ℕ) (xs : List ℕ) → Chain f c (x ∷ xs) → c ≡ 0 → ⊥
chain_head f c x xs h z = omega (arith, h.0, h.1)

pub slot-from-prev : (p : Pool) (b f a c : ℕ) (xs : List ℕ) → Chain (next_sibling p) c xs → ((slot_from p f a c b).prev ≡ a) ⊎ Among (slot_from p f a c b).prev xs
slot-from-prev p b f a c [] h = inl (ap (λ (s : Slot). s.prev) (slot-from-end p f a c b h))
slot-from-prev p b f a c (x ∷ xs) h =
    let nz = chain_head (next_sibling p) c x xs h in
    ⊎_elim (λ (z : f ≡ 0). inl (ap (λ (s : Slot). s.prev) (slot-from-out p f a c b (omega arith))))
    (λ nf.
    ⊎_elim
    (λ (lt : label p c < b).
    let s = ap (λ (s : Slot). s.prev) (slot-from-step p f a c b (omega (arith, nf)) nz lt) in
    ⊎_elim (λ (e : (slot_from p (f - 1) c (next_sibling p c) b).prev ≡ c). inr (inl (s ∙ e ∙ h.0)))
    (λ (m : Among (slot_from p (f - 1) c (next_sibling p c) b).prev xs). inr (inr (subst (λ (k : ℕ). Among k xs) (sym s) m)))
    (slot-from-prev p b (f - 1) c (next_sibling p c) xs (subst (λ (k : ℕ). Chain (next_sibling p) (next_sibling p k) xs) (sym h.0) h.2)))
    (λ (ge : b ≤ label p c). inl (ap (λ (s : Slot). s.prev) (slot-from-here p f a c b nz ge)))
    (below_or_not (label p c) b))
    (equal_or_not f 0)

slot-from-next : (p : Pool) (b f a c : ℕ) (xs : List ℕ) → Chain (next_sibling p) c xs → length xs ≤ f → ((slot_from p f a c b).next ≡ 0) ⊎ Among (slot_from p f a c b).next xs
slot-from-next p b f a c [] h l = inl (ap (λ (s : Slot). s.next) (slot-from-end p f a c b h) ∙ h)
slot-from-next p b f a c (x ∷ xs) h l =
    let nz = chain_head (next_sibling p) c x xs h in
    ⊎_elim
    (λ (lt : label p c < b).
    let s = ap (λ (s : Slot). s.next) (slot-from-step p f a c b (omega arith) nz lt) in
    ⊎_elim (λ (e : (slot_from p (f - 1) c (next_sibling p c) b).next ≡ 0). inl (s ∙ e))
    (λ (m : Among (slot_from p (f - 1) c (next_sibling p c) b).next xs). inr (inr (subst (λ (k : ℕ). Among k xs) (sym s) m)))
    (slot-from-next p b (f - 1) c (next_sibling p c) xs (subst (λ (k : ℕ). Chain (next_sibling p) (next_sibling p k) xs) (sym h.0) h.2) (omega arith)))
    (λ (ge : b ≤ label p c). inr (inl (ap (λ (s : Slot). s.next) (slot-from-here p f a c b nz ge) ∙ h.0)))
    (below_or_not (label p c) b)

slot-from-finds : (p : Pool) (b f a c l : ℕ) (xs : List ℕ) → Chain (next_sibling p) c xs → LabelsRise p l xs → length xs ≤ f → (k : ℕ) → Among k xs → label p k ≡ b
    → (slot_from p f a c b).next ≡ k
slot-from-finds p b f a c l [] h r n k m e = absurd m
slot-from-finds p b f a c l (x ∷ xs) h r n k (inl q) e =
    let z : c ≡ k = h.0 ∙ sym q in
    ap (λ (s : Slot). s.next) (slot-from-here p f a c b (chain_head (next_sibling p) c x xs h) (omega (arith, ap (λ (j : ℕ). label p j) z))) ∙ z
slot-from-finds p b f a c l (x ∷ xs) h r n k (inr q) e =
    let low : label p x + 1 ≤ label p k = rises-above p (label p x + 1) xs r.1 k q in
    let s = slot-from-step p f a c b (omega arith) (chain_head (next_sibling p) c x xs h) (omega (arith, ap (λ (j : ℕ). label p j) h.0)) in
    ap (λ (s : Slot). s.next) s
    ∙ slot-from-finds p b (f - 1) c (next_sibling p c) (label p x + 1) xs (subst (λ (j : ℕ). Chain (next_sibling p) (next_sibling p j) xs) (sym h.0) h.2) r.1 (omega arith) k q e

-- ---- a chain with one record more
-- m, whose label is b, put among the records by label
abbrev pub placed : Pool → (b m : ℕ) → List ℕ → List ℕ
placed p b m [] = m ∷ []
placed p b m (x ∷ xs) = cond (ltb (label p x) b) (x ∷ placed p b m xs) (m ∷ x ∷ xs)

pub in-placed : (p : Pool) (b m k : ℕ) (xs : List ℕ) → Among k (placed p b m xs) → (k ≡ m) ⊎ Among k xs
in-placed p b m k [] h = h
in-placed p b m k (x ∷ xs) h = go (ltb (label p x) b) (in-placed p b m k xs) h
  where
    go : (t : Bool) → (Among k (placed p b m xs) → (k ≡ m) ⊎ Among k xs) → Among k (cond t (x ∷ placed p b m xs) (m ∷ x ∷ xs)) → (k ≡ m) ⊎ ((k ≡ x) ⊎ Among k xs)
    go true ih (inl e) = inr (inl e)
    go true ih (inr q) = ⊎_elim (λ e. inl e) (λ r. inr (inr r)) (ih q)
    go false ih q = q

pub placed-in : (p : Pool) (b m k : ℕ) (xs : List ℕ) → (k ≡ m) ⊎ Among k xs → Among k (placed p b m xs)
placed-in p b m k [] h = h
placed-in p b m k (x ∷ xs) h = go (ltb (label p x) b) (placed-in p b m k xs) h
  where
    go : (t : Bool) → ((k ≡ m) ⊎ Among k xs → Among k (placed p b m xs)) → (k ≡ m) ⊎ ((k ≡ x) ⊎ Among k xs) → Among k (cond t (x ∷ placed p b m xs) (m ∷ x ∷ xs))
    go true ih (inl e) = inr (ih (inl e))
    go true ih (inr (inl e)) = inl e
    go true ih (inr (inr r)) = inr (ih (inr r))
    go false ih q = q

module _ (p q : Pool) (b m : ℕ) (lab : label q m ≡ b) where
  pub placed-rises : (l : ℕ) (xs : List ℕ) → LabelsRise p l xs → l ≤ b → ((k : ℕ) → Among k xs → label q k ≡ label p k) → ((k : ℕ) → Among k xs → label p k ≡ b → ⊥)
      → LabelsRise q l (placed p b m xs)
  placed-rises l [] h lb s ab = (omega arith, tt)
  placed-rises l (x ∷ xs) h lb s ab =
      let e : label q x ≡ label p x = s x (inl refl) in
      ⊎_elim
      (λ (lt : label p x < b).
      rw (lt-ltb _ _ lt) (omega (arith, h.0), rw e (placed-rises (label p x + 1) xs h.1 (omega arith) (λ k n. s k (inr n)) (λ k n. ab k (inr n)))))
      (λ (ge : b ≤ label p x).
      rw (le-ltb _ _ ge) (omega arith, (omega (arith, ab x (inl refl)), rw e (rises-same p q (label p x + 1) xs h.1 (λ k n. s k (inr n))))))
      (below_or_not (label p x) b)

  -- the chain from h on, where the search from a, before c, came out at `out`
  pub placed-chain : (f a c : ℕ) (xs : List ℕ) (out : Slot) → out ≡ slot_from p f a c b → Chain (next_sibling p) c xs → length xs ≤ f → Once xs → (Among a xs → ⊥) → 0 < m
      → next_sibling q m ≡ out.next
      → ((k : ℕ) → Among k xs → (k ≡ out.prev → ⊥) → next_sibling q k ≡ next_sibling p k)
      → ((k : ℕ) → Among k xs → k ≡ out.prev → next_sibling q k ≡ m)
      → (h : ℕ) → (out.prev ≡ a → h ≡ m) → ((out.prev ≡ a → ⊥) → h ≡ c)
      → Chain (next_sibling q) h (placed p b m xs)
  placed-chain f a c [] out e l fl nd na mz nm sm lk h h1 h2 =
      let o = e ∙ slot-from-end p f a c b l in
      (h1 (ap (λ (s : Slot). s.prev) o), mz, nm ∙ ap (λ (s : Slot). s.next) o ∙ l)
  placed-chain f a c (x ∷ xs) out e l fl nd na mz nm sm lk h h1 h2 =
      let nz : c ≡ 0 → ⊥ = λ z. omega (arith, l.0, l.1) in
      let cx : c ≡ x = l.0 in
      ⊎_elim
      (λ (lt : label p x < b).
      let lc : label p c < b = subst (λ (k : ℕ). label p k < b) (sym cx) lt in
      let o : out ≡ slot_from p (f - 1) c (next_sibling p c) b = e ∙ slot-from-step p f a c b (omega arith) nz lc in
      let on : out ≡ slot_from p (f - 1) x (next_sibling p x) b = subst (λ (k : ℕ). out ≡ slot_from p (f - 1) k (next_sibling p k) b) cx o in
      let there : (out.prev ≡ x) ⊎ Among out.prev xs = subst (λ (s : Slot). (s.prev ≡ x) ⊎ Among s.prev xs) (sym on) (slot-from-prev p b (f - 1) x (next_sibling p x) xs l.2) in
      let far : out.prev ≡ a → ⊥ = λ z. na (subst (λ (k : ℕ). (k ≡ x) ⊎ Among k xs) z there) in
      let rest : Chain (next_sibling q) (next_sibling q x) (placed p b m xs) =
      placed-chain (f - 1) x (next_sibling p x) xs out on l.2 (omega arith) nd.1 nd.0 mz nm (λ k n. sm k (inr n)) (λ k n. lk k (inr n)) (next_sibling q x) (λ z. lk x (inl refl) (sym z)) (λ z. sm x (inl refl) (λ y. z (sym y))) in
      rw (lt-ltb _ _ lt) (h2 far ∙ cx, l.1, rest))
      (λ (ge : b ≤ label p x).
      let gc : b ≤ label p c = subst (λ (k : ℕ). b ≤ label p k) (sym cx) ge in
      let o : out ≡ slot a c = e ∙ slot-from-here p f a c b nz gc in
      let pa : out.prev ≡ a = ap (λ (s : Slot). s.prev) o in
      let stays : (k : ℕ) → (k ≡ x) ⊎ Among k xs → next_sibling q k ≡ next_sibling p k = λ k n. sm k n (λ z. na (subst (λ (j : ℕ). (j ≡ x) ⊎ Among j xs) (z ∙ pa) n)) in
      let back : Chain (next_sibling q) c (x ∷ xs) = chain_same (next_sibling p) (next_sibling q) c (x ∷ xs) l stays in
      rw (le-ltb _ _ ge) (h1 pa, mz, subst (λ (j : ℕ). Chain (next_sibling q) j (x ∷ xs)) (sym (nm ∙ ap (λ (s : Slot). s.next) o)) back))
      (below_or_not (label p x) b)

-- ---- the child with a label
module _ (p : Pool) (i b : ℕ) (s : Slot) (e : s ≡ slot_of p i b) where
  pub child-here : (s.next ≡ 0 → ⊥) → label p s.next ≡ b → Some s.next ≡ child_at p i b
  unfolding child_at
  child-here n h = rw (← e) (simp (ne_eqb _ _ n, eq-eqb _ _ h))

  pub child-end : s.next ≡ 0 → None ≡ child_at p i b
  unfolding child_at
  child-end h = rw (← e) (simp (eq-eqb _ _ h))

  pub child-none : (s.next ≡ 0 → ⊥) → (label p s.next ≡ b → ⊥) → None ≡ child_at p i b
  unfolding child_at
  child-none n h = rw (← e) (simp (ne_eqb _ _ n, ne_eqb _ _ h))

module _ (p : Pool) (i b : ℕ) (K : ChildChain p i) where
  pub slot-prev-child : ((slot_of p i b).prev ≡ 0) ⊎ Among (slot_of p i b).prev K.kids
  unfolding slot_of
  slot-prev-child = slot-from-prev p b (last_record p) 0 (first_child p i) K.kids K.chain

  slot-next-child : ((slot_of p i b).next ≡ 0) ⊎ Among (slot_of p i b).next K.kids
  unfolding slot_of
  slot-next-child = slot-from-next p b (last_record p) 0 (first_child p i) K.kids K.chain (children-most p i K)

  pub slot-prev-node : Node p (slot_of p i b).prev
  slot-prev-node = ⊎_elim (λ z. inl z) (λ h. inr (K.only (slot_of p i b).prev h).0) slot-prev-child

  pub slot-next-node : Node p (slot_of p i b).next
  slot-next-node = ⊎_elim (λ z. inl z) (λ h. inr (K.only (slot_of p i b).next h).0) slot-next-child

  pub child-found : (k : ℕ) → ChildBy p i b k → child_at p i b ≡ Some k
  unfolding slot_of
  child-found k d =
      let f : (slot_of p i b).next ≡ k =
      slot-from-finds p b (last_record p) 0 (first_child p i) 0 K.kids K.chain K.rising (children-most p i K) k (K.all k d.0 d.1) d.2 in
      sym (child-here p i b (slot_of p i b) refl (λ z. omega (arith, d.0.0)) (ap (λ (x : ℕ). label p x) f ∙ d.2)) ∙ ap Some f

  pub child-is : (c : ℕ) → child_at p i b ≡ Some c → ChildBy p i b c
  unfolding child_at
  child-is c h = go (eqb (slot_of p i b).next 0) (eqb (label p (slot_of p i b).next) b) refl refl h
    where
      stands : ((slot_of p i b).next ≡ 0 → ⊥) → Among (slot_of p i b).next K.kids
      stands n = ⊎_elim (λ (q : (slot_of p i b).next ≡ 0). absurd (n q)) (λ m. m) slot-next-child

      go : (t u : Bool) → eqb (slot_of p i b).next 0 ≡ t → eqb (label p (slot_of p i b).next) b ≡ u
          → cond t None (cond u (Some (slot_of p i b).next) None) ≡ Some c → ChildBy p i b c
      go true u r q z = absurd (cc)
      go false true r q z =
          let o = K.only (slot_of p i b).next (stands (eqb-false _ _ r)) in
          let is : (slot_of p i b).next ≡ c = cc in
          subst (ChildBy p i b) is (o.0, o.1, eqb-true _ _ q)
      go false false r q z = absurd (cc)

  -- no child has the label where the search gives none
  pub child-absent : child_at p i b ≡ None → (k : ℕ) → ChildBy p i b k → ⊥
  child-absent z k c = let f = child-found k c in absurd (cc)
