-- Prefixes of keys: to begin with q is to be q and something behind it, so the prefixes of one key are told apart by their lengths, and stand below it.
--
--     prefix-iff           a key begins with q exactly if it is q and a rest
--     prefix-leading       a key begins with each of its leading parts
--     prefix-take          and exactly if q is its leading part
--     bytes-prefix         the prefixes of a key of bytes are of bytes
--     prefix-chain         of two prefixes of one key the shorter is a prefix of the longer
--     prefix-rises         and stands below it exactly if it is shorter
--     prefix-below         a key stands below all others that begin with it
--     extends-iff          to extend q is to begin with it and to be longer; `extends-own`: no key extends itself
--     common_prefix-iff    the prefixes of the common prefix are those that both keys have
--     compare_keys-append  behind a common beginning the rests decide
--     prefix-between       what stands between two keys that begin with q begins with it
--
-- Assumes nothing.
use mathlib.Core.Path.{◌≡◌, refl, sym, ap, ◌∙◌}
use mathlib.Core.Logic.{◌↔◌, ◌⊎◌, inl, inr}
use mathlib.Core.Bool.{Bool, true, false, ◌&&◌}
use Prim.Native.Nat.{Ordering}
use Prim.Native.Nat.{ℕ, zero, suc, ◌≤◌, ◌<◌}
use native.Mathlib.Omega.{arith}
use mathlib.Core.List.{[], ◌∷◌, ◌++◌}
use lib.ListN.{length, take, drop, length-append, take-append-drop}
use lib.Dec.{eqb, ltb}
use lib.Seq.{take-append_seam}
use borrow.Author.Tests.{eqb-true, eqb-false, eq-eqb, ltb-true, lt-ltb}
use Rattle.keymap.specs.Key.{Key, Bytes, compare_keys, Below, begins_with, PrefixOf, extends, common_prefix}
use Rattle.keymap.proofs.Laws.Key.{Order, order, compare_refl, below_irrefl, below-asym}

pub prefix-empty : (k : Key) → PrefixOf [] k
unfolding begins_with
prefix-empty k = refl

pub prefix-nil : (a : ℕ) (q : Key) → ¬ PrefixOf (a ∷ q) []
unfolding begins_with
prefix-nil a q h = let z : ◌≡◌ {A = ℕ} 0 1 = cc in omega arith

pub prefix-cons : (a : ℕ) (q : Key) (b : ℕ) (k : Key) → PrefixOf (a ∷ q) (b ∷ k) ↔ ((a ≡ b) × PrefixOf q k)
unfolding begins_with
prefix-cons a q b k = (go (eqb a b) refl, λ h. rw (eq-eqb a b h.0) h.1)
  where
    go : (t : Bool) → eqb a b ≡ t → PrefixOf (a ∷ q) (b ∷ k) → (a ≡ b) × PrefixOf q k
    go true e h = (eqb-true a b e, rw e at h)
    go false e h = let c : false ≡ true = rw e at h in absurd (let z : ◌≡◌ {A = ℕ} 0 1 = cc in omega arith)

pub prefix-append : (q r : Key) → PrefixOf q (q ++ r)
prefix-append [] r = prefix-empty r
prefix-append (a ∷ q) r = (prefix-cons a q a (q ++ r)).1 (refl, prefix-append q r)

prefix-rest : (q k : Key) → PrefixOf q k → (r : Key) × (k ≡ q ++ r)
prefix-rest [] k h = (k, refl)
prefix-rest (a ∷ q) [] h = absurd (prefix-nil a q h)
prefix-rest (a ∷ q) (b ∷ k) h =
    let (e, p) = (prefix-cons a q b k).0 h in
    let (r, s) = prefix-rest q k p in
    (r, λ i. sym e i ∷ s i)

pub prefix-iff : (q k : Key) → PrefixOf q k ↔ ((r : Key) × (k ≡ q ++ r))
prefix-iff q k = (prefix-rest q k, λ h. rw h.1 (prefix-append q h.0))

pub prefix_refl : (k : Key) → PrefixOf k k
prefix_refl [] = prefix-empty []
prefix_refl (a ∷ k) = (prefix-cons a k a k).1 (refl, prefix_refl k)

pub prefix_trans : (p q k : Key) → PrefixOf p q → PrefixOf q k → PrefixOf p k
prefix_trans [] q k g h = prefix-empty k
prefix_trans (a ∷ p) [] k g h = absurd (prefix-nil a p g)
prefix_trans (a ∷ p) (b ∷ q) [] g h = absurd (prefix-nil b q h)
prefix_trans (a ∷ p) (b ∷ q) (c ∷ k) g h =
    let (e, u) = (prefix-cons a p b q).0 g in
    let (f, w) = (prefix-cons b q c k).0 h in
    (prefix-cons a p c k).1 (e ∙ f, prefix_trans p q k u w)

pub prefix-length : (q k : Key) → PrefixOf q k → length q ≤ length k
prefix-length q k h = let (r, e) = prefix-rest q k h in omega (arith, ap length e, length-append q r)

pub bytes-prefix : (q k : Key) → PrefixOf q k → Bytes k → Bytes q
bytes-prefix [] k h b = tt
bytes-prefix (a ∷ q) [] h b = absurd (prefix-nil a q h)
bytes-prefix (a ∷ q) (c ∷ k) h b = let (e, p) = (prefix-cons a q c k).0 h in (rw e b.0, bytes-prefix q k p b.1)

pub prefix-chain : (p q k : Key) → PrefixOf p k → PrefixOf q k → length p ≤ length q → PrefixOf p q
prefix-chain [] q k g h l = prefix-empty q
prefix-chain (a ∷ p) [] k g h l = absurd (omega arith)
prefix-chain (a ∷ p) (b ∷ q) [] g h l = absurd (prefix-nil a p g)
prefix-chain (a ∷ p) (b ∷ q) (c ∷ k) g h l =
    let (e, u) = (prefix-cons a p c k).0 g in
    let (f, w) = (prefix-cons b q c k).0 h in
    (prefix-cons a p b q).1 (e ∙ sym f, prefix-chain p q k u w (omega arith))

-- a prefix that is as long is the key itself
pub prefix-whole : (q k : Key) → PrefixOf q k → length k ≤ length q → q ≡ k
prefix-whole [] [] h l = refl
prefix-whole [] (b ∷ k) h l = absurd (omega arith)
prefix-whole (a ∷ q) [] h l = absurd (prefix-nil a q h)
prefix-whole (a ∷ q) (b ∷ k) h l =
    let (e, p) = (prefix-cons a q b k).0 h in
    let s : q ≡ k = prefix-whole q k p (omega arith) in
    λ i. e i ∷ s i

pub prefix-proper : (q k : Key) → PrefixOf q k → (length q < length k) ↔ (¬ (k ≡ q))
prefix-proper q k h = (λ l s. omega (arith, ap length s), go (order (length q) (length k)))
  where
    go : Order (length q) (length k) → ¬ (k ≡ q) → length q < length k
    go (Order.below l e f) n = l
    go (Order.same l e) n = absurd (n (sym (prefix-whole q k h (omega arith))))
    go (Order.above l e f) n = omega (arith, prefix-length q k h)

pub prefix-leading : (d : ℕ) (k : Key) → PrefixOf (take d k) k
prefix-leading d k = (prefix-iff (take d k) k).1 (drop d k, sym (take-append-drop d k))

pub prefix-take : (p k : Key) → PrefixOf p k ↔ (take (length p) k ≡ p)
prefix-take p k = (λ h. let (r, e) = prefix-rest p k h in rw e (take-append_seam p r), λ e. rw e at (prefix-leading (length p) k))

pub prefix-below : (q k : Key) → PrefixOf q k → length q < length k → Below q k
unfolding compare_keys
prefix-below [] [] h l = absurd (omega arith)
prefix-below [] (b ∷ k) h l = refl
prefix-below (a ∷ q) [] h l = absurd (prefix-nil a q h)
prefix-below (a ∷ q) (b ∷ k) h l =
    let (e, p) = (prefix-cons a q b k).0 h in
    rw (e, compare_refl) (prefix-below q k p (omega arith))

pub prefix-rises : (p q k : Key) → PrefixOf p k → PrefixOf q k → Below p q ↔ (length p < length q)
prefix-rises p q k g h = (go (order (length p) (length q)), λ l. prefix-below p q (prefix-chain p q k g h (omega arith)) l)
  where
    go : Order (length p) (length q) → Below p q → length p < length q
    go (Order.below l e f) b = l
    go (Order.same l e) b =
        let s : q ≡ p = prefix-whole q p (prefix-chain q p k h g (omega arith)) (omega arith) in
        absurd (below_irrefl p (rw s at b))
    go (Order.above l e f) b = absurd (below-asym p q b (prefix-below q p (prefix-chain q p k h g (omega arith)) l))

-- leading parts of one length rise with their keys, or are the same
pub take-rises : (d : ℕ) (x y : Key) → Below x y → (take d x ≡ take d y) ⊎ Below (take d x) (take d y)
unfolding compare_keys
take-rises zero x y l = inl refl
take-rises (suc d) [] [] l = absurd (let z : ◌≡◌ {A = ℕ} 0 1 = cc in omega arith)
take-rises (suc d) [] (b ∷ y) l = inr refl
take-rises (suc d) (a ∷ x) [] l = absurd (let z : ◌≡◌ {A = ℕ} 0 1 = cc in omega arith)
take-rises (suc d) (a ∷ x) (b ∷ y) l = go (order a b) (λ h. take-rises d x y h)
  where
    further : a ≡ b → (take d x ≡ take d y) ⊎ Below (take d x) (take d y) → (take (suc d) (a ∷ x) ≡ take (suc d) (b ∷ y)) ⊎ Below (take (suc d) (a ∷ x)) (take (suc d) (b ∷ y))
    further e (inl p) = inl (λ i. e i ∷ p i)
    further e (inr p) = inr (rw (e, compare_refl) p)

    go : Order a b
        → (Below x y → (take d x ≡ take d y) ⊎ Below (take d x) (take d y))
        → (take (suc d) (a ∷ x) ≡ take (suc d) (b ∷ y)) ⊎ Below (take (suc d) (a ∷ x)) (take (suc d) (b ∷ y))
    go (Order.below h e f) ih = inr (rw e)
    go (Order.same h e) ih = further h (ih (rw e at l))
    go (Order.above h e f) ih = let c : Ordering.gt ≡ Ordering.lt = rw e at l in absurd (let z : ◌≡◌ {A = ℕ} 0 1 = cc in omega arith)

pub both_true : (s t : Bool) → ((s && t) ≡ true) ↔ ((s ≡ true) × (t ≡ true))
both_true true t = (λ h. (refl, h), λ h. h.1)
both_true false t = (λ h. (h, cc), λ h. h.0)

pub extends-iff : (q k : Key) → (extends q k ≡ true) ↔ (PrefixOf q k × (length q < length k))
unfolding extends
extends-iff q k =
    let both : (extends q k ≡ true) ↔ (PrefixOf q k × (ltb (length q) (length k) ≡ true)) = both_true (begins_with q k) (ltb (length q) (length k)) in
    (λ h. ((both.0 h).0, ltb-true _ _ (both.0 h).1), λ h. both.1 (h.0, lt-ltb _ _ h.1))

-- no key extends itself
pub extends-own : (p : Key) → extends p p ≡ false
extends-own p = go (extends p p) refl
  where
    go : (t : Bool) → extends p p ≡ t → extends p p ≡ false
    go true e = absurd (omega (arith, ((extends-iff p p).0 e).1))
    go false e = e

pub common_prefix-iff : (p x y : Key) → PrefixOf p (common_prefix x y) ↔ (PrefixOf p x × PrefixOf p y)
unfolding common_prefix
common_prefix-iff [] x y = (λ h. (prefix-empty x, prefix-empty y), λ h. prefix-empty (common_prefix x y))
common_prefix-iff (c ∷ p) [] y = (λ h. absurd (prefix-nil c p h), λ h. absurd (prefix-nil c p h.0))
common_prefix-iff (c ∷ p) (a ∷ x) [] = (λ h. absurd (prefix-nil c p h), λ h. absurd (prefix-nil c p h.1))
common_prefix-iff (c ∷ p) (a ∷ x) (b ∷ y) = go (eqb a b) refl (common_prefix-iff p x y)
  where
    go : (t : Bool)
        → eqb a b ≡ t
        → PrefixOf p (common_prefix x y) ↔ (PrefixOf p x × PrefixOf p y)
        → PrefixOf (c ∷ p) (common_prefix (a ∷ x) (b ∷ y)) ↔ (PrefixOf (c ∷ p) (a ∷ x) × PrefixOf (c ∷ p) (b ∷ y))
    go true e ih =
        rw e (
          λ h.
              let (f, k) = (prefix-cons c p a (common_prefix x y)).0 h in
              ((prefix-cons c p a x).1 (f, (ih.0 k).0), (prefix-cons c p b y).1 (f ∙ eqb-true a b e, (ih.0 k).1)),
          λ h.
              (prefix-cons c p a (common_prefix x y)).1
              (((prefix-cons c p a x).0 h.0).0, ih.1 (((prefix-cons c p a x).0 h.0).1, ((prefix-cons c p b y).0 h.1).1)),
        )
    go false e ih =
        rw e (
          λ h. absurd (prefix-nil c p h),
          λ h. absurd (eqb-false a b e (sym ((prefix-cons c p a x).0 h.0).0 ∙ ((prefix-cons c p b y).0 h.1).0)),
        )

pub compare_keys-append : (q x y : Key) → compare_keys (q ++ x) (q ++ y) ≡ compare_keys x y
unfolding compare_keys
compare_keys-append [] x y = refl
compare_keys-append (a ∷ q) x y = rw compare_refl (compare_keys-append q x y)

pub prefix-between : (q x z y : Key) → PrefixOf q x → PrefixOf q y → Below x z → Below z y → PrefixOf q z
unfolding compare_keys
prefix-between [] x z y g h l u = prefix-empty z
prefix-between (a ∷ q) [] z y g h l u = absurd (prefix-nil a q g)
prefix-between (a ∷ q) (b ∷ x) [] y g h l u = absurd (let z : ◌≡◌ {A = ℕ} 0 1 = cc in omega arith)
prefix-between (a ∷ q) (b ∷ x) (c ∷ z) [] g h l u = absurd (prefix-nil a q h)
prefix-between (a ∷ q) (b ∷ x) (c ∷ z) (d ∷ y) g h l u =
    let (e, s) = (prefix-cons a q b x).0 g in
    let (f, t) = (prefix-cons a q d y).0 h in
    go e f (λ i j. prefix-between q x z y s t i j) (order b c) (order c d)
  where
    go : a ≡ b → a ≡ d → (Below x z → Below z y → PrefixOf q z) → Order b c → Order c d → PrefixOf (a ∷ q) (c ∷ z)
    go e f ih (Order.above k p r) o = absurd (let z : ◌≡◌ {A = ℕ} 0 1 = cc in omega arith)
    go e f ih (Order.below k p r) (Order.below m v w) = absurd (omega arith)
    go e f ih (Order.below k p r) (Order.same m v) = absurd (omega arith)
    go e f ih (Order.below k p r) (Order.above m v w) = absurd (let z : ◌≡◌ {A = ℕ} 0 1 = cc in omega arith)
    go e f ih (Order.same k p) (Order.below m v w) = absurd (omega arith)
    go e f ih (Order.same k p) (Order.same m v) = (prefix-cons a q c z).1 (e ∙ k, ih (rw p at l) (rw v at u))
    go e f ih (Order.same k p) (Order.above m v w) = absurd (omega arith)
