-- A perch that knows its one goes where the rule goes, on any bits; and a climb ends, since each parent's number is below.
--
--     has_parent-far, -zero, -before, -last  a perch, by the first test that fails; `has_parent-told`: what it tells
--     parent_from-none, -some                the parent of a perch, by that test
--     parent_by-told                         a parent's number is from 1 to the node's less 1
--     perch-lost, perch-up                   a perch by its parent's number, as louds answers it
--     parent-rule                            the parent of a perch is the rule's
--     depth-root, depth-next                 how deep a node is, by its parent
--     rise-to, rise-lost                     what a step up from a perch that knows its one tells
-- Assumes nothing.
use mathlib.Core.Path.{◌≡◌, refl, sym, ap, ◌∙◌}
use Prim.Native.Nat.{ℕ, zero, suc, ◌+◌, ◌-◌, ◌≤◌, ◌<◌}
use native.Mathlib.Nat.{lt_of_not-le}
use native.Mathlib.Decide.{dec_le}
use native.Mathlib.Omega.{arith}
use mathlib.Core.Bool.{Bool, true, false, true≢false}
use Rattle.std.specs.Prelude.{Option, None, Some, unwrap_or}
use Rattle.std.proofs.lemmas.Option.{none-some}
use lib.Dec.{ltb}
use borrow.Author.Tests.{lt-ltb, le-ltb, le-leb, lt-leb, ltb-true}
use Rattle.louds.specs.Select.{one_at, one_back}
use Rattle.louds.specs.Nodes.{parent_of}
use Rattle.louds.proofs.Laws.Rank.{ones-zeros}
use Rattle.louds.proofs.Laws.Select.{Stands, rank-kth, kth-exists, kth-back}
use Rattle.louds.proofs.Laws.Nodes.{parent-none, parent-at, parent-told}
use Rattle.keymap.proofs.Laws.Sums.{sum_below-mono}
use Rattle.climbs.specs.declared.perches.Perch.{Perch}
use Rattle.climbs.specs.Perches.{below, parent_by, climbs, depth_by, perch_at, has_parent, parent_from, perch_of}

-- ---- the test

module _ (len m p : ℕ) where
  pub has_parent-far : len ≤ p → has_parent len m p ≡ false
  unfolding has_parent
  has_parent-far h = rw (le-ltb p len h)

  module _ (inside : p < len) where
    pub has_parent-zero : m ≡ 0 → has_parent len m p ≡ false
    unfolding has_parent
    has_parent-zero h = rw (lt-ltb p len inside, lt-leb 1 m (omega arith))

    module _ (node : ¬ (m ≡ 0)) where
      pub has_parent-before : p < m → has_parent len m p ≡ false
      unfolding has_parent
      has_parent-before h = rw (lt-ltb p len inside, le-leb 1 m (omega arith), lt-leb m p h)

      pub has_parent-last : m ≤ p → has_parent len m p ≡ ltb (p - (m - 1)) m
      unfolding has_parent
      has_parent-last h = rw (lt-ltb p len inside, le-leb 1 m (omega arith), le-leb m p h)

  pub record HasParent : Type 0 where
    pub inside : p < len
    pub node : 1 ≤ m
    pub behind : m ≤ p
    pub above : p - (m - 1) < m

  pub has_parent-told : has_parent len m p ≡ true → HasParent
  has_parent-told e = far (dec_le len p)
    where
      never : has_parent len m p ≡ false → ⊥
      never f = true≢false (sym e ∙ f)

      before : p < len → 1 ≤ m → Dec (m ≤ p) → HasParent
      before inside node (yes l) = record { inside = inside; node = node; behind = l; above = ltb-true _ _ (sym (has_parent-last inside (λ z. omega (arith, z, node)) l) ∙ e) }
      before inside node (no l) = absurd (never (has_parent-before inside (λ z. omega (arith, z, node)) (lt_of_not-le l)))

      root : p < len → Dec (1 ≤ m) → HasParent
      root inside (yes l) = before inside l (dec_le m p)
      root inside (no l) = absurd (never (has_parent-zero inside (omega (arith, lt_of_not-le l))))

      far : Dec (len ≤ p) → HasParent
      far (yes l) = absurd (never (has_parent-far l))
      far (no l) = root (lt_of_not-le l) (dec_le 1 m)

module _ (b : ℕ → ℕ) (len : ℕ) (at : Perch) where
  pub parent_from-none : has_parent len at.node at.one ≡ false → parent_from b len at ≡ None
  unfolding parent_from
  parent_from-none e = rw e

  pub parent_from-some : has_parent len at.node at.one ≡ true
      → parent_from b len at
      ≡ Some (record { node = at.one - (at.node - 1); one = unwrap_or (one_back b at.one (at.node - (at.one - (at.node - 1)))) at.one })
  unfolding parent_from
  parent_from-some e = rw e

-- ---- the rule

module _ (b : ℕ → ℕ) (len : ℕ) where
  pub parent_by-lost : (m : ℕ) → parent_of b len m ≡ None → parent_by b len m ≡ None
  unfolding parent_by
  parent_by-lost m e = ap (below m) e

  pub parent_by-node : (m k : ℕ) → parent_of b len m ≡ Some k → 1 ≤ k → k < m → parent_by b len m ≡ Some k
  unfolding parent_by
  parent_by-node m k e l u = ap (below m) e ∙ rw (le-leb 1 k l, lt-ltb k m u)

  pub parent_by-zero : (m : ℕ) → parent_of b len m ≡ Some 0 → parent_by b len m ≡ None
  unfolding parent_by
  parent_by-zero m e = ap (below m) e

  pub parent_by-high : (m k : ℕ) → parent_of b len m ≡ Some k → 1 ≤ k → m ≤ k → parent_by b len m ≡ None
  unfolding parent_by
  parent_by-high m k e l u = ap (below m) e ∙ rw (le-leb 1 k l, le-ltb k m u)

  pub parent_by-told : (m k : ℕ) → parent_by b len m ≡ Some k → (1 ≤ k) × (k < m)
  parent_by-told m k e = go (parent_of b len m) refl
    where
      high : (j : ℕ) → parent_of b len m ≡ Some j → 1 ≤ j → Dec (m ≤ j) → (1 ≤ k) × (k < m)
      high j f l (yes u) = absurd (none-some k (sym (parent_by-high m j f l u) ∙ e))
      high j f l (no u) =
          let g : ◌≡◌ {A = Option ℕ} (Some j) (Some k) = sym (parent_by-node m j f l (lt_of_not-le u)) ∙ e in
          let same : j ≡ k = cc in
          (omega (arith, same, l), omega (arith, same, lt_of_not-le u))

      go : (u : Option ℕ) → parent_of b len m ≡ u → (1 ≤ k) × (k < m)
      go None f = absurd (none-some k (sym (parent_by-lost m f) ∙ e))
      go (Some zero) f = absurd (none-some k (sym (parent_by-zero m f) ∙ e))
      go (Some (suc j)) f = high (suc j) f (omega arith) (dec_le m (suc j))

-- ---- a perch that knows its one

module _ (b : ℕ → ℕ) (small : (i : ℕ) → b i ≤ 1) (len : ℕ) where
  pub perch-lost : (m : ℕ) → parent_of b len m ≡ None → perch_at b len m ≡ record { node = m; one = len }
  perch-lost m e = go (one_at b len m) refl
    where
      go : (t : Option ℕ) → one_at b len m ≡ t → perch_at b len m ≡ record { node = m; one = len }
      go (Some q) f = let r = parent-at b small len m q f in let z : ◌≡◌ {A = ℕ} 0 1 = cc in absurd (omega arith)
      go None f = let one : unwrap_or (one_at b len m) len ≡ len = ap (λ (o : Option ℕ). unwrap_or o len) f in λ x. record { node = m; one = one x }

  -- m-1 ones and k zeros stand before the one
  pub record UpTold (m k : ℕ) : Type 0 where
    pub node : 1 ≤ m
    pub inside : k + (m - 1) < len
    pub perch : perch_at b len m ≡ record { node = m; one = k + (m - 1) }

  pub perch-up : (m k : ℕ) → parent_of b len m ≡ Some k → UpTold m k
  perch-up m k e =
      let (q, u) = parent-told b small len m k e in
      let s = rank-kth b small len m q u.answer in
      let at : q ≡ k + (m - 1) = omega (arith, u.zeros, s.rank, ones-zeros b small q) in
      let one : unwrap_or (one_at b len m) len ≡ k + (m - 1) = ap (λ (o : Option ℕ). unwrap_or o len) u.answer ∙ at in
      record { node = omega (arith, s.rank); inside = omega (arith, s.inside, at); perch = λ x. record { node = m; one = one x } }

  pub parent-rule : (m : ℕ) → parent_from b len (perch_at b len m) ≡ perch_of b len (parent_by b len m)
  parent-rule m = go (one_at b len m) refl
    where
      test : (q : ℕ) → one_at b len m ≡ Some q → Stands b len m q → (t : Bool) → has_parent len m q ≡ t → parent_from b len (record { node = m; one = q }) ≡ perch_of b len (parent_by b len m)
      test q e s true f =
          let h = has_parent-told len m q f in
          let up : ℕ = q - (m - 1) in
          let (p, own) = kth-exists b len up (omega (arith, h)) (omega (arith, h, s, sum_below-mono b {i = q} {j = len} (omega (arith, s.inside)))) in
          let back : one_back b q (m - up) ≡ Some p = kth-back b small len up m p q own.answer e (omega (arith, h)) in
          let one : unwrap_or (one_back b q (m - up)) q ≡ unwrap_or (one_at b len up) len = ap (λ (o : Option ℕ). unwrap_or o q) back ∙ sym (ap (λ (o : Option ℕ). unwrap_or o len) own.answer) in
          parent_from-some b len (record { node = m; one = q }) f
          ∙ (λ x. Some (record { node = up; one = one x }))
          ∙ sym (ap (perch_of b len) (parent_by-node b len m up (parent-at b small len m q e) (omega (arith, h)) (omega (arith, h))))
      test q e s false f =
          parent_from-none b len (record { node = m; one = q }) f
          ∙ sym (ap (perch_of b len) (nowhere (dec_le m q)))
        where
          up : ℕ
          up = q - (m - 1)

          high : m ≤ q → Dec (m ≤ up) → parent_by b len m ≡ None
          high l (yes u) = parent_by-high b len m up (parent-at b small len m q e) (omega (arith, l, s)) u
          high l (no u) =
              let t : has_parent len m q ≡ true = has_parent-last len m q s.inside (λ z. omega (arith, z, s)) l ∙ lt-ltb up m (lt_of_not-le u) in
              absurd (true≢false (sym t ∙ f))

          nowhere : Dec (m ≤ q) → parent_by b len m ≡ None
          nowhere (yes l) = high l (dec_le m up)
          nowhere (no l) = parent_by-zero b len m (parent-at b small len m q e ∙ ap Some (omega (arith, lt_of_not-le l, s, ones-zeros b small q)))

      go : (t : Option ℕ) → one_at b len m ≡ t → parent_from b len (perch_at b len m) ≡ perch_of b len (parent_by b len m)
      go (Some q) e =
          let z : unwrap_or (one_at b len m) len ≡ q = ap (λ (o : Option ℕ). unwrap_or o len) e in
          ap (parent_from b len) (λ x. record { node = m; one = z x })
          ∙ test q e (rank-kth b small len m q e) (has_parent len m q) refl
      go None e =
          let z : unwrap_or (one_at b len m) len ≡ len = ap (λ (o : Option ℕ). unwrap_or o len) e in
          ap (parent_from b len) (λ x. record { node = m; one = z x })
          ∙ parent_from-none b len (record { node = m; one = len }) (has_parent-far len m len (omega arith))
          ∙ sym (ap (perch_of b len) (parent_by-lost b len m (parent-none b len m e)))

-- ---- climbs

-- the bound is enough
abbrev Within : ℕ → Option ℕ → Type 0
Within n None = Unit {0}
Within n (Some k) = (1 ≤ k) × (k ≤ n)

module _ (b : ℕ → ℕ) (len : ℕ) where
  parent-within : (k n : ℕ) → k ≤ suc n → (o : Option ℕ) → parent_by b len k ≡ o → Within n o
  parent-within k n l None e = tt
  parent-within k n l (Some j) e = let (low, high) = parent_by-told b len k j e in (low, omega (arith, high))

  climbs-enough : (f g : ℕ) (o : Option ℕ) → Within f o → Within g o → climbs b len f o ≡ climbs b len g o
  unfolding climbs
  climbs-enough zero zero o v w = refl
  climbs-enough zero (suc g) None v w = refl
  climbs-enough zero (suc g) (Some k) v w = absurd (omega (arith, v))
  climbs-enough (suc f) zero None v w = refl
  climbs-enough (suc f) zero (Some k) v w = absurd (omega (arith, w))
  climbs-enough (suc f) (suc g) None v w = refl
  climbs-enough (suc f) (suc g) (Some k) v w =
      ap suc (climbs-enough f g (parent_by b len k) (parent-within k f v.1 (parent_by b len k) refl) (parent-within k g w.1 (parent_by b len k) refl))

  climbs-none : (f : ℕ) → climbs b len f None ≡ 0
  unfolding climbs
  climbs-none zero = refl
  climbs-none (suc f) = refl

  climbs-some : (f k : ℕ) → climbs b len (suc f) (Some k) ≡ suc (climbs b len f (parent_by b len k))
  unfolding climbs
  climbs-some f k = refl

  pub depth-root : (m : ℕ) → parent_by b len m ≡ None → depth_by b len m ≡ 0
  unfolding depth_by
  depth-root m e = ap (climbs b len m) e ∙ climbs-none m

  pub depth-next : (m k : ℕ) → parent_by b len m ≡ Some k → depth_by b len m ≡ suc (depth_by b len k)
  unfolding depth_by
  depth-next m k e =
      let (low, high) = parent_by-told b len m k e in
      let back : suc (m - 1) ≡ m = omega (arith, high) in
      ap (climbs b len m) e
      ∙ ap (λ (f : ℕ). climbs b len f (Some k)) (sym back)
      ∙ climbs-some (m - 1) k
      ∙ ap suc (climbs-enough (m - 1) k (parent_by b len k) (parent-within k (m - 1) (omega (arith, high)) (parent_by b len k) refl) (parent-within k k (omega arith) (parent_by b len k) refl))

-- ---- what a step up tells

-- the parent of node m, as a perch that knows its one
pub record RiseTold (b : ℕ → ℕ) (len m : ℕ) (t : Perch) : Type 0 where
  pub node : parent_by b len m ≡ Some t.node
  pub knows : t ≡ perch_at b len t.node
  pub lower : t.node < m

module _ (b : ℕ → ℕ) (small : (i : ℕ) → b i ≤ 1) (len : ℕ) (at : Perch) (known : at ≡ perch_at b len at.node) (r : Option Perch) (e : r ≡ parent_from b len at) where
  rise-is : perch_of b len (parent_by b len at.node) ≡ r
  rise-is = sym (e ∙ ap (parent_from b len) known ∙ parent-rule b small len at.node)

  pub rise-to : (t : Perch) → r ≡ Some t → RiseTold b len at.node t
  rise-to t f = go (parent_by b len at.node) refl (rise-is ∙ f)
    where
      go : (o : Option ℕ) → parent_by b len at.node ≡ o → perch_of b len o ≡ Some t → RiseTold b len at.node t
      go None p g = let z : ◌≡◌ {A = ℕ} 0 1 = cc in absurd (omega arith)
      go (Some k) p g =
          let same : perch_at b len k ≡ t = cc in
          rw (← same) (record { node = p; knows = refl; lower = omega (arith, parent_by-told b len at.node k p) })

  pub rise-lost : r ≡ None → parent_by b len at.node ≡ None
  rise-lost f = go (parent_by b len at.node) refl (rise-is ∙ f)
    where
      go : (o : Option ℕ) → parent_by b len at.node ≡ o → perch_of b len o ≡ None → parent_by b len at.node ≡ None
      go None p g = p
      go (Some k) p g = let z : ◌≡◌ {A = ℕ} 0 1 = cc in absurd (omega arith)
