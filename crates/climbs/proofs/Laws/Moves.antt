-- A perch that knows its one goes where the rule goes, on any bits; and a climb ends, since each parent's number is below.
--
--     leads-far, -zero, -before, -last  a perch, by the first test that fails; `leads-told`: what it tells
--     first_from-far, -missing  a perch that has no first child, by the first test that fails; `zero-ahead`: its node's
--                           zero is not before its one
--     rise-lower            a parent's number is lower
--     climb_from-top, -beside, -lost, -up  a climb, by where it is
--     advance-rule          the next perch is the rule's
--     moved_to, moved-lost  what a move from a perch that knows its one tells
-- Assumes nothing.
use mathlib.Core.Path.{◌≡◌, refl, sym, ap, ap₂, ◌∙◌}
use Prim.Native.Nat.{ℕ, zero, suc, ◌+◌, ◌-◌, ◌≤◌, ◌<◌}
use native.Mathlib.Nat.{lt_of_not-le}
use native.Mathlib.Decide.{dec_le}
use native.Mathlib.Omega.{arith}
use mathlib.Core.Bool.{Bool, true, false, true≢false, cond, ◌&&◌, and-false}
use Rattle.std.specs.Prelude.{Option, None, Some, unwrap_or}
use Rattle.std.specs.Option.{option_or}
use lib.Dec.{eqb, ltb}
use borrow.Author.Tests.{lt-ltb, le-ltb, le-leb, lt-leb, ltb-true, eq-eqb, ne_eqb}
use Rattle.keymap.specs.Bits.{sum_below}
use Rattle.keymap.proofs.Laws.Sums.{sum_below-mono, sum_below-next, sum_below-lt}
use Rattle.louds.specs.Rank.{gap}
use Rattle.louds.specs.Select.{one_at, onward, zero_at, zero_from}
use Rattle.louds.proofs.Laws.Rank.{gap-small, ones-zeros}
use Rattle.louds.proofs.Laws.Select.{Stands, rank-kth, kth-rank, kth-told, kth-missing, kth-onward, onward-before}
use Rattle.image.proofs.Laws.BitTests.{both}
use Rattle.walks.specs.Rule.{counts_to}
use Rattle.walks.proofs.Laws.Rule.{counts_to-low}
use Rattle.climbs.specs.declared.perches.Perch.{Perch}
use Rattle.climbs.specs.Perches.{parent_by, perch_at, has_parent, parent_from, perch_of}
use Rattle.climbs.specs.Order.{first_by, one_behind, beside_by, climbed_from, climb_by, advance_by}
use Rattle.climbs.specs.Moves.{leads, behind_zero, first_from, beside_from, climbed_rise, climb_from, advance_from}
use Rattle.climbs.proofs.Laws.Perches.{has_parent-told, parent_from-none, parent_from-some, parent-rule}
use Rattle.climbs.proofs.Laws.Order.{one_behind-far, one_behind-told, first-lost, first-at, beside-lost, beside_at}

-- ---- the first child of a perch

module _ (len m p : ℕ) where
  pub leads-far : len ≤ p → leads len m p ≡ false
  unfolding leads
  leads-far h = rw (le-ltb p len h)

  module _ (inside : p < len) where
    pub leads-zero : m ≡ 0 → leads len m p ≡ false
    unfolding leads
    leads-zero h = rw (lt-ltb p len inside, lt-leb 1 m (omega arith))

    module _ (node : ¬ (m ≡ 0)) where
      pub leads-before : p + 1 < m → leads len m p ≡ false
      unfolding leads
      leads-before h = rw (lt-ltb p len inside, le-leb 1 m (omega arith), lt-leb m (p + 1) h)

      pub leads-last : m ≤ p + 1 → leads len m p ≡ ltb (p + 1 - m) m
      unfolding leads
      leads-last h = rw (lt-ltb p len inside, le-leb 1 m (omega arith), le-leb m (p + 1) h)

  pub record Leads : Type 0 where
    pub inside : p < len
    pub node : 1 ≤ m
    pub upto : m ≤ p + 1
    pub fewer : p + 1 - m < m

  pub leads-told : leads len m p ≡ true → Leads
  leads-told e = far (dec_le len p)
    where
      never : leads len m p ≡ false → ⊥
      never f = true≢false (sym e ∙ f)

      before : p < len → 1 ≤ m → Dec (m ≤ p + 1) → Leads
      before inside node (yes l) = record { inside = inside; node = node; upto = l; fewer = ltb-true _ _ (sym (leads-last inside (λ z. omega (arith, z, node)) l) ∙ e) }
      before inside node (no l) = absurd (never (leads-before inside (λ z. omega (arith, z, node)) (lt_of_not-le l)))

      root : p < len → Dec (1 ≤ m) → Leads
      root inside (yes l) = before inside l (dec_le m (p + 1))
      root inside (no l) = absurd (never (leads-zero inside (omega (arith, lt_of_not-le l))))

      far : Dec (len ≤ p) → Leads
      far (yes l) = absurd (never (leads-far l))
      far (no l) = root (lt_of_not-le l) (dec_le 1 m)

module _ (b : ℕ → ℕ) (len last : ℕ) (at : Perch) where
  pub first_from-far : leads len at.node at.one ≡ false → first_from b len last at ≡ None
  unfolding first_from
  first_from-far e = rw e

  module _ (may : leads len at.node at.one ≡ true) where
    first-zero : (s : Option ℕ) → zero_from b len at.one (at.node - (at.one + 1 - at.node)) ≡ s → first_from b len last at ≡ behind_zero b len last at.node s
    unfolding first_from
    first-zero s e = rw may (ap (behind_zero b len last at.node) e)

    pub first_from-missing : zero_from b len at.one (at.node - (at.one + 1 - at.node)) ≡ None → first_from b len last at ≡ None
    first_from-missing e = first-zero None e

    module _ (z : ℕ) (zero_is : zero_from b len at.one (at.node - (at.one + 1 - at.node)) ≡ Some z) where
      pub zero-ahead : at.one ≤ z
      zero-ahead = go (dec_le at.one z)
        where
          go : Dec (at.one ≤ z) → at.one ≤ z
          go (yes l) = l
          go (no l) = absurd (omega (arith, kth-told (onward at.one (gap b)) len (at.node - (at.one + 1 - at.node)) z zero_is, onward-before (gap b) at.one z (lt_of_not-le l)))

-- ---- a climb from any perch

pub rise-lower : (b : ℕ → ℕ) (len : ℕ) (at up : Perch) → parent_from b len at ≡ Some up → up.node < at.node
rise-lower b len at up e = go (has_parent len at.node at.one) refl
  where
    go : (t : Bool) → has_parent len at.node at.one ≡ t → up.node < at.node
    go true f =
        let h = has_parent-told len at.node at.one f in
        let told = sym (parent_from-some b len at f) ∙ e in
        let number : at.one - (at.node - 1) ≡ up.node = cc in
        omega (arith, number, h.above)
    go false f =
        let told = sym (parent_from-none b len at f) ∙ e in
        let z : ◌≡◌ {A = ℕ} 0 1 = cc in
        absurd (omega arith)

-- the bound is enough
abbrev Bounds : ℕ → Option Perch → Type 0
Bounds n None = Unit {0}
Bounds n (Some at) = at.node < n

module _ (b : ℕ → ℕ) (len last top : ℕ) where
  rise-bounds : (at : Perch) (n : ℕ) → at.node < suc n → (r : Option Perch) → parent_from b len at ≡ r → Bounds n r
  rise-bounds at n l None e = tt
  rise-bounds at n l (Some up) e = omega (arith, l, rise-lower b len at up e)

  climbed-enough : (f g : ℕ) (r : Option Perch) → Bounds f r → Bounds g r → climbed_rise b len last top f r ≡ climbed_rise b len last top g r
  unfolding climbed_rise
  climbed-enough zero zero r v w = refl
  climbed-enough zero (suc g) None v w = refl
  climbed-enough zero (suc g) (Some at) v w = absurd (omega (arith, v))
  climbed-enough (suc f) zero None v w = refl
  climbed-enough (suc f) zero (Some at) v w = absurd (omega (arith, w))
  climbed-enough (suc f) (suc g) None v w = refl
  climbed-enough (suc f) (suc g) (Some at) v w =
      ap (λ (r : Option Perch). cond (eqb at.node top) None (option_or (beside_from b len last at) r))
      (climbed-enough f g (parent_from b len at) (rise-bounds at f v (parent_from b len at) refl) (rise-bounds at g w (parent_from b len at) refl))

  climbed-none : (f : ℕ) → climbed_rise b len last top f None ≡ None
  unfolding climbed_rise
  climbed-none zero = refl
  climbed-none (suc f) = refl

  module _ (at : Perch) where
    pub climb_from-top : at.node ≡ top → climb_from b len last top at ≡ None
    unfolding climb_from climbed_rise
    climb_from-top h = rw (eq-eqb at.node top h)

    module _ (away : ¬ (at.node ≡ top)) where
      pub climb_from-beside : (p : Perch) → beside_from b len last at ≡ Some p → climb_from b len last top at ≡ Some p
      unfolding climb_from climbed_rise
      climb_from-beside p e = rw (ne_eqb at.node top away, e)

      module _ (alone : beside_from b len last at ≡ None) where
        climb-on : climb_from b len last top at ≡ climbed_rise b len last top at.node (parent_from b len at)
        unfolding climb_from climbed_rise
        climb-on = rw (ne_eqb at.node top away, alone)

        pub climb_from-lost : parent_from b len at ≡ None → climb_from b len last top at ≡ None
        climb_from-lost e = climb-on ∙ ap (climbed_rise b len last top at.node) e ∙ climbed-none at.node

        pub climb_from-up : (up : Perch) → parent_from b len at ≡ Some up → climb_from b len last top at ≡ climb_from b len last top up
        unfolding climb_from
        climb_from-up up e =
            climb-on
            ∙ ap (climbed_rise b len last top at.node) e
            ∙ climbed-enough at.node (suc up.node) (Some up) (rise-lower b len at up e) (omega arith)

-- ---- a perch that knows its one

module _ (b : ℕ → ℕ) (small : (i : ℕ) → b i ≤ 1) (len last : ℕ) where
  -- the child behind node k's zero, as a perch
  child-knows : (k z : ℕ) → zero_at b len k ≡ Some z → one_behind b len z ≡ true → unwrap_or (one_at b len (z + 2 - k)) len ≡ z + 1
  child-knows k z e one =
      let s = rank-kth (gap b) (gap-small b) len k z e in
      let (inside, marked) = one_behind-told b len z one in
      let rank : sum_below b (z + 1) + 1 ≡ z + 2 - k = omega (arith, ones-zeros b small (z + 1), sum_below-next (gap b) z, s.rank, s.marked) in
      ap (λ (o : Option ℕ). unwrap_or o len) (ap (one_at b len) (sym rank) ∙ kth-rank b small len (z + 1) inside marked)

  first-rule : (k : ℕ) → first_from b len last (perch_at b len k) ≡ perch_of b len (first_by b len last k)
  first-rule k = go (one_at b len k) refl
    where
      -- where the child's number is not above the node's it does not count
      bare : ((z : ℕ) → Stands (gap b) len k z → z + 2 - k ≤ k) → first_by b len last k ≡ None
      bare low = at_zero (zero_at b len k) refl
        where
          at_zero : (t : Option ℕ) → zero_at b len k ≡ t → first_by b len last k ≡ None
          at_zero None e = first-lost b small len last k e
          at_zero (Some z) e =
              first-at b small len last k z e
              ∙ rw (counts_to-low last k (z + 2 - k) (low z (rank-kth (gap b) (gap-small b) len k z e)), and-false (one_behind b len z))

      known : (q : ℕ) → Stands b len k q → (t : Bool) → leads len k q ≡ t → first_from b len last (record { node = k; one = q }) ≡ perch_of b len (first_by b len last k)
      known q s true f = at_zero (zero_at b len k) refl
        where
          told : Leads len k q
          told = leads-told len k q f

          same : zero_from b len q (k - (q + 1 - k)) ≡ zero_at b len k
          same =
              kth-onward (gap b) q len (k - (q + 1 - k)) (omega (arith, told))
              ∙ ap (zero_at b len) (omega (arith, told, s.rank, ones-zeros b small q))

          child : (z : ℕ) → zero_at b len k ≡ Some z → (t : Bool) → (one_behind b len z && counts_to last k (z + 2 - k)) ≡ t
              → behind_zero b len last k (Some z) ≡ perch_of b len (cond (one_behind b len z && counts_to last k (z + 2 - k)) (Some (z + 2 - k)) None)
          child z e true g =
              let place = child-knows k z e (both (one_behind b len z) (counts_to last k (z + 2 - k)) g).0 in
              rw g (λ x. Some (record { node = z + 2 - k; one = sym place x }))
          child z e false g = rw g

          at_zero : (t : Option ℕ) → zero_at b len k ≡ t → first_from b len last (record { node = k; one = q }) ≡ perch_of b len (first_by b len last k)
          at_zero None e = first_from-missing b len last (record { node = k; one = q }) f (same ∙ e) ∙ sym (ap (perch_of b len) (first-lost b small len last k e))
          at_zero (Some z) e =
              first-zero b len last (record { node = k; one = q }) f (Some z) (same ∙ e)
              ∙ child z e (one_behind b len z && counts_to last k (z + 2 - k)) refl
              ∙ sym (ap (perch_of b len) (first-at b small len last k z e))
      known q s false f = first_from-far b len last (record { node = k; one = q }) f ∙ sym (ap (perch_of b len) (bare (λ z r. low z r (dec_le k (q + 1 - k)))))
        where
          low : (z : ℕ) → Stands (gap b) len k z → Dec (k ≤ q + 1 - k) → z + 2 - k ≤ k
          low z r (yes l) =
              let before : z < q = sum_below-lt (gap b) z q (omega (arith, l, r.rank, s.rank, ones-zeros b small q)) in
              omega (arith, s.rank, r.rank, ones-zeros b small z, sum_below-mono b {i = z} {j = q} (omega (arith, before)))
          low z r (no l) =
              let may : leads len k q ≡ true = leads-last len k q s.inside (λ e. omega (arith, e, s.rank)) (omega (arith, s.rank, ones-zeros b small q)) ∙ lt-ltb (q + 1 - k) k (lt_of_not-le l) in
              absurd (true≢false (sym may ∙ f))

      go : (t : Option ℕ) → one_at b len k ≡ t → first_from b len last (perch_at b len k) ≡ perch_of b len (first_by b len last k)
      go (Some q) e =
          let place : unwrap_or (one_at b len k) len ≡ q = ap (λ (o : Option ℕ). unwrap_or o len) e in
          ap (first_from b len last) (λ x. record { node = k; one = place x }) ∙ known q (rank-kth b small len k q e) (leads len k q) refl
      go None e =
          let place : unwrap_or (one_at b len k) len ≡ len = ap (λ (o : Option ℕ). unwrap_or o len) e in
          first_from-far b len last (perch_at b len k) (leads-far len k (unwrap_or (one_at b len k) len) (omega (arith, place)))
          ∙ sym (ap (perch_of b len) (bare (λ z r. omega (arith, kth-missing b len k (omega (arith, r.rank)) e, r.rank, ones-zeros b small z, sum_below-mono b {i = z} {j = len} (omega (arith, r.inside))))))

  beside-rule : (k : ℕ) → beside_from b len last (perch_at b len k) ≡ perch_of b len (beside_by b len last k)
  unfolding beside_from
  beside-rule k = go (one_at b len k) refl
    where
      there : (q : ℕ) → one_at b len k ≡ Some q → (t : Bool) → (ltb k last && one_behind b len q) ≡ t
          → beside_from b len last (record { node = k; one = q }) ≡ perch_of b len (cond (ltb k last && one_behind b len q) (Some (k + 1)) None)
      there q e true g =
          let s = rank-kth b small len k q e in
          let (inside, marked) = one_behind-told b len q (both (ltb k last) (one_behind b len q) g).1 in
          let rank : sum_below b (q + 1) + 1 ≡ k + 1 = omega (arith, sum_below-next b q, s.rank, s.marked) in
          let place : unwrap_or (one_at b len (k + 1)) len ≡ q + 1 = ap (λ (o : Option ℕ). unwrap_or o len) (ap (one_at b len) (sym rank) ∙ kth-rank b small len (q + 1) inside marked) in
          rw g (λ x. Some (record { node = k + 1; one = sym place x }))
      there q e false g = rw g

      go : (t : Option ℕ) → one_at b len k ≡ t → beside_from b len last (perch_at b len k) ≡ perch_of b len (beside_by b len last k)
      go (Some q) e =
          let place : unwrap_or (one_at b len k) len ≡ q = ap (λ (o : Option ℕ). unwrap_or o len) e in
          ap (beside_from b len last) (λ x. record { node = k; one = place x })
          ∙ there q e (ltb k last && one_behind b len q) refl
          ∙ sym (ap (perch_of b len) (beside_at b len last k q e))
      go None e =
          let place : unwrap_or (one_at b len k) len ≡ len = ap (λ (o : Option ℕ). unwrap_or o len) e in
          rw (one_behind-far b len (unwrap_or (one_at b len k) len) (omega (arith, place)), and-false (ltb k last)) (sym (ap (perch_of b len) (beside-lost b len last k e)))

  moved-choice : (t : Bool) (x y : Option ℕ) → cond t None (option_or (perch_of b len x) (perch_of b len y)) ≡ perch_of b len (cond t None (option_or x y))
  moved-choice true x y = refl
  moved-choice false None y = refl
  moved-choice false (Some k) y = refl

  climbed-rule : (f top : ℕ) (o : Option ℕ) → climbed_rise b len last top f (perch_of b len o) ≡ perch_of b len (climbed_from b len last top f o)
  unfolding climbed_rise climbed_from
  climbed-rule zero top o = refl
  climbed-rule (suc f) top None = refl
  climbed-rule (suc f) top (Some k) =
      ap₂ (λ (m : Option Perch) (r : Option Perch). cond (eqb k top) None (option_or m (climbed_rise b len last top f r))) (beside-rule k) (parent-rule b small len k)
      ∙ ap (λ (m : Option Perch). cond (eqb k top) None (option_or (perch_of b len (beside_by b len last k)) m)) (climbed-rule f top (parent_by b len k))
      ∙ moved-choice (eqb k top) (beside_by b len last k) (climbed_from b len last top f (parent_by b len k))

  climb-rule : (top k : ℕ) → climb_from b len last top (perch_at b len k) ≡ perch_of b len (climb_by b len last top k)
  unfolding climb_from climb_by
  climb-rule top k = climbed-rule (suc k) top (Some k)

  pub advance-rule : (top k : ℕ) → advance_from b len last top (perch_at b len k) ≡ perch_of b len (advance_by b len last top k)
  unfolding advance_by
  advance-rule top k =
      ap₂ option_or (first-rule k) (climb-rule top k)
      ∙ moved-choice false (first_by b len last k) (climb_by b len last top k)

-- ---- what a move tells

-- the next node, as a perch that knows its one
pub record MovedTold (b : ℕ → ℕ) (len : ℕ) (o : Option ℕ) (t : Perch) : Type 0 where
  pub node : o ≡ Some t.node
  pub knows : t ≡ perch_at b len t.node

module _ (b : ℕ → ℕ) (small : (i : ℕ) → b i ≤ 1) (len last top : ℕ) (at : Perch) (known : at ≡ perch_at b len at.node) (r : Option Perch) (e : r ≡ advance_from b len last top at) where
  moved-is : perch_of b len (advance_by b len last top at.node) ≡ r
  moved-is = sym (e ∙ ap (advance_from b len last top) known ∙ advance-rule b small len last top at.node)

  pub moved_to : (t : Perch) → r ≡ Some t → MovedTold b len (advance_by b len last top at.node) t
  moved_to t f = go (advance_by b len last top at.node) (moved-is ∙ f)
    where
      go : (o : Option ℕ) → perch_of b len o ≡ Some t → MovedTold b len o t
      go None g = let z : ◌≡◌ {A = ℕ} 0 1 = cc in absurd (omega arith)
      go (Some k) g =
          let same : perch_at b len k ≡ t = cc in
          rw (← same) (record { node = refl; knows = refl })

  pub moved-lost : r ≡ None → advance_by b len last top at.node ≡ None
  moved-lost f = go (advance_by b len last top at.node) (moved-is ∙ f)
    where
      go : (o : Option ℕ) → perch_of b len o ≡ None → o ≡ None
      go None g = refl
      go (Some k) g = let z : ◌≡◌ {A = ℕ} 0 1 = cc in absurd (omega arith)
