-- The steps in byte order by their cases, on any bits.
--
--     one_behind-far, -inside, -told  a one right behind a place
--     first-lost, first-at            the first child, by the node's zero; `first_run`: by the node's run
--     beside-lost, beside_at          the next sibling, by the node's one
--     climbed-top, climbed-on         a climb, by whether it is at the top
--     next-starts                     a search, and `sought-done`, `-lost`, `-value`, `-on`: by what is left and where
--                                     it is
-- Assumes nothing.
use mathlib.Core.Path.{◌≡◌, refl, sym, ap, ap₂, ◌∙◌}
use Prim.Native.Nat.{ℕ, zero, suc, ◌+◌, ◌-◌, ◌≤◌, ◌<◌}
use native.Mathlib.Nat.{lt_of_not-le}
use native.Mathlib.Decide.{dec_le}
use native.Mathlib.Omega.{arith}
use mathlib.Core.Bool.{Bool, true, false, true≢false, cond, ◌&&◌}
use mathlib.Core.List.{List}
use Rattle.std.specs.Prelude.{Option, None, Some, unwrap_or}
use Rattle.std.specs.Option.{option_or}
use lib.ListN.{length}
use lib.Dec.{eqb, ltb}
use borrow.Author.Tests.{lt-ltb, le-ltb, eq-eqb, ne_eqb, eqb-true}
use Rattle.keymap.specs.Bits.{sum_below}
use Rattle.keymap.proofs.Laws.Sums.{sum_below-mono, sum_below-next}
use Rattle.louds.specs.Rank.{gap}
use Rattle.louds.specs.Select.{one_at, zero_at}
use Rattle.louds.specs.Nodes.{Run, children_of}
use Rattle.louds.proofs.Laws.Rank.{gap-small, bit-gap}
use Rattle.louds.proofs.Laws.Select.{Stands, rank-kth, kth-missing, kth-mono}
use Rattle.louds.proofs.Laws.Nodes.{children-none, children-at}
use Rattle.walks.specs.Rule.{value_of_node}
use Rattle.walks.specs.Rule.{counts_to}
use Rattle.climbs.specs.Perches.{parent_by}
use Rattle.climbs.specs.Order.{first_of, first_by, one_behind, beside_of, beside_by, climbed_from, advance_by, with_value, sought_from, next_by}

-- ---- numbers and places

module _ (b : ℕ → ℕ) (len p : ℕ) where
  pub one_behind-far : len ≤ p + 1 → one_behind b len p ≡ false
  unfolding one_behind
  one_behind-far h = rw (le-ltb (p + 1) len h)

  pub one_behind-inside : p + 1 < len → one_behind b len p ≡ eqb (b (p + 1)) 1
  unfolding one_behind
  one_behind-inside h = rw (lt-ltb (p + 1) len h)

  pub one_behind-told : one_behind b len p ≡ true → (p + 1 < len) × (b (p + 1) ≡ 1)
  one_behind-told e = go (dec_le len (p + 1))
    where
      go : Dec (len ≤ p + 1) → (p + 1 < len) × (b (p + 1) ≡ 1)
      go (yes l) = absurd (true≢false (sym e ∙ one_behind-far l))
      go (no l) = (lt_of_not-le l, eqb-true (b (p + 1)) 1 (sym (one_behind-inside (lt_of_not-le l)) ∙ e))

-- ---- the first child

module _ (b : ℕ → ℕ) (small : (i : ℕ) → b i ≤ 1) (len last : ℕ) where
  pub first-lost : (k : ℕ) → zero_at b len k ≡ None → first_by b len last k ≡ None
  unfolding first_by
  first-lost k e = ap (first_of last k) (children-none b len k e)

  -- node k has children exactly if a one stands right behind its zero
  run-behind : (k z : ℕ) → zero_at b len k ≡ Some z → ltb 0 (unwrap_or (zero_at b len (k + 1)) len - (z + 1)) ≡ one_behind b len z
  run-behind k z e = go (zero_at b len (k + 1)) refl
    where
      s : Stands (gap b) len k z
      s = rank-kth (gap b) (gap-small b) len k z e

      -- with a zero right behind it there are k + 1
      zeros : ¬ (b (z + 1) ≡ 1) → sum_below (gap b) (z + 1 + 1) ≡ k + 1
      zeros h = omega (arith, sum_below-next (gap b) z, sum_below-next (gap b) (z + 1), s.rank, s.marked, h, small (z + 1), bit-gap b small (z + 1))

      -- up to the stop there are k, so the bit before it is a one
      more : (stop : ℕ) → z + 1 < stop → stop ≤ len → sum_below (gap b) stop ≤ k → ltb 0 (stop - (z + 1)) ≡ one_behind b len z
      more stop l w few = lt-ltb 0 (stop - (z + 1)) (omega (arith, l)) ∙ sym (one_behind-inside b len z (omega (arith, l, w)) ∙ eq-eqb (b (z + 1)) 1 (one (ℕ-one (b (z + 1)) (small (z + 1)))))
        where
          ℕ-one : (n : ℕ) → n ≤ 1 → Dec (n ≡ 1)
          ℕ-one zero u = no (λ x. omega (arith, x))
          ℕ-one (suc zero) u = yes refl
          ℕ-one (suc (suc n)) u = absurd (omega (arith, u))

          one : Dec (b (z + 1) ≡ 1) → b (z + 1) ≡ 1
          one (yes h) = h
          one (no h) = absurd (omega (arith, zeros h, few, sum_below-mono (gap b) {i = z + 1 + 1} {j = stop} (omega (arith, l))))

      go : (t : Option ℕ) → zero_at b len (k + 1) ≡ t → ltb 0 (unwrap_or (zero_at b len (k + 1)) len - (z + 1)) ≡ one_behind b len z
      go (Some q) f = rw f (near (rank-kth (gap b) (gap-small b) len (k + 1) q f) (dec_le q (z + 1)))
        where
          after : z < q
          after = kth-mono (gap b) (gap-small b) len k (k + 1) z q e f (omega arith)

          near : Stands (gap b) len (k + 1) q → Dec (q ≤ z + 1) → ltb 0 (q - (z + 1)) ≡ one_behind b len z
          near r (yes l) =
              let same : q ≡ z + 1 = omega (arith, l, after) in
              le-ltb 0 (q - (z + 1)) (omega (arith, same))
              ∙ sym (one_behind-inside b len z (omega (arith, same, r.inside)) ∙ ne_eqb (b (z + 1)) 1 (λ h. omega (arith, h, bit-gap b small (z + 1), r.marked, ap (gap b) same)))
          near r (no l) = more q (lt_of_not-le l) (omega (arith, r.inside)) (omega (arith, r.rank))
      go None f = rw f (near (dec_le len (z + 1)))
        where
          near : Dec (len ≤ z + 1) → ltb 0 (len - (z + 1)) ≡ one_behind b len z
          near (yes l) = le-ltb 0 (len - (z + 1)) (omega (arith, l)) ∙ sym (one_behind-far b len z l)
          near (no l) = more len (lt_of_not-le l) (omega arith) (omega (arith, kth-missing (gap b) len (k + 1) (omega arith) f))

  pub first-at : (k z : ℕ) → zero_at b len k ≡ Some z → first_by b len last k ≡ cond (one_behind b len z && counts_to last k (z + 2 - k)) (Some (z + 2 - k)) None
  unfolding first_by
  first-at k z e =
      let s = rank-kth (gap b) (gap-small b) len k z e in
      let number : z + 1 - (k - 1) ≡ z + 2 - k = omega (arith, s.rank) in
      ap (first_of last k) (children-at b small len k z e)
      ∙ ap₂ (λ (t : Bool) (m : ℕ). cond (t && counts_to last k m) (Some m) None) (run-behind k z e) number

pub first_run : (b : ℕ → ℕ) (len last k first count : ℕ) → children_of b len k ≡ Run first count
    → first_by b len last k ≡ cond (ltb 0 count && counts_to last k first) (Some first) None
unfolding first_by
first_run b len last k first count e = ap (first_of last k) e

-- ---- the next sibling

module _ (b : ℕ → ℕ) (len last k : ℕ) where
  pub beside-lost : one_at b len k ≡ None → beside_by b len last k ≡ None
  unfolding beside_by
  beside-lost e = ap (beside_of b len last k) e

  pub beside_at : (p : ℕ) → one_at b len k ≡ Some p → beside_by b len last k ≡ cond (ltb k last && one_behind b len p) (Some (k + 1)) None
  unfolding beside_by
  beside_at p e = ap (beside_of b len last k) e

-- ---- climbs

module _ (b : ℕ → ℕ) (len last top k : ℕ) where
  pub climbed-top : (left : ℕ) → k ≡ top → climbed_from b len last top left (Some k) ≡ None
  unfolding climbed_from
  climbed-top zero h = refl
  climbed-top (suc left) h = rw (eq-eqb k top h)

  pub climbed-on : (left : ℕ) → ¬ (k ≡ top) → climbed_from b len last top (suc left) (Some k) ≡ option_or (beside_by b len last k) (climbed_from b len last top left (parent_by b len k))
  unfolding climbed_from
  climbed-on left h = rw (ne_eqb k top h)

-- ---- searches

module _ (ls vs : List ℕ) (b : ℕ → ℕ) (len top : ℕ) where
  pub next-starts : (k : ℕ) → next_by ls vs b len top k ≡ sought_from ls vs b len top (length ls + 1) (advance_by b len (length ls + 1) top k)
  unfolding next_by
  next-starts k = refl

  pub sought-done : (o : Option ℕ) → sought_from ls vs b len top 0 o ≡ None
  unfolding sought_from
  sought-done o = refl

  pub sought-lost : (left : ℕ) → sought_from ls vs b len top left None ≡ None
  unfolding sought_from
  sought-lost zero = refl
  sought-lost (suc left) = refl

  pub sought-value : (left k v : ℕ) → 0 < left → value_of_node ls vs k ≡ Some v → sought_from ls vs b len top left (Some k) ≡ Some (k, v)
  unfolding sought_from
  sought-value zero k v l e = absurd (omega arith)
  sought-value (suc left) k v l e = ap (λ (o : Option ℕ). option_or (with_value k o) (sought_from ls vs b len top left (advance_by b len (length ls + 1) top k))) e

  pub sought-on : (left k : ℕ) → 0 < left → value_of_node ls vs k ≡ None
      → sought_from ls vs b len top left (Some k) ≡ sought_from ls vs b len top (left - 1) (advance_by b len (length ls + 1) top k)
  unfolding sought_from
  sought-on zero k l e = absurd (omega arith)
  sought-on (suc left) k l e =
      let back : suc left - 1 ≡ left = omega arith in
      ap (λ (o : Option ℕ). option_or (with_value k o) (sought_from ls vs b len top left (advance_by b len (length ls + 1) top k))) e
      ∙ ap (λ (n : ℕ). sought_from ls vs b len top n (advance_by b len (length ls + 1) top k)) (sym back)
