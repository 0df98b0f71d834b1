-- Children and parents, of any bits b that are 0 or 1. Between the k-th zero and the next stand only ones, and k zeros stand before each of them;
-- so their numbers run on, and each one's parent is k. The other way, a one with k zeros before it lies between these two.
--
--     run-first, -count  equal runs have equal numbers
--     children-none     no k-th zero, no node
--     children-found    a k-th zero: the definition's run
--     children-at       the run of node k by the places of the two zeros
--     children-to-zero  the same where there is a next zero, which stands behind the k-th
--     children-to-end   and where there is none
--     children-told     what a run tells of the zero before it
--     parent-none       no m-th one, no node
--     parent-found      an m-th one: the definition's count
--     parent-at         the parent by the place of the m-th one
--     parent-told       what a parent's number tells of that one
--     parent-of-child   each number of node k's run is a node whose parent is k
--     child-of-parent   a node whose parent is k, which is not 0, is in node k's run
--     sibling-behind    a node has a next sibling exactly if a one stands right behind its own
--     children-follow   the run of node k + 1 begins where that of node k ends
--     children-within   the numbers of a run are those of ones
--     children-agree    only the first len bits matter
--
-- Assumes nothing.
use Rattle.std.specs.Prelude.{None, Option, Some, unwrap_or}
use Rattle.std.proofs.Common.{◌≡◌, ℕ, ◌+◌, ◌-◌, ◌<◌, ◌≤◌, ◌⊎◌, ◌↔◌, sym, refl, ap, ◌∙◌, subst, ap₂, inl, inr, ⊎_elim, le_trans, le_refl, le_of_lt, eq-or-lt_of_le, lt_of_not-le, arith}
use Rattle.keymap.proofs.Laws.Sums.{sum_below-next, sum_below-mono, sum_below-lt, sum_below-ext}
use Rattle.std.proofs.lemmas.Option.{none-some, same_Some}
use Rattle.louds.specs.declared.answers.Children.{Children}
use Rattle.louds.specs.Rank.{gap, ones_before, zeros_before}
use Rattle.louds.specs.Select.{kth, zero_at, one_at}
use Rattle.louds.specs.Nodes.{Run, run_from, children_of, up_from, parent_of}
use Rattle.louds.proofs.Laws.Rank.{gap-small, gap-ext, bit-gap, ones-zeros}
use Rattle.louds.proofs.Laws.Select.{Found, Short, Stands, kth-find, kth-told, kth-missing, kth-ext, kth-rank, rank-kth}

-- ---- equal answers have equal numbers
pub run-first : (f c g d : ℕ) → Run f c ≡ Run g d → f ≡ g
run-first f c g d e = ap (λ (x : Children). x.first) (same_Some _ _ e)

pub run-count : (f c g d : ℕ) → Run f c ≡ Run g d → c ≡ d
run-count f c g d e = ap (λ (x : Children). x.count) (same_Some _ _ e)

-- ---- equations by case
module _ (b : ℕ → ℕ) (len : ℕ) where
  pub children-none : (k : ℕ) → zero_at b len k ≡ None → children_of b len k ≡ None
  unfolding children_of run_from
  children-none k e = rw e

  pub children-found : (k p : ℕ) → zero_at b len k ≡ Some p
      → children_of b len k ≡ Run (ones_before b p + 1) (ones_before b (unwrap_or (zero_at b len (k + 1)) len) - ones_before b p)
  unfolding children_of run_from
  children-found k p e = rw e

  pub parent-none : (m : ℕ) → one_at b len m ≡ None → parent_of b len m ≡ None
  unfolding parent_of up_from
  parent-none m e = rw e

  pub parent-found : (m p : ℕ) → one_at b len m ≡ Some p → parent_of b len m ≡ Some (zeros_before b p)
  unfolding parent_of up_from
  parent-found m p e = rw e

module _ (b : ℕ → ℕ) (small : (i : ℕ) → b i ≤ 1) (len : ℕ) where
  -- the run after the k-th zero, at p, stops at the next zero or at the end, with k zeros before it
  pub record Stops (k p stop : ℕ) : Type 0 where
    pub past : p < stop
    pub within : stop ≤ len
    pub zeros : zeros_before b stop ≡ k
    pub ends : (stop ≡ len) ⊎ (gap b stop ≡ 1)

  pub stops : (k p : ℕ) → zero_at b len k ≡ Some p → Stops k p (unwrap_or (zero_at b len (k + 1)) len)
  stops k p e = go (rank-kth (gap b) (gap-small b) len k p e) (zero_at b len (k + 1)) refl
    where
      go : Stands (gap b) len k p → (t : Option ℕ) → zero_at b len (k + 1) ≡ t → Stops k p (unwrap_or (zero_at b len (k + 1)) len)
      go s (Some q) t =
          let r = rank-kth (gap b) (gap-small b) len (k + 1) q t in
          rw t (record { past = sum_below-lt (gap b) p q (omega (arith, s, r)); within = le_of_lt r.inside; zeros = omega (arith, r); ends = inr r.marked })
      go s None t =
          let few = kth-missing (gap b) len (k + 1) (omega arith) t in
          let many = sum_below-mono (gap b) {i = p + 1} {j = len} (omega (arith, s)) in
          rw t (record { past = s.inside; within = le_refl len; zeros = omega (arith, few, many, s, sum_below-next (gap b) p); ends = inl refl })

  pub children-at : (k p : ℕ) → zero_at b len k ≡ Some p → children_of b len k ≡ Run ((p + 1) - (k - 1)) (unwrap_or (zero_at b len (k + 1)) len - (p + 1))
  children-at k p e =
      let s = rank-kth (gap b) (gap-small b) len k p e in
      let stop = unwrap_or (zero_at b len (k + 1)) len in
      let t = stops k p e in
      children-found b len k p e ∙ ap₂ Run (omega (arith, s, ones-zeros b small p)) (omega (arith, s, t, ones-zeros b small p, ones-zeros b small stop))

  pub children-to-zero : (k p q : ℕ) → zero_at b len k ≡ Some p → zero_at b len (k + 1) ≡ Some q → (p < q) × (children_of b len k ≡ Run ((p + 1) - (k - 1)) (q - (p + 1)))
  children-to-zero k p q e f = (rw f at (stops k p e).past, rw f at (children-at k p e))

  pub children-to-end : (k p : ℕ) → zero_at b len k ≡ Some p → zero_at b len (k + 1) ≡ None → children_of b len k ≡ Run ((p + 1) - (k - 1)) (len - (p + 1))
  children-to-end k p e f = rw f at (children-at k p e)

  pub parent-at : (m p : ℕ) → one_at b len m ≡ Some p → parent_of b len m ≡ Some (p - (m - 1))
  parent-at m p e = let s = rank-kth b small len m p e in parent-found b len m p e ∙ ap Some (omega (arith, s, ones-zeros b small p))

  -- ---- what the answers tell

  pub record RunAt (k first count p : ℕ) : Type 0 where
    pub answer : zero_at b len k ≡ Some p
    pub starts : first ≡ (p + 1) - (k - 1)
    pub size : count ≡ unwrap_or (zero_at b len (k + 1)) len - (p + 1)

  pub children-told : (k f c : ℕ) → children_of b len k ≡ Run f c → (p : ℕ) × RunAt k f c p
  children-told k f c e = go (zero_at b len k) refl
    where
      go : (t : Option ℕ) → zero_at b len k ≡ t → (p : ℕ) × RunAt k f c p
      go (Some p) q = let r = children-at k p q in (p, record { answer = q; starts = run-first _ _ _ _ (sym e ∙ r); size = run-count _ _ _ _ (sym e ∙ r) })
      go None q = absurd (none-some _ (sym (children-none b len k q) ∙ e))

  pub record UpAt (m k q : ℕ) : Type 0 where
    pub answer : one_at b len m ≡ Some q
    pub zeros : zeros_before b q ≡ k

  pub parent-told : (m k : ℕ) → parent_of b len m ≡ Some k → (q : ℕ) × UpAt m k q
  parent-told m k e = go (one_at b len m) refl
    where
      go : (t : Option ℕ) → one_at b len m ≡ t → (q : ℕ) × UpAt m k q
      go (Some q) h =
          let r = parent-at m q h in
          let z : k ≡ q - (m - 1) = cc in
          let s = rank-kth b small len m q h in
          (q, record { answer = h; zeros = omega (arith, z, s, ones-zeros b small q) })
      go None h = absurd (none-some _ (sym (parent-none b len m h) ∙ e))

  -- ---- children and parents undo each other

  pub parent-of-child : (k f c m : ℕ) → children_of b len k ≡ Run f c → f ≤ m → m < f + c → parent_of b len m ≡ Some k
  parent-of-child k f c m e lo hi = go (children-told k f c e)
    where
      go : (p : ℕ) × RunAt k f c p → parent_of b len m ≡ Some k
      go r =
          let p : ℕ = r.0 in
          let h = r.1 in
          let s = rank-kth (gap b) (gap-small b) len k p h.answer in
          let t = stops k p h.answer in
          let stop : ℕ = unwrap_or (zero_at b len (k + 1)) len in
          let q : ℕ = p + 1 + (m - f) in
          let inside : q + 1 ≤ stop = omega (arith, h, t) in
          let up = sum_below-mono (gap b) {i = p + 1} {j = q} (omega arith) in
          let next = sum_below-mono (gap b) {i = q + 1} {j = stop} inside in
          let zeros : zeros_before b q ≡ k = omega (arith, up, next, t, s, sum_below-next (gap b) p, sum_below-next (gap b) q) in
          let one : b q ≡ 1 = omega (arith, next, t, zeros, sum_below-next (gap b) q, bit-gap b small q) in
          let rank : ones_before b q + 1 ≡ m = omega (arith, zeros, ones-zeros b small q, ones-zeros b small p, s, h) in
          let at : one_at b len m ≡ Some q = ap (kth b len) (sym rank) ∙ kth-rank b small len q (omega (arith, inside, t)) one in
          parent-at m q at ∙ ap Some (omega (arith, zeros, ones-zeros b small q, rank))

  pub record InRun (k m : ℕ) : Type 0 where
    pub first : ℕ
    pub count : ℕ
    pub answer : children_of b len k ≡ Run first count
    pub low : first ≤ m
    pub high : m < first + count

  pub child-of-parent : (m k : ℕ) → 0 < k → parent_of b len m ≡ Some k → InRun k m
  child-of-parent m k pos e = go (parent-told m k e)
    where
      go : (q : ℕ) × UpAt m k q → InRun k m
      go u = ⊎_elim found (λ s. absurd (short s)) (kth-find (gap b) len k pos)
        where
          q : ℕ
          q = u.0

          one : Stands b len m q
          one = rank-kth b small len m q u.1.answer

          short : Short (gap b) len k → ⊥
          short s = omega (arith, s, u.1.zeros, sum_below-mono (gap b) (le_of_lt one.inside))

          found : (p : ℕ) × Found (gap b) len k p → InRun k m
          found g =
              let p : ℕ = g.0 in
              let at = g.1.answer in
              let s = rank-kth (gap b) (gap-small b) len k p at in
              let t = stops k p at in
              let stop : ℕ = unwrap_or (zero_at b len (k + 1)) len in
              let after : p < q = sum_below-lt (gap b) p q (omega (arith, s, u.1.zeros)) in
              let not-past : stop ≤ q → ⊥ =
              λ l. ⊎_elim (λ end. omega (arith, end, one, l)) (λ z. ⊎_elim (λ same. omega (arith, subst (λ (y : ℕ). gap b y ≡ 1) same z, one, bit-gap b small q)) (λ less. omega (arith, sum_below-mono (gap b) {i = stop + 1} {j = q} (omega (arith, less)), sum_below-next (gap b) stop, z, t, u.1.zeros)) (eq-or-lt_of_le l)) t.ends in
              let before : q < stop = lt_of_not-le not-past in
              record {
                first = (p + 1) - (k - 1);
                count = stop - (p + 1);
                answer = children-at k p at;
                low = omega (arith, after, s, one, ones-zeros b small p, ones-zeros b small q, u.1.zeros);
                high = omega (arith, after, before, s, one, ones-zeros b small p, ones-zeros b small q, u.1.zeros);
              }

  -- the one of node m, a child of k, stands at place k + m - 1
  pub sibling-behind : (k f c m : ℕ) → children_of b len k ≡ Run f c → f ≤ m → m < f + c → (m + 1 < f + c) ↔ ((k + m < len) × (b (k + m) ≡ 1))
  sibling-behind k f c m e lo hi = (there, back)
    where
      own : (q : ℕ) × UpAt m k q
      own = parent-told m k (parent-of-child k f c m e lo hi)

      stands : Stands b len m own.0
      stands = rank-kth b small len m own.0 own.1.answer

      there : m + 1 < f + c → (k + m < len) × (b (k + m) ≡ 1)
      there h =
          let (q, u) = parent-told (m + 1) k (parent-of-child k f c (m + 1) e (omega arith) h) in
          let s = rank-kth b small len (m + 1) q u.answer in
          let at : q ≡ k + m = omega (arith, u.zeros, s.rank, ones-zeros b small q) in
          (omega (arith, at, s.inside), ap b (sym at) ∙ s.marked)

      back : (k + m < len) × (b (k + m) ≡ 1) → m + 1 < f + c
      back (inside, one) =
          let at : k + m ≡ own.0 + 1 = omega (arith, own.1.zeros, stands.rank, ones-zeros b small own.0) in
          let rank : ones_before b (k + m) ≡ m = omega (arith, ap (ones_before b) at, sum_below-next b own.0, stands.rank, stands.marked) in
          let next : one_at b len (m + 1) ≡ Some (k + m) = ap (λ (n : ℕ). one_at b len (n + 1)) (sym rank) ∙ kth-rank b small len (k + m) inside one in
          let up : parent_of b len (m + 1) ≡ Some k = parent-at (m + 1) (k + m) next ∙ ap Some (omega arith) in
          let told = children-told k f c e in
          let pos : 0 < k = omega (arith, rank-kth (gap b) (gap-small b) len k told.0 told.1.answer) in
          let run = child-of-parent (m + 1) k pos up in
          let first : f ≡ run.first = run-first _ _ _ _ (sym e ∙ run.answer) in
          let count : c ≡ run.count = run-count _ _ _ _ (sym e ∙ run.answer) in
          omega (arith, run.high, first, count)

  -- ---- orders

  pub children-follow : (k f c g d : ℕ) → children_of b len k ≡ Run f c → children_of b len (k + 1) ≡ Run g d → g ≡ f + c
  children-follow k f c g d e next =
      let r = children-told k f c e in
      let t = children-told (k + 1) g d next in
      let p : ℕ = r.0 in
      let q : ℕ = t.0 in
      let size : c ≡ q - (p + 1) = r.1.size ∙ ap (λ (x : Option ℕ). unwrap_or x len - (p + 1)) t.1.answer in
      let here = rank-kth (gap b) (gap-small b) len k p r.1.answer in
      let there = rank-kth (gap b) (gap-small b) len (k + 1) q t.1.answer in
      let past = sum_below-lt (gap b) p q (omega (arith, here, there)) in
      omega (arith, r.1.starts, t.1.starts, size, here, there, past, ones-zeros b small p, ones-zeros b small q)

  pub children-within : (k f c : ℕ) → children_of b len k ≡ Run f c → f + c ≤ ones_before b len + 1
  children-within k f c e =
      let r = children-told k f c e in
      let p : ℕ = r.0 in
      let h = r.1 in
      let s = rank-kth (gap b) (gap-small b) len k p h.answer in
      let t = stops k p h.answer in
      let stop : ℕ = unwrap_or (zero_at b len (k + 1)) len in
      omega (arith, h, s, t, ones-zeros b small p, ones-zeros b small stop, sum_below-mono b t.within)

-- ---- bits that agree below len
module _ (b c : ℕ → ℕ) (len : ℕ) (same : (i : ℕ) → i < len → b i ≡ c i) where
  zero_at-agree : (k : ℕ) → zero_at b len k ≡ zero_at c len k
  zero_at-agree k = kth-ext (gap b) (gap c) len k (λ i l. gap-ext b c i i (same i l))

  pub children-agree : (k : ℕ) → children_of b len k ≡ children_of c len k
  children-agree k = go (zero_at b len k) refl
    where
      ones : (p : ℕ) → p ≤ len → ones_before b p ≡ ones_before c p
      ones p h = sum_below-ext b c p (λ j l. same j (le_trans l h))

      within : (t : Option ℕ) → zero_at b len (k + 1) ≡ t → unwrap_or t len ≤ len
      within (Some q) e = le_of_lt (kth-told (gap b) len (k + 1) q e).inside
      within None e = le_refl len

      go : (t : Option ℕ) → zero_at b len k ≡ t → children_of b len k ≡ children_of c len k
      go (Some p) e =
          let stop : ℕ = unwrap_or (zero_at b len (k + 1)) len in
          let start = ones p (le_of_lt (kth-told (gap b) len k p e).inside) in
          let end = ones stop (within (zero_at b len (k + 1)) refl) in
          children-found b len k p e
          ∙ ap₂ Run (omega (arith, start)) (omega (arith, start, end))
          ∙ ap (λ (x : Option ℕ). Run (ones_before c p + 1) (ones_before c (unwrap_or x len) - ones_before c p)) (zero_at-agree (k + 1))
          ∙ sym (children-found c len k p (sym (zero_at-agree k) ∙ e))
      go None e = children-none b len k e ∙ sym (children-none c len k (sym (zero_at-agree k) ∙ e))
