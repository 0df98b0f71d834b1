-- A stand that knows its zero goes where the rule goes, on any bits: the zero behind the children is the next node's, and a child's zero lies ahead.
--
--     is_stand-far, -node             a place, by whether it is inside; `is_stand-told`: what the test tells
--     kids_from-none, kids_from-some  the children of a stand, by that test
--     kids-numbered                   their numbers
--     kids-rule                       they are the node's
--     kids-lost, kids-run             the same by what louds answers of the node, and where the zero behind them is
--     zero-near                       a zero from a place on, by the zeros before that
--     kid-rule                        the stand at a child
--     down_rule, along-rule           one step down, and all steps of a query
--     down_along-next, -over, -lost   these steps in turn
-- Assumes nothing.
use mathlib.Core.Path.{◌≡◌, refl, sym, ap, ◌∙◌}
use Prim.Native.Nat.{ℕ, zero, suc, ◌+◌, ◌-◌, ◌≤◌, ◌<◌}
use native.Mathlib.Nat.{lt_of_not-le}
use native.Mathlib.Decide.{dec_le}
use native.Mathlib.Numerals.{add-one}
use native.Mathlib.Omega.{arith}
use mathlib.Core.Bool.{Bool, true, false, true≢false}
use mathlib.Core.List.{List, [], ◌∷◌}
use Rattle.std.specs.Prelude.{Option, None, Some, unwrap_or}
use lib.Dec.{ltb, leb}
use lib.ListN.{length, get_or, drop}
use lib.Seq.{drop-cons}
use borrow.Author.Tests.{lt-ltb, le-ltb, le-leb, ltb-true, leb-true}
use Rattle.louds.specs.Rank.{gap}
use Rattle.louds.specs.Select.{onward, zero_at, zero_from}
use Rattle.louds.specs.Nodes.{Run, children_of}
use Rattle.louds.proofs.Laws.Rank.{gap-small, ones-zeros}
use Rattle.louds.proofs.Laws.Select.{Stands, kth-zero, kth-told, onward-before, rank-kth, kth-missing, kth-next, kth-onward}
use Rattle.louds.proofs.Laws.Nodes.{children-none, children-at, children-told}
use Rattle.keymap.specs.Key.{Key}
use Rattle.keymap.specs.Bits.{sum_below}
use Rattle.keymap.proofs.Laws.Sums.{sum_below-mono, sum_below-next}
use Rattle.walks.specs.declared.stands.Stand.{Stand}
use Rattle.walks.specs.declared.answers.Kids.{Kids}
use Rattle.walks.specs.Rule.{lowest_by, child_by, walked_from}
use Rattle.walks.specs.Stands.{stand_at, is_stand, next_zero, kids_from, kid_from, to_kid, down_from, down_along, reached_at}
use Rattle.walks.proofs.Laws.Rule.{is_child_by-told, LowestTold, found, missed, lowest-told, lowest_by-end, child_by-none, child_by-run}

-- ---- the test of a place

module _ (len k p : ℕ) where
  pub is_stand-far : len ≤ p → is_stand len k p ≡ false
  unfolding is_stand
  is_stand-far h = rw (le-ltb p len h)

  module _ (inside : p < len) where
    pub is_stand-node : ¬ (k ≡ 0) → is_stand len k p ≡ leb k (p + 1)
    unfolding is_stand
    is_stand-node h = rw (lt-ltb p len inside, le-leb 1 k (omega arith))

-- ---- children

module _ (b : ℕ → ℕ) (len : ℕ) (s : Stand) where
  pub kids_from-none : is_stand len s.node s.zero ≡ false → kids_from b len s ≡ record { first = 0; count = 0; next = len }
  unfolding kids_from
  kids_from-none e = rw e

  pub kids_from-some : is_stand len s.node s.zero ≡ true
      → kids_from b len s ≡ record { first = s.zero + 1 - (s.node - 1); count = next_zero b len s.zero - (s.zero + 1); next = next_zero b len s.zero }
  unfolding kids_from
  kids_from-some e = rw e

pub kid_from-below : (b : ℕ → ℕ) (len k next m : ℕ) → m < k → kid_from b len k next m ≡ record { node = m; zero = len }
unfolding kid_from
kid_from-below b len k next m h =
    let none_left : m - k ≡ 0 = omega arith in
    let z : unwrap_or (zero_from b len next (m - k)) len ≡ len = ap (λ (o : Option ℕ). unwrap_or o len) (ap (zero_from b len next) none_left ∙ kth-zero (onward next (gap b)) len) in
    λ x. record { node = m; zero = z x }

-- the stand test, told
pub is_stand-told : (len k p : ℕ) → is_stand len k p ≡ true → (p < len) × (1 ≤ k) × (k ≤ p + 1)
unfolding is_stand
is_stand-told len k p e = go (ltb p len) refl (leb 1 k) refl (leb k (p + 1)) refl
  where
    never : is_stand len k p ≡ false → ⊥
    never f = true≢false (sym e ∙ f)

    go : (s : Bool) → ltb p len ≡ s → (t : Bool) → leb 1 k ≡ t → (u : Bool) → leb k (p + 1) ≡ u → (p < len) × (1 ≤ k) × (k ≤ p + 1)
    go true f true g true h = (ltb-true _ _ f, leb-true _ _ g, leb-true _ _ h)
    go true f true g false h = absurd (never (rw (f, g, h)))
    go true f false g u h = absurd (never (rw (f, g)))
    go false f t g u h = absurd (never (rw f))

-- the next zero, or the end, is behind
pub next_zero-ahead : (b : ℕ → ℕ) (len p : ℕ) → p < len → p + 1 ≤ next_zero b len p
next_zero-ahead b len p h = go (zero_from b len (p + 1) 1) refl
  where
    go : (t : Option ℕ) → zero_from b len (p + 1) 1 ≡ t → p + 1 ≤ unwrap_or (zero_from b len (p + 1) 1) len
    go (Some q) e = rw e (far (dec_le (p + 1) q))
      where
        far : Dec (p + 1 ≤ q) → p + 1 ≤ q
        far (yes l) = l
        far (no l) = absurd (omega (arith, kth-told (onward (p + 1) (gap b)) len 1 q e, onward-before (gap b) (p + 1) q (lt_of_not-le l)))
    go None e = rw e (omega arith)

next_zero-within : (b : ℕ → ℕ) (len p : ℕ) → next_zero b len p ≤ len
next_zero-within b len p = go (zero_from b len (p + 1) 1) refl
  where
    go : (t : Option ℕ) → zero_from b len (p + 1) 1 ≡ t → unwrap_or (zero_from b len (p + 1) 1) len ≤ len
    go (Some q) e = rw e (omega (arith, (kth-told (onward (p + 1) (gap b)) len 1 q e).inside))
    go None e = rw e (omega arith)

-- the numbers of the children: none where the first is 0, and else inside the bits
pub record Numbered (first count len : ℕ) : Type 0 where
  pub bare : first ≡ 0 → count ≡ 0
  pub within : first + count ≤ len + 1

pub kids-numbered : (b : ℕ → ℕ) (len : ℕ) (s : Stand) → Numbered (kids_from b len s).first (kids_from b len s).count len
kids-numbered b len s = go (is_stand len s.node s.zero) refl
  where
    go : (t : Bool) → is_stand len s.node s.zero ≡ t → Numbered (kids_from b len s).first (kids_from b len s).count len
    go true e =
        let t = is_stand-told len s.node s.zero e in
        let r = kids_from-some b len s e in
        let first : (kids_from b len s).first ≡ s.zero + 1 - (s.node - 1) = ap (λ (c : Kids). c.first) r in
        let count : (kids_from b len s).count ≡ next_zero b len s.zero - (s.zero + 1) = ap (λ (c : Kids). c.count) r in
        record { bare = λ z. absurd (omega (arith, z, first, t)); within = omega (arith, first, count, t, next_zero-within b len s.zero) }
    go false e =
        let r = kids_from-none b len s e in
        let first : (kids_from b len s).first ≡ 0 = ap (λ (c : Kids). c.first) r in
        let count : (kids_from b len s).count ≡ 0 = ap (λ (c : Kids). c.count) r in
        record { bare = λ z. count; within = omega (arith, first, count) }

-- ---- a stand that knows its zero

-- a zero from a place on, by the zeros before that
pub zero-near : (b : ℕ → ℕ) (len from left k : ℕ) → 0 < left → sum_below (gap b) from + left ≡ k → zero_from b len from left ≡ zero_at b len k
zero-near b len from left k l sum = kth-onward (gap b) from len left l ∙ ap (zero_at b len) sum

module _ (b : ℕ → ℕ) (small : (i : ℕ) → b i ≤ 1) (len : ℕ) where
  -- where node k's zero is missing it has no children, as the rule says
  lost : (k : ℕ) → zero_at b len k ≡ None → kids_from b len (stand_at b len k) ≡ record { first = 0; count = 0; next = len }
  lost k e = kids_from-none b len (stand_at b len k) (is_stand-far len k (unwrap_or (zero_at b len k) len) (rw e (omega arith)))

  -- the zero of node k is there: the next one, and the children by the two
  record Here (k p : ℕ) : Type 0 where
    test : is_stand len k p ≡ true
    next : next_zero b len p ≡ unwrap_or (zero_at b len (k + 1)) len
    rank : sum_below (gap b) p + 1 ≡ k
    inside : p < len

  here : (k p : ℕ) → zero_at b len k ≡ Some p → Here k p
  here k p e =
      let s = rank-kth (gap b) (gap-small b) len k p e in
      record {
        test = is_stand-node len k p s.inside (omega (arith, s)) ∙ le-leb k (p + 1) (omega (arith, s, ones-zeros b small p));
        next = ap (λ (o : Option ℕ). unwrap_or o len) (kth-next (gap b) (gap-small b) len k 1 p e (omega arith));
        rank = s.rank;
        inside = s.inside;
      }

  -- how many zeros stand before the zero behind the children, or before the end
  zeros-before : (k p : ℕ) → zero_at b len k ≡ Some p → sum_below (gap b) (unwrap_or (zero_at b len (k + 1)) len) ≡ k
  zeros-before k p e = go (zero_at b len (k + 1)) refl
    where
      s : Stands (gap b) len k p
      s = rank-kth (gap b) (gap-small b) len k p e

      go : (t : Option ℕ) → zero_at b len (k + 1) ≡ t → sum_below (gap b) (unwrap_or (zero_at b len (k + 1)) len) ≡ k
      go (Some q) f = rw f (omega (arith, rank-kth (gap b) (gap-small b) len (k + 1) q f))
      go None f =
          rw f
          (omega (arith, kth-missing (gap b) len (k + 1) (omega arith) f, sum_below-mono (gap b) {i = p + 1} {j = len} (omega (arith, s.inside)), sum_below-next (gap b) p, s.rank, s.marked))

  -- the children of a stand are its node's
  pub kids-rule : (k p : ℕ) → zero_at b len k ≡ Some p
      → kids_from b len (stand_at b len k)
      ≡ record { first = p + 1 - (k - 1); count = unwrap_or (zero_at b len (k + 1)) len - (p + 1); next = unwrap_or (zero_at b len (k + 1)) len }
  kids-rule k p e =
      let h = here k p e in
      let s : Stand = record { node = k; zero = p } in
      let z : unwrap_or (zero_at b len k) len ≡ p = ap (λ (o : Option ℕ). unwrap_or o len) e in
      ap (kids_from b len) (λ x. record { node = k; zero = z x })
      ∙ kids_from-some b len s h.test
      ∙ (λ x. record { first = p + 1 - (k - 1); count = h.next x - (p + 1); next = h.next x })

  pub kids-lost : (k : ℕ) → children_of b len k ≡ None → kids_from b len (stand_at b len k) ≡ record { first = 0; count = 0; next = len }
  kids-lost k e = go (zero_at b len k) refl
    where
      go : (t : Option ℕ) → zero_at b len k ≡ t → kids_from b len (stand_at b len k) ≡ record { first = 0; count = 0; next = len }
      go (Some p) f = let r = children-at b small len k p f in let z : ◌≡◌ {A = ℕ} 0 1 = cc in absurd (omega arith)
      go None f = lost k f

  -- before the zero behind them, or the end, stand the ones of all numbers up to their last, and the zeros of k nodes
  pub record RunTold (k f c : ℕ) : Type 0 where
    pub kids : kids_from b len (stand_at b len k) ≡ record { first = f; count = c; next = k + f + c - 1 }
    pub within : k + f + c ≤ len + 1

  pub kids-run : (k f c : ℕ) → children_of b len k ≡ Run f c → RunTold k f c
  kids-run k f c e =
      let (p, r) = children-told b small len k f c e in
      let h = here k p r.answer in
      let stop : ℕ = unwrap_or (zero_at b len (k + 1)) len in
      let next : stop ≡ k + f + c - 1 = omega (arith, r.starts, r.size, h.rank, h.next, next_zero-ahead b len p h.inside, ones-zeros b small p) in
      record {
        kids = kids-rule k p r.answer ∙ (λ x. record { first = sym r.starts x; count = sym r.size x; next = next x });
        within = omega (arith, next, h.next, next_zero-within b len p);
      }

  -- the child m of k, from the zero behind k's children on
  pub kid-rule : (k p m : ℕ) → zero_at b len k ≡ Some p → k < m → kid_from b len k (unwrap_or (zero_at b len (k + 1)) len) m ≡ stand_at b len m
  unfolding kid_from
  kid-rule k p m e l =
      let next : ℕ = unwrap_or (zero_at b len (k + 1)) len in
      let z : zero_from b len next (m - k) ≡ zero_at b len m = zero-near b len next (m - k) m (omega arith) (omega (arith, zeros-before k p e)) in
      λ x. record { node = m; zero = unwrap_or (z x) len }

  -- one step down goes where the rule goes
  pub down_rule : (ls : List ℕ) (k a : ℕ) → down_from ls b len (stand_at b len k) a ≡ reached_at b len (child_by ls b len k a)
  unfolding down_from
  down_rule ls k a = go (zero_at b len k) refl
    where
      -- the stand at a child that was found
      kid : (p left m : ℕ) → zero_at b len k ≡ Some p → (o : Option ℕ) → LowestTold ls k left m a o → to_kid b len k (unwrap_or (zero_at b len (k + 1)) len) o ≡ reached_at b len o
      kid p left m e _ (found c l u f) = ap Some (kid-rule k p c e (is_child_by-told ls k c a f).above)
      kid p left m e _ (missed f) = refl

      go : (t : Option ℕ) → zero_at b len k ≡ t → down_from ls b len (stand_at b len k) a ≡ reached_at b len (child_by ls b len k a)
      go (Some p) e =
          let h = here k p e in
          let next : ℕ = unwrap_or (zero_at b len (k + 1)) len in
          let first : ℕ = p + 1 - (k - 1) in
          let count : ℕ = next - (p + 1) in
          ap (λ (c : Kids). to_kid b len k c.next (lowest_by ls k c.count c.first a)) (kids-rule k p e)
          ∙ kid p count first e (lowest_by ls k count first a) (lowest-told count ls k first a)
          ∙ ap (reached_at b len) (sym (child_by-run ls b len k a first count (children-at b small len k p e)))
      go None e =
          ap (λ (c : Kids). to_kid b len k c.next (lowest_by ls k c.count c.first a)) (lost k e)
          ∙ ap (to_kid b len k len) (lowest_by-end ls k 0 a)
          ∙ ap (reached_at b len) (sym (child_by-none ls b len k a (children-none b len k e)))

  -- and all steps of a query
  pub along-rule : (ls : List ℕ) (q : Key) (o : Option ℕ) → down_along ls b len q (reached_at b len o) ≡ reached_at b len (walked_from ls b len q o)
  unfolding down_along walked_from
  along-rule ls [] o = refl
  along-rule ls (a ∷ q) None = along-rule ls q None
  along-rule ls (a ∷ q) (Some k) = ap (down_along ls b len q) (down_rule ls k a) ∙ along-rule ls q (child_by ls b len k a)

-- ---- a walk along a query, from behind its first j bytes on

drop-none : (j : ℕ) → drop {A = ℕ} j [] ≡ []
drop-none zero = refl
drop-none (suc j) = refl

drop-over : (j : ℕ) (q : Key) → length q ≤ j → drop j q ≡ []
drop-over j [] h = drop-none j
drop-over zero (a ∷ q) h = absurd (omega arith)
drop-over (suc j) (a ∷ q) h = drop-over j q (omega arith)

module _ (ls : List ℕ) (b : ℕ → ℕ) (len : ℕ) where
  pub down_along-next : (q : Key) (j : ℕ) (s : Stand) → j < length q
      → down_along ls b len (drop j q) (Some s) ≡ down_along ls b len (drop (j + 1) q) (down_from ls b len s (get_or q j 0))
  unfolding down_along
  down_along-next q j s h =
      ap (λ (r : Key). down_along ls b len r (Some s)) (drop-cons q j 0 h)
      ∙ ap (λ (n : ℕ). down_along ls b len (drop n q) (down_from ls b len s (get_or q j 0))) (sym (add-one j))

  pub down_along-over : (q : Key) (j : ℕ) (at : Option Stand) → length q ≤ j → down_along ls b len (drop j q) at ≡ at
  unfolding down_along
  down_along-over q j at h = ap (λ (r : Key). down_along ls b len r at) (drop-over j q h)

  pub down_along-lost : (q : Key) → down_along ls b len q None ≡ None
  unfolding down_along
  down_along-lost [] = refl
  down_along-lost (a ∷ q) = down_along-lost q

-- what an answer tells
pub record ReachedTold (b : ℕ → ℕ) (len : ℕ) (o : Option ℕ) (t : Stand) : Type 0 where
  pub node : o ≡ Some t.node
  pub knows : t ≡ stand_at b len t.node

pub reached_at-to : (b : ℕ → ℕ) (len : ℕ) (o : Option ℕ) (t : Stand) → reached_at b len o ≡ Some t → ReachedTold b len o t
reached_at-to b len None t e = let z : ◌≡◌ {A = ℕ} 0 1 = cc in absurd (omega arith)
reached_at-to b len (Some k) t e =
    let same : stand_at b len k ≡ t = cc in
    rw (← same) (record { node = refl; knows = refl })

pub reached_at-lost : (b : ℕ → ℕ) (len : ℕ) (o : Option ℕ) → reached_at b len o ≡ None → o ≡ None
reached_at-lost b len None e = refl
reached_at-lost b len (Some k) e = let z : ◌≡◌ {A = ℕ} 0 1 = cc in absurd (omega arith)

module _ (ls : List ℕ) (b : ℕ → ℕ) (len : ℕ) (s : Stand) (a : ℕ) where
  pub down_from-absent : lowest_by ls s.node (kids_from b len s).count (kids_from b len s).first a ≡ None → down_from ls b len s a ≡ None
  unfolding down_from
  down_from-absent e = ap (to_kid b len s.node (kids_from b len s).next) e
