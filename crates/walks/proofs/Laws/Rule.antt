-- R-7's rule by its cases.
--
--     counts_to-low, counts_to-upto  the test of a child's number
--     matches-large, matches-small  an entry, by 512
--     is_child_by-root, -low, -high, -entry  a number, by the first test that fails
--     is_child_by-told, is_child_by-is  and what it is where none does
--     lowest_by-end, -here, -past, -late  the search, by what is left; behind the last node nothing is found
--     lowest-told  what its answer tells
--     child_by-none, child_by-run  the child of a node, by the node's run
--     walked_from-end, -step, -next, -lost  a walk
--     value_of_node-root, -short, -plain, -large, -held  the value of a node
-- Assumes nothing.
use mathlib.Core.Path.{◌≡◌, refl, sym, ap, ◌∙◌}
use Prim.Native.Nat.{ℕ, zero, suc, ◌+◌, ◌-◌, ◌*◌, ◌≤◌, ◌<◌}
use native.Mathlib.Nat.{lt_of_not-le}
use native.Mathlib.Decide.{dec_le}
use native.Mathlib.Numerals.{add-one}
use native.Mathlib.Omega.{arith}
use mathlib.Core.Bool.{Bool, true, false, true≢false}
use mathlib.Core.List.{List, [], ◌∷◌}
use Rattle.std.specs.Prelude.{Option, None, Some}
use lib.ListN.{length, get_or, drop}
use lib.Seq.{drop-cons}
use lib.Dec.{eqb, leb}
use borrow.Author.Tests.{lt-ltb, le-ltb, le-leb, lt-leb, eq-eqb, eqb-true}
use Rattle.keymap.specs.Key.{Key}
use Rattle.keymap.specs.Label.{mark, label_in}
use Rattle.louds.specs.Nodes.{Run}
use Rattle.louds.specs.Nodes.{children_of}
use Rattle.walks.specs.Rule.{counts_to, matches, is_child_by, lowest_by, child_by, step_by, walked_from, value_of_node}

-- ---- numbers

module _ (last k m : ℕ) where
  pub counts_to-low : m ≤ k → counts_to last k m ≡ false
  counts_to-low h = rw (le-ltb k m h)

  pub counts_to-upto : k < m → counts_to last k m ≡ leb m last
  counts_to-upto h = rw (lt-ltb k m h)

-- ---- entries

pub matches-large : (e a : ℕ) → 2 * mark ≤ e → matches e a ≡ false
unfolding matches
matches-large e a h = rw (le-ltb e (2 * mark) h)

pub matches-small : (e a : ℕ) → e < 2 * mark → matches e a ≡ eqb (label_in e) a
unfolding matches
matches-small e a h = rw (lt-ltb e (2 * mark) h)

-- ---- a child by its number

module _ (ls : List ℕ) (k m a : ℕ) where
  pub is_child_by-root : m < 2 → is_child_by ls k m a ≡ false
  unfolding is_child_by
  is_child_by-root h = rw (lt-leb 2 m h)

  module _ (two : 2 ≤ m) where
    pub is_child_by-low : m ≤ k → is_child_by ls k m a ≡ false
    unfolding is_child_by
    is_child_by-low h = rw (le-leb 2 m two, le-ltb k m h)

    module _ (above : k < m) where
      pub is_child_by-high : length ls + 1 < m → is_child_by ls k m a ≡ false
      unfolding is_child_by
      is_child_by-high h = rw (le-leb 2 m two, lt-ltb k m above, lt-leb m (length ls + 1) h)

      pub is_child_by-entry : m ≤ length ls + 1 → is_child_by ls k m a ≡ matches (get_or ls (m - 2) 0) a
      unfolding is_child_by
      is_child_by-entry h = rw (le-leb 2 m two, lt-ltb k m above, le-leb m (length ls + 1) h)

-- what a child with a label is
pub record FoundChild (ls : List ℕ) (k m a : ℕ) : Type 0 where
  pub two : 2 ≤ m
  pub above : k < m
  pub within : m ≤ length ls + 1
  pub small : get_or ls (m - 2) 0 < 2 * mark
  pub label : label_in (get_or ls (m - 2) 0) ≡ a

pub is_child_by-told : (ls : List ℕ) (k m a : ℕ) → is_child_by ls k m a ≡ true → FoundChild ls k m a
is_child_by-told ls k m a e = root (dec_le 2 m)
  where
    never : is_child_by ls k m a ≡ false → ⊥
    never f = true≢false (sym e ∙ f)

    large : 2 ≤ m → k < m → m ≤ length ls + 1 → Dec (2 * mark ≤ get_or ls (m - 2) 0) → FoundChild ls k m a
    large two above within (yes l) = absurd (never (is_child_by-entry ls k m a two above within ∙ matches-large _ a l))
    large two above within (no l) =
        let small : get_or ls (m - 2) 0 < 2 * mark = lt_of_not-le l in
        let own : eqb (label_in (get_or ls (m - 2) 0)) a ≡ true = sym (is_child_by-entry ls k m a two above within ∙ matches-small _ a small) ∙ e in
        record { two = two; above = above; within = within; small = small; label = eqb-true _ _ own }

    high : 2 ≤ m → k < m → Dec (m ≤ length ls + 1) → FoundChild ls k m a
    high two above (yes l) = large two above l (dec_le (2 * mark) (get_or ls (m - 2) 0))
    high two above (no l) = absurd (never (is_child_by-high ls k m a two above (lt_of_not-le l)))

    low : 2 ≤ m → Dec (m ≤ k) → FoundChild ls k m a
    low two (yes l) = absurd (never (is_child_by-low ls k m a two l))
    low two (no l) = high two (lt_of_not-le l) (dec_le m (length ls + 1))

    root : Dec (2 ≤ m) → FoundChild ls k m a
    root (yes l) = low l (dec_le m k)
    root (no l) = absurd (never (is_child_by-root ls k m a (lt_of_not-le l)))

pub is_child_by-is : (ls : List ℕ) (k m a : ℕ) → FoundChild ls k m a → is_child_by ls k m a ≡ true
is_child_by-is ls k m a c = is_child_by-entry ls k m a c.two c.above c.within ∙ matches-small _ a c.small ∙ eq-eqb _ _ c.label

-- a number behind the last node's is no child's
pub is_child_by-late : (ls : List ℕ) (k m a : ℕ) → length ls + 1 < m → is_child_by ls k m a ≡ false
is_child_by-late ls k m a h = go (dec_le m k)
  where
    go : Dec (m ≤ k) → is_child_by ls k m a ≡ false
    go (yes l) = is_child_by-low ls k m a (omega arith) l
    go (no l) = is_child_by-high ls k m a (omega arith) (lt_of_not-le l) h

-- ---- the search

pub lowest_by-end : (ls : List ℕ) (k m a : ℕ) → lowest_by ls k 0 m a ≡ None
unfolding lowest_by
lowest_by-end ls k m a = refl

module _ (ls : List ℕ) (k left m a : ℕ) (more : 0 < left) where
  back : suc (left - 1) ≡ left
  back = omega arith

  pub lowest_by-here : is_child_by ls k m a ≡ true → lowest_by ls k left m a ≡ Some m
  unfolding lowest_by
  lowest_by-here e = ap (λ (n : ℕ). lowest_by ls k n m a) (sym back) ∙ rw e

  pub lowest_by-past : is_child_by ls k m a ≡ false → lowest_by ls k left m a ≡ lowest_by ls k (left - 1) (m + 1) a
  unfolding lowest_by
  lowest_by-past e = ap (λ (n : ℕ). lowest_by ls k n m a) (sym back) ∙ rw e

pub lowest_by-late : (left : ℕ) (ls : List ℕ) (k m a : ℕ) → length ls + 1 < m → lowest_by ls k left m a ≡ None
unfolding lowest_by
lowest_by-late zero ls k m a h = refl
lowest_by-late (suc left) ls k m a h = rw (is_child_by-late ls k m a h) (lowest_by-late left ls k (m + 1) a (omega arith))

-- what the search says of `left` numbers from m on
pub data LowestTold (ls : List ℕ) (k left m a : ℕ) : Option ℕ → Type 0 where
  found : (c : ℕ) → m ≤ c → c < m + left → is_child_by ls k c a ≡ true → LowestTold ls k left m a (Some c)
  missed : ((c : ℕ) → m ≤ c → c < m + left → is_child_by ls k c a ≡ false) → LowestTold ls k left m a None

pub lowest-told : (left : ℕ) (ls : List ℕ) (k m a : ℕ) → LowestTold ls k left m a (lowest_by ls k left m a)
unfolding lowest_by
lowest-told zero ls k m a = missed (λ c l u. absurd (omega arith))
lowest-told (suc left) ls k m a = go (is_child_by ls k m a) refl (lowest-told left ls k (m + 1) a)
  where
    later : (o : Option ℕ) → is_child_by ls k m a ≡ false → LowestTold ls k left (m + 1) a o → LowestTold ls k (suc left) m a o
    later o n (found c l u e) = found c (omega arith) (omega arith) e
    later o n (missed f) = missed (λ c l u. here c l u (dec_le (m + 1) c))
      where
        here : (c : ℕ) → m ≤ c → c < m + suc left → Dec (m + 1 ≤ c) → is_child_by ls k c a ≡ false
        here c l u (yes b) = f c b (omega arith)
        here c l u (no b) = let same : c ≡ m = omega arith in rw same n

    go : (t : Bool) → is_child_by ls k m a ≡ t → LowestTold ls k left (m + 1) a (lowest_by ls k left (m + 1) a) → LowestTold ls k (suc left) m a (lowest_by ls k (suc left) m a)
    go true e ih = rw e (found m (omega arith) (omega arith) e)
    go false e ih = rw e (later _ e ih)

-- ---- the child of a node, and a walk

module _ (ls : List ℕ) (b : ℕ → ℕ) (len : ℕ) where
  pub child_by-none : (k a : ℕ) → children_of b len k ≡ None → child_by ls b len k a ≡ None
  unfolding child_by
  child_by-none k a e = rw e

  pub child_by-run : (k a first count : ℕ) → children_of b len k ≡ Run first count → child_by ls b len k a ≡ lowest_by ls k count first a
  unfolding child_by
  child_by-run k a first count e = rw e

  pub walked_from-end : (at : Option ℕ) → walked_from ls b len [] at ≡ at
  unfolding walked_from
  walked_from-end at = refl

  pub walked_from-step : (a : ℕ) (q : Key) (at : Option ℕ) → walked_from ls b len (a ∷ q) at ≡ walked_from ls b len q (step_by ls b len a at)
  unfolding walked_from
  walked_from-step a q at = refl

  -- along a query, from behind its first j bytes on
  pub walked_from-next : (q : Key) (j k : ℕ) → j < length q
      → walked_from ls b len (drop j q) (Some k) ≡ walked_from ls b len (drop (j + 1) q) (child_by ls b len k (get_or q j 0))
  walked_from-next q j k h =
      ap (λ (r : Key). walked_from ls b len r (Some k)) (drop-cons q j 0 h)
      ∙ walked_from-step (get_or q j 0) (drop (suc j) q) (Some k)
      ∙ ap (λ (n : ℕ). walked_from ls b len (drop n q) (child_by ls b len k (get_or q j 0))) (sym (add-one j))

  pub walked_from-lost : (q : Key) → walked_from ls b len q None ≡ None
  unfolding walked_from
  walked_from-lost [] = refl
  walked_from-lost (a ∷ q) = walked_from-lost q

-- ---- values

module _ (ls vs : List ℕ) (m : ℕ) where
  pub value_of_node-root : m < 2 → value_of_node ls vs m ≡ None
  unfolding value_of_node
  value_of_node-root h = rw (lt-leb 2 m h)

  module _ (two : 2 ≤ m) where
    pub value_of_node-short : length vs ≤ m - 2 → value_of_node ls vs m ≡ None
    unfolding value_of_node
    value_of_node-short h = rw (le-leb 2 m two, le-ltb (m - 2) (length vs) h)

    module _ (inside : m - 2 < length vs) where
      pub value_of_node-plain : get_or ls (m - 2) 0 < mark → value_of_node ls vs m ≡ None
      unfolding value_of_node
      value_of_node-plain h = rw (le-leb 2 m two, lt-ltb (m - 2) (length vs) inside, lt-leb mark (get_or ls (m - 2) 0) h)

      module _ (marked : mark ≤ get_or ls (m - 2) 0) where
        pub value_of_node-large : 2 * mark ≤ get_or ls (m - 2) 0 → value_of_node ls vs m ≡ None
        unfolding value_of_node
        value_of_node-large h = rw (le-leb 2 m two, lt-ltb (m - 2) (length vs) inside, le-leb mark (get_or ls (m - 2) 0) marked, le-ltb (get_or ls (m - 2) 0) (2 * mark) h)

        pub value_of_node-held : get_or ls (m - 2) 0 < 2 * mark → value_of_node ls vs m ≡ Some (get_or vs (m - 2) 0)
        unfolding value_of_node
        value_of_node-held h = rw (le-leb 2 m two, lt-ltb (m - 2) (length vs) inside, le-leb mark (get_or ls (m - 2) 0) marked, lt-ltb (get_or ls (m - 2) 0) (2 * mark) h)
