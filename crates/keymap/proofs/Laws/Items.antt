-- The nodes of a trie by their numbers. Behind the root, in the queue, stand the children of each node in turn; so the children of a node stand together,
-- behind those of the nodes before it, and a condition on each node of the queue is a condition on the trie.
-- Node m of 2 or more is entry m - 2, its place in the queue; node 1 is the root.
--
--     all_items         the root, then the queue: node m at index m - 1
--     item_degree       how many children the node at an index has
--     entry_item        the node that an entry tells of
--     Siblings          the siblings of a forest are the entries from a number on
--     siblings-kids     the children of an entry stand behind those of the nodes before it
--     siblings-here     what the first of some siblings is
--     siblings-next     the others
--     children-beyond   children have higher numbers than their parent
--     degrees-all       every node but the root is a child of one
--     nodes-orderly     a trie is orderly if at each node the labels of the children rise and there is a value or a
--                       child
--     orderly-nodes     and so it is in an orderly one
-- Assumes nothing.
use mathlib.Core.Path.{◌≡◌, refl, sym, ap, ◌∙◌, subst}
use Prim.Native.Nat.{ℕ, zero, suc, ◌+◌, ◌≤◌, ◌<◌, zero-le}
use native.Mathlib.Nat.{le_of_suc-le-suc, not-suc-le-zero, lt_irrefl, add-zero, zero-add, suc-add}
use native.Mathlib.Omega.{arith}
use mathlib.Core.List.{List, [], ◌∷◌}
use Rattle.std.specs.Prelude.{Option, None, Some}
use lib.ListN.{length, get_or, length-append, length-map, get_or-append}
use lib.Seq.{get_or-append-add}
use Rattle.keymap.specs.Bits.{sum_below}
use Rattle.keymap.specs.Forest.{Forest, empty, node, Above, Live, Orderly, size, width, join}
use Rattle.keymap.specs.BreadthFirst.{rows}
use Rattle.keymap.proofs.Laws.Sums.{sum_below-zero, sum_below-suc, sum_below-first, sum_below-mono}
use Rattle.keymap.proofs.Laws.Forest.{size-join, width-join}
use Rattle.keymap.proofs.Laws.BreadthFirst.{Item, items, below, queue, row, rows-queue, queue-law, length-rows}

-- what stands beyond the last node
abbrev pub nobody : Item
nobody = record { label = 0; value = None; kids = empty }

unfoldable pub all_items : Forest → List Item
all_items f = record { label = 0; value = None; kids = f } ∷ queue (size f) f

unfoldable pub item_degree : Forest → ℕ → ℕ
item_degree f k = width (get_or (all_items f) k nobody).kids

unfoldable pub entry_item : Forest → ℕ → Item
entry_item f e = get_or (queue (size f) f) e nobody

-- ---- the children of each of a list of nodes

-- how many children the k-th of some nodes has
abbrev kids_in : List Item → ℕ → ℕ
kids_in xs k = width (get_or xs k nobody).kids

length-items : (f : Forest) → length (items f) ≡ width f
unfolding items width
length-items empty = refl
length-items (node a w kids next) = ap suc (length-items next)

below-run : (xs : List Item) (k j : ℕ) → j < kids_in xs k → get_or (below xs) (sum_below (kids_in xs) k + j) nobody ≡ get_or (items (get_or xs k nobody).kids) j nobody
unfolding below width
below-run [] k j h = absurd (not-suc-le-zero h)
below-run (x ∷ xs) zero j h =
    rw (sum_below-zero, zero-add) (get_or-append (items x.kids) (below xs) nobody j (omega (arith, length-items x.kids)))
below-run (x ∷ xs) (suc k) j h =
    let e : sum_below (kids_in (x ∷ xs)) (suc k) + j ≡ length (items x.kids) + (sum_below (kids_in xs) k + j) =
    omega (arith, sum_below-first (kids_in (x ∷ xs)) k, length-items x.kids) in
    rw e (get_or-append-add (items x.kids) (below xs) (sum_below (kids_in xs) k + j) nobody ∙ below-run xs k j h)

length-below : (xs : List Item) → length (below xs) ≡ sum_below (kids_in xs) (length xs)
unfolding below
length-below [] = sym (sum_below-zero (kids_in []))
length-below (x ∷ xs) =
    omega (arith, length-append (items x.kids) (below xs), length-items x.kids, length-below xs, sum_below-first (kids_in (x ∷ xs)) (length xs))

length-queue : (f : Forest) → length (queue (size f) f) ≡ size f
unfolding rows
length-queue f = sym (ap length (rows-queue (size f) f) ∙ length-map (queue (size f) f) row) ∙ length-rows f

-- the queue never runs out before its last node: what was put into it is ahead of what was taken
queue-ahead : (n : ℕ) (f : Forest) → size f ≡ n → (k : ℕ) → k < n → k < width f + sum_below (kids_in (queue n f)) k
unfolding queue size width
queue-ahead zero f h k l = absurd (not-suc-le-zero l)
queue-ahead (suc n) empty h k l = absurd (omega arith)
queue-ahead (suc n) (node a w kids next) h zero l = omega arith
queue-ahead (suc n) (node a w kids next) h (suc k) l =
    omega (
      arith,
      queue-ahead n (join next kids) (omega (arith, size-join next kids)) k (le_of_suc-le-suc l),
      sum_below-first (kids_in (queue (suc n) (node a w kids next))) k,
      width-join next kids,
    )

module _ (f : Forest) where
  pub item_degree-entry : (e : ℕ) → item_degree f (suc e) ≡ width (entry_item f e).kids
  unfolding item_degree all_items entry_item
  item_degree-entry e = refl

  queue-below : queue (size f) f ≡ below (all_items f)
  unfolding all_items below
  queue-below = queue-law (size f) f refl

  length-all_items : length (all_items f) ≡ suc (size f)
  unfolding all_items
  length-all_items = ap suc (length-queue f)

  -- the children of the node at index k are the entries from the sum of the degrees before it on
  children-entries : (k j : ℕ) → j < item_degree f k → entry_item f (sum_below (item_degree f) k + j) ≡ get_or (items (get_or (all_items f) k nobody).kids) j nobody
  unfolding entry_item item_degree
  children-entries k j h = rw queue-below (below-run (all_items f) k j h)

  pub degrees-all : sum_below (item_degree f) (suc (size f)) ≡ size f
  unfolding item_degree
  degrees-all =
      ap (sum_below (kids_in (all_items f))) (sym length-all_items) ∙ sym (length-below (all_items f)) ∙ ap length (sym queue-below) ∙ length-queue f

  children-within : (k : ℕ) → k ≤ size f → sum_below (item_degree f) k + item_degree f k ≤ size f
  children-within k h =
      omega (arith, sum_below-suc (item_degree f) k, degrees-all, sum_below-mono (item_degree f) {i = suc k} {j = suc (size f)} (omega arith))

  -- ---- children have higher numbers

  pub children-beyond : (k : ℕ) → k ≤ size f → k ≤ sum_below (item_degree f) k
  unfolding item_degree all_items
  children-beyond zero h = zero-le
  children-beyond (suc k) h = omega (arith, queue-ahead (size f) f refl k h, sum_below-first (item_degree f) k)

-- ---- siblings by their entries

-- the siblings g of the trie f are its entries from e on
pub record Siblings (f : Forest) (e : ℕ) (g : Forest) : Type 0 where
  pub within : e + width g ≤ size f
  pub are : (j : ℕ) → j < width g → entry_item f (e + j) ≡ get_or (items g) j nobody

module _ (f : Forest) where
  siblings-under : (k : ℕ) → k ≤ size f → Siblings f (sum_below (item_degree f) k) (get_or (all_items f) k nobody).kids
  unfolding item_degree
  siblings-under k h = record { within = children-within f k h; are = children-entries f k }

  pub siblings-entry : (e : ℕ) → e < size f → Siblings f (sum_below (item_degree f) (suc e)) (entry_item f e).kids
  unfolding all_items entry_item
  siblings-entry e h = siblings-under (suc e) h

  module _ {e a : ℕ} {w : Option ℕ} {kids next : Forest} (s : Siblings f e (node a w kids next)) where
    pub siblings-inside : e < size f
    unfolding width
    siblings-inside = omega (arith, s.within)

    pub siblings-here : entry_item f e ≡ record { label = a; value = w; kids = kids }
    unfolding items width
    siblings-here = ap (entry_item f) (sym (add-zero e)) ∙ s.are 0 (omega arith)

    pub siblings-next : Siblings f (e + 1) next
    unfolding items width
    siblings-next = record {
      within = omega (arith, s.within);
      are = λ j h. ap (entry_item f) (omega arith) ∙ s.are (suc j) (omega arith);
    }

    pub siblings-kids : Siblings f (sum_below (item_degree f) (suc e)) kids
    siblings-kids = subst (λ (x : Item). Siblings f (sum_below (item_degree f) (suc e)) x.kids) siblings-here (siblings-entry e siblings-inside)

    pub siblings-degree : item_degree f (suc e) ≡ width kids
    siblings-degree = item_degree-entry f e ∙ ap (λ (x : Item). width x.kids) siblings-here

-- ---- orderly by its nodes

-- the labels of siblings strictly rise
abbrev pub Rises : Forest → Type 0
Rises empty = Unit {0}
Rises (node a w kids next) = Above a next × Rises next

abbrev Deep : Forest → Type 0
Deep empty = Unit {0}
Deep (node a w kids next) = Rises kids × Live w kids × Deep kids × Deep next

orderly-deep : (f : Forest) → Orderly f → Rises f × Deep f
orderly-deep empty s = (tt, tt)
orderly-deep (node a w kids next) s =
    let k = orderly-deep kids s.2 in
    let n = orderly-deep next s.3 in
    ((s.0, n.0), (k.0, s.1, k.1, n.1))

deep-orderly : (f : Forest) → Rises f → Deep f → Orderly f
deep-orderly empty r d = tt
deep-orderly (node a w kids next) r d = (r.0, d.1, deep-orderly kids d.0 d.2, deep-orderly next r.1 d.3)

deep-join : (f g : Forest) → Deep f → Deep g → Deep (join f g)
unfolding join
deep-join empty g d e = e
deep-join (node a w kids next) g d e = (d.0, d.1, d.2, deep-join next g d.3 e)

deep-parts : (f g : Forest) → Deep (join f g) → Deep f × Deep g
unfolding join
deep-parts empty g d = (tt, d)
deep-parts (node a w kids next) g d = let p = deep-parts next g d.3 in ((d.0, d.1, d.2, p.0), p.1)

abbrev Tidy : Item → Type 0
Tidy x = Rises x.kids × Live x.value x.kids

queue-deep : (n : ℕ) (f : Forest) → size f ≡ n → ((e : ℕ) → e < n → Tidy (get_or (queue n f) e nobody)) → Deep f
unfolding queue size
queue-deep zero empty h t = tt
queue-deep zero (node a w kids next) h t = absurd (omega arith)
queue-deep (suc n) empty h t = tt
queue-deep (suc n) (node a w kids next) h t =
    let first = t 0 (omega arith) in
    let rest = deep-parts next kids (queue-deep n (join next kids) (omega (arith, size-join next kids)) (λ e l. t (suc e) (omega arith))) in
    (first.0, first.1, rest.1, rest.0)

deep-queue : (n : ℕ) (f : Forest) → size f ≡ n → Deep f → (e : ℕ) → e < n → Tidy (get_or (queue n f) e nobody)
unfolding queue size
deep-queue zero f h d e l = absurd (not-suc-le-zero l)
deep-queue (suc n) empty h d e l = absurd (omega arith)
deep-queue (suc n) (node a w kids next) h d zero l = (d.0, d.1)
deep-queue (suc n) (node a w kids next) h d (suc e) l =
    deep-queue n (join next kids) (omega (arith, size-join next kids)) (deep-join next kids d.3 d.2) e (le_of_suc-le-suc l)

-- ---- rising and live, by the entries

above-items : (a : ℕ) (f : Forest) → (0 < width f → a < (get_or (items f) 0 nobody).label) → Above a f
unfolding items width
above-items a empty h = tt
above-items a (node b w kids next) h = h (omega arith)

rises-items : (f : Forest) → ((j : ℕ) → j + 1 < width f → (get_or (items f) j nobody).label < (get_or (items f) (j + 1) nobody).label) → Rises f
unfolding items width
rises-items empty h = tt
rises-items (node a w kids next) h =
    (above-items a next (λ l. h 0 (omega arith)), rises-items next (λ j l. subst (λ (x : ℕ). (get_or (items next) j nobody).label < (get_or (items (node a w kids next)) x nobody).label) (suc-add j 1) (h (suc j) (omega arith))))

items-rise : (f : Forest) → Rises f → (j : ℕ) → j + 1 < width f → (get_or (items f) j nobody).label < (get_or (items f) (j + 1) nobody).label
unfolding items width
items-rise empty r j h = absurd (omega arith)
items-rise (node a w kids empty) r j h = absurd (omega arith)
items-rise (node a w kids (node b v sub next)) r zero h = r.0
items-rise (node a w kids (node b v sub next)) r (suc j) h = rw suc-add (items-rise (node b v sub next) r.1 j (omega arith))

pub live-width : (w : Option ℕ) (f : Forest) → (w ≡ None → 0 < width f) → Live w f
unfolding width
live-width (Some v) f h = tt
live-width None empty h = absurd (lt_irrefl 0 (h refl))
live-width None (node a w kids next) h = tt

pub width-live : (w : Option ℕ) (f : Forest) → Live w f → w ≡ None → 0 < width f
unfolding width
width-live (Some v) f l e = let z : ◌≡◌ {A = ℕ} 0 1 = cc in absurd (omega arith)
width-live None empty l e = absurd l
width-live None (node a w kids next) l e = omega arith

-- what makes a trie orderly, said of the entries
pub record OrderlyEntries (f : Forest) : Type 0 where
  pub rise : (k j : ℕ) → k ≤ size f → j + 1 < item_degree f k → (entry_item f (sum_below (item_degree f) k + j)).label < (entry_item f (sum_below (item_degree f) k + j + 1)).label
  pub live : (e : ℕ) → e < size f → (entry_item f e).value ≡ None → 0 < item_degree f (suc e)

module _ (f : Forest) where
  kids_at : ℕ → Forest
  kids_at k = (get_or (all_items f) k nobody).kids

  label_same : (k j : ℕ) → j < item_degree f k → (entry_item f (sum_below (item_degree f) k + j)).label ≡ (get_or (items (kids_at k)) j nobody).label
  unfolding kids_at
  label_same k j h = ap (λ (x : Item). x.label) (children-entries f k j h)

  label_after : (k j : ℕ) → j + 1 < item_degree f k → (entry_item f (sum_below (item_degree f) k + j + 1)).label ≡ (get_or (items (kids_at k)) (j + 1) nobody).label
  label_after k j h = ap (λ (x : ℕ). (entry_item f x).label) (omega arith) ∙ label_same k (j + 1) h

  pub orderly-nodes : Orderly f → OrderlyEntries f
  unfolding item_degree all_items entry_item kids_at
  orderly-nodes s = record {
    rise = λ k j l h. rw (label_same k j (omega arith), label_after k j h) (items-rise (kids_at k) (rises k l) j h);
    live = λ e l z. width-live (entry_item f e).value (entry_item f e).kids (tidy e l).1 z;
  }
    where
      tidy : (e : ℕ) → e < size f → Tidy (get_or (queue (size f) f) e nobody)
      tidy = deep-queue (size f) f refl (orderly-deep f s).1

      rises : (k : ℕ) → k ≤ size f → Rises (kids_at k)
      rises zero l = (orderly-deep f s).0
      rises (suc e) l = (tidy e l).0

  pub nodes-orderly : OrderlyEntries f → Orderly f
  unfolding item_degree all_items entry_item kids_at
  nodes-orderly o = deep-orderly f (rises 0 zero-le) (queue-deep (size f) f refl (λ e l. (rises (suc e) l, live-width _ _ (o.live e l))))
    where
      rises : (k : ℕ) → k ≤ size f → Rises (kids_at k)
      rises k l = rises-items (kids_at k) (λ j h. rw (← label_same k j (omega arith), ← label_after k j h) (o.rise k j l h))
