-- The nodes in level order are the one list Q with Q = the children of the root, then the children of each of Q in turn.
--
--     rows-queue      the rows are those of the queue's nodes
--     queue-law       the queue is such a list
--     queue-unique    and the only one
--     length-rows     there is a row for each node
-- Assumes nothing.
use mathlib.Core.Path.{◌≡◌, refl, ap, ◌∙◌}
use Prim.Native.Nat.{ℕ, zero, suc, ◌+◌}
use native.Mathlib.Omega.{arith}
use mathlib.Core.List.{List, [], ◌∷◌, ◌++◌, map, append_assoc, nil≢cons, head-eq_of_cons-eq, tail-eq_of_cons-eq}
use Rattle.std.specs.Prelude.{Option}
use lib.ListN.{length}
use Rattle.keymap.specs.Forest.{Forest, empty, node, size, width, join}
use Rattle.keymap.specs.BreadthFirst.{Row, visit, rows}
use Rattle.keymap.proofs.Laws.Forest.{size-join}

-- a node with what hangs below it
pub record Item : Type 0 where
  pub label : ℕ
  pub value : Option ℕ
  pub kids : Forest

unfoldable pub items : Forest → List Item
items empty = []
items (node a w kids next) = record { label = a; value = w; kids = kids } ∷ items next

-- the children of each of a list of nodes
unfoldable pub below : List Item → List Item
below [] = []
below (x ∷ xs) = items x.kids ++ below xs

unfoldable pub queue : ℕ → Forest → List Item
queue zero f = []
queue (suc n) empty = []
queue (suc n) (node a w kids next) = record { label = a; value = w; kids = kids } ∷ queue n (join next kids)

abbrev pub row : Item → Row
row x = record { label = x.label; value = x.value; degree = width x.kids }

pub rows-queue : (n : ℕ) (f : Forest) → visit n f ≡ map row (queue n f)
unfolding visit queue
rows-queue zero f = refl
rows-queue (suc n) empty = refl
rows-queue (suc n) (node a w kids next) = ap (λ (l : List Row). record { label = a; value = w; degree = width kids } ∷ l) (rows-queue n (join next kids))

items-join : (f g : Forest) → items (join f g) ≡ items f ++ items g
unfolding items join
items-join empty g = refl
items-join (node a w kids next) g = ap (λ (l : List Item). record { label = a; value = w; kids = kids } ∷ l) (items-join next g)

pub queue-law : (n : ℕ) (f : Forest) → size f ≡ n → queue n f ≡ items f ++ below (queue n f)
unfolding queue items below size
queue-law zero empty h = refl
queue-law zero (node a w kids next) h = absurd (omega arith)
queue-law (suc n) empty h = refl
queue-law (suc n) (node a w kids next) h =
    let q = queue n (join next kids) in
    let e : q ≡ items next ++ (items kids ++ below q) =
    queue-law n (join next kids) (omega (arith, size-join next kids)) ∙ rw (items-join, append_assoc) in
    ap (λ (l : List Item). record { label = a; value = w; kids = kids } ∷ l) e

-- all the nodes that hang below a list of nodes, these included
weight : List Item → ℕ
weight [] = 0
weight (x ∷ xs) = suc (size x.kids) + weight xs

weight-append : (xs ys : List Item) → weight (xs ++ ys) ≡ weight xs + weight ys
unfolding weight
weight-append [] ys = omega arith
weight-append (x ∷ xs) ys = omega (arith, weight-append xs ys)

weight-items : (f : Forest) → weight (items f) ≡ size f
unfolding weight items size
weight-items empty = refl
weight-items (node a w kids next) = omega (arith, weight-items next)

weight-below : (xs : List Item) → weight (below xs) + length xs ≡ weight xs
unfolding weight below
weight-below [] = refl
weight-below (x ∷ xs) = omega (arith, weight-append (items x.kids) (below xs), weight-items x.kids, weight-below xs)

pub queue-unique : (n : ℕ) (f : Forest) → size f ≡ n → (q : List Item) → q ≡ items f ++ below q → q ≡ queue n f
unfolding queue items below size
queue-unique zero empty h [] e = refl
queue-unique zero empty h (x ∷ q) e = absurd (omega (arith, ap weight e, weight-below (x ∷ q)))
queue-unique zero (node a w kids next) h q e = absurd (omega arith)
queue-unique (suc n) empty h q e = absurd (omega arith)
queue-unique (suc n) (node a w kids next) h [] e = absurd (nil≢cons e)
queue-unique (suc n) (node a w kids next) h (x ∷ q) e =
    let first : x ≡ record { label = a; value = w; kids = kids } = head-eq_of_cons-eq e in
    let k : x.kids ≡ kids = ap (λ (y : Item). y.kids) first in
    let t : q ≡ items next ++ (items x.kids ++ below q) = tail-eq_of_cons-eq e in
    let t' : q ≡ items (join next kids) ++ below q = t ∙ rw (k, items-join, append_assoc) in
    let rest : q ≡ queue n (join next kids) = queue-unique n (join next kids) (omega (arith, size-join next kids)) q t' in
    λ i. first i ∷ rest i

-- ---- there is a row for each node

length-visit : (n : ℕ) (f : Forest) → size f ≡ n → length (visit n f) ≡ n
unfolding visit size
length-visit zero f h = refl
length-visit (suc n) empty h = absurd (omega arith)
length-visit (suc n) (node a w kids next) h = ap suc (length-visit n (join next kids) (omega (arith, size-join next kids)))

pub length-rows : (f : Forest) → length (rows f) ≡ size f
unfolding rows
length-rows f = length-visit (size f) f refl
