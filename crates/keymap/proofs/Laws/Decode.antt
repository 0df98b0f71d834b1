-- Rows in level order and back: a row, taken before the queue of those behind it, gets back exactly the children that it had put there.
--
--     rows-node       the row of a node, then the queue with its children behind
--     rebuild-rows    a forest's rows are rebuilt into the forest
--     rows-rebuild    rows that fit are those of what is rebuilt from them
-- Assumes nothing.
use mathlib.Core.Path.{◌≡◌, refl, ap, ◌∙◌}
use Prim.Native.Nat.{ℕ, zero, suc, ◌-◌, ◌≤◌}
use native.Mathlib.Omega.{arith}
use native.Mathlib.Nat.{add_comm}
use mathlib.Core.List.{List, [], ◌∷◌}
use Rattle.std.specs.Prelude.{Option}
use Rattle.keymap.specs.Forest.{Forest, empty, node, size, width, join}
use Rattle.keymap.specs.BreadthFirst.{Row, visit, rows}
use Rattle.keymap.specs.Decode.{take_trees, drop_trees, claim, rebuild}
use Rattle.keymap.proofs.Laws.Forest.{size-join, width-join}

take-join : (f g : Forest) → take_trees (width f) (join f g) ≡ f
unfolding take_trees width join
take-join empty g = refl
take-join (node a w kids next) g = ap (node a w kids) (take-join next g)

drop-join : (f g : Forest) → drop_trees (width f) (join f g) ≡ g
unfolding drop_trees width join
drop-join empty g = refl
drop-join (node a w kids next) g = drop-join next g

pub take-drop : (n : ℕ) (f : Forest) → join (take_trees n f) (drop_trees n f) ≡ f
unfolding take_trees drop_trees join
take-drop zero f = refl
take-drop (suc n) empty = refl
take-drop (suc n) (node a w kids next) = ap (node a w kids) (take-drop n next)

pub width-drop : (n : ℕ) (f : Forest) → width (drop_trees n f) ≡ width f - n
unfolding drop_trees width
width-drop zero f = omega arith
width-drop (suc n) empty = omega arith
width-drop (suc n) (node a w kids next) = omega (arith, width-drop n next)

-- the queue law: a node's row, then the queue without it and with its children behind
pub rows-node : (a : ℕ) (w : Option ℕ) (kids next : Forest)
    → rows (node a w kids next) ≡ record { label = a; value = w; degree = width kids } ∷ rows (join next kids)
unfolding rows visit size
rows-node a w kids next = rw (size-join, add_comm (size next) (size kids))

-- a row gets back the children that it put behind
claim-join : (a : ℕ) (w : Option ℕ) (kids next : Forest) → claim (record { label = a; value = w; degree = width kids }) (join next kids) ≡ node a w kids next
unfolding claim
claim-join a w kids next =
    let e : width (join next kids) - width kids ≡ width next = omega (arith, width-join next kids) in
    rw (e, take-join, drop-join)

rebuild-visit : (n : ℕ) (f : Forest) → size f ≡ n → rebuild (visit n f) ≡ f
unfolding rebuild visit size
rebuild-visit zero empty h = refl
rebuild-visit zero (node a w kids next) h = absurd (omega arith)
rebuild-visit (suc n) empty h = refl
rebuild-visit (suc n) (node a w kids next) h =
    rw (rebuild-visit n (join next kids) (omega (arith, size-join next kids))) (claim-join a w kids next)

pub rebuild-rows : (f : Forest) → rebuild (rows f) ≡ f
unfolding rows
rebuild-rows f = rebuild-visit (size f) f refl

pub rows-claim : (r : Row) (q : Forest) → r.degree ≤ width q → rows (claim r q) ≡ r ∷ rows q
unfolding claim
rows-claim r q h =
    let e : width q - (width q - r.degree) ≡ r.degree = omega arith in
    rw (rows-node, take-drop, width-drop, e)

-- each row finds as many trees in the queue as it has children
abbrev pub RowsFit : List Row → Type 0
RowsFit [] = Unit {0}
RowsFit (r ∷ rs) = (r.degree ≤ width (rebuild rs)) × RowsFit rs

pub rows-rebuild : (rs : List Row) → RowsFit rs → rows (rebuild rs) ≡ rs
unfolding rebuild rows visit size
rows-rebuild [] h = refl
rows-rebuild (r ∷ rs) h = rows-claim r (rebuild rs) h.0 ∙ ap (λ (q : List Row). r ∷ q) (rows-rebuild rs h.1)
