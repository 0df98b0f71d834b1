-- The bits that the Rust's queue with its phantom siblings emits are Jacobson's level-order unary degree sequence: at each moment what is still to come
-- are the degrees of the runs in the queue, then those of the nodes that are still in them, in level order.
--
--     emitted-forest_bits   the two sequences are one
-- Assumes nothing.
use mathlib.Core.Path.{◌≡◌, refl, sym, ap, ◌∙◌}
use Prim.Native.Nat.{ℕ, zero, suc, ◌+◌, ◌*◌}
use native.Mathlib.Omega.{arith}
use mathlib.Core.List.{List, [], ◌∷◌, ◌++◌, map, append_assoc, map-append}
use Rattle.std.specs.Prelude.{Option}
use lib.ListN.{length, length-append}
use Rattle.keymap.specs.Degrees.{unary, sequence}
use Rattle.keymap.specs.Forest.{Forest, empty, node, size, width, join}
use Rattle.keymap.specs.BreadthFirst.{visit, rows, row_degree, forest_bits, emit, emitted}
use Rattle.keymap.proofs.Laws.Forest.{size-join}
use Rattle.keymap.proofs.Laws.Decode.{rows-node}

-- all the nodes still in the queue
joined : List Forest → Forest
joined [] = empty
joined (f ∷ q) = join f (joined q)

join-empty : (f : Forest) → join f empty ≡ f
unfolding join
join-empty empty = refl
join-empty (node a w kids next) = ap (node a w kids) (join-empty next)

join-assoc : (f g h : Forest) → join (join f g) h ≡ join f (join g h)
unfolding join
join-assoc empty g h = refl
join-assoc (node a w kids next) g h = ap (node a w kids) (join-assoc next g h)

joined-append : (q : List Forest) (f : Forest) → joined (q ++ (f ∷ [])) ≡ join (joined q) f
unfolding joined join
joined-append [] f = join-empty f
joined-append (g ∷ q) f = rw (joined-append q f) (sym (join-assoc g (joined q) f))

-- the degrees still to come
coming : List Forest → List ℕ
coming q = map width q ++ map row_degree (rows (joined q))

coming-node : (a : ℕ) (w : Option ℕ) (kids next : Forest) (q : List Forest)
    → coming (node a w kids next ∷ q) ≡ suc (width next) ∷ (map width q ++ (width kids ∷ map row_degree (rows (join next (join (joined q) kids)))))
unfolding coming joined join width
coming-node a w kids next q = rw (rows-node a w kids (join next (joined q)), join-assoc next (joined q) kids)

coming-behind : (kids next : Forest) (q : List Forest)
    → coming (next ∷ (q ++ (kids ∷ []))) ≡ width next ∷ (map width q ++ (width kids ∷ map row_degree (rows (join next (join (joined q) kids)))))
unfolding coming joined
coming-behind kids next q = rw (joined-append q kids, map-append width q (kids ∷ []), append_assoc (map width q))

coming-phantom : (q : List Forest) → coming (empty ∷ q) ≡ 0 ∷ coming q
unfolding coming joined join width
coming-phantom q = refl

coming-nothing : coming [] ≡ []
unfolding coming joined rows visit size
coming-nothing = refl

unary-one : (d : ℕ) (ds : List ℕ) → unary (suc d ∷ ds) ≡ 1 ∷ unary (d ∷ ds)
unfolding unary
unary-one d ds = refl

unary-zero : (ds : List ℕ) → unary (0 ∷ ds) ≡ 0 ∷ unary ds
unfolding unary
unary-zero ds = refl

-- what is left of the steps when an element is taken from the queue
left-nothing : size (joined []) ≡ 0
unfolding joined size
left-nothing = refl

left-phantom : (q : List Forest) → size (joined (empty ∷ q)) ≡ size (joined q)
unfolding joined join
left-phantom q = refl

left-node : (a : ℕ) (w : Option ℕ) (kids next : Forest) (q : List Forest)
    → size (joined (node a w kids next ∷ q)) ≡ suc (size kids + (size next + size (joined q)))
unfolding joined join size
left-node a w kids next q = omega (arith, size-join next (joined q))

left_behind : (kids next : Forest) (q : List Forest) → size (joined (next ∷ (q ++ (kids ∷ [])))) ≡ size next + (size (joined q) + size kids)
unfolding joined
left_behind kids next q =
    rw (joined-append q kids) (omega (arith, size-join next (join (joined q) kids), size-join (joined q) kids))

emit-coming : (n : ℕ) (q : List Forest) → size (joined q) + size (joined q) + length q ≡ n → emit n q ≡ unary (coming q)
unfolding emit
emit-coming zero [] h = rw coming-nothing (unfold unary in refl)
emit-coming zero (f ∷ q) h = absurd (omega arith)
emit-coming (suc n) [] h = absurd (omega (arith, left-nothing))
emit-coming (suc n) (empty ∷ q) h =
    rw (coming-phantom q, unary-zero) (ap (λ (l : List ℕ). 0 ∷ l) (emit-coming n q (omega (arith, left-phantom q))))
emit-coming (suc n) (node a w kids next ∷ q) h =
    rw (coming-node a w kids next q, unary-one)
    (ap (λ (l : List ℕ). 1 ∷ l)
    (emit-coming n (next ∷ (q ++ (kids ∷ []))) (omega (arith, left-node a w kids next q, left_behind kids next q, length-append q (kids ∷ []))) ∙ ap unary (coming-behind kids next q)))

joined-one : (f : Forest) → joined (f ∷ []) ≡ f
unfolding joined
joined-one f = join-empty f

coming-one : (f : Forest) → coming (f ∷ []) ≡ width f ∷ map row_degree (rows f)
unfolding coming
coming-one f = rw joined-one

pub emitted-forest_bits : (f : Forest) → emitted f ≡ forest_bits f
unfolding emitted forest_bits sequence
emitted-forest_bits f =
    let steps : size (joined (f ∷ [])) + size (joined (f ∷ [])) + 1 ≡ 2 * size f + 1 = rw joined-one (omega arith) in
    ap (λ (l : List ℕ). 1 ∷ 0 ∷ l) (emit-coming (2 * size f + 1) (f ∷ []) steps ∙ ap unary (coming-one f))
