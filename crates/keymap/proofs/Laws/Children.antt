-- The prefixes in breadth-first order are the children of the root, then the children of each of them in turn.
-- On the trie the children of a path are the path with each label that hangs below it, and one floor is the children of the floor above it.
--
--     children_in-forest    the children of a path, on the trie
--     prefixes-children     the prefixes are the children of the root and of the prefixes, in turn; `forest-children`
--                           on the trie
-- Assumes nothing.
use mathlib.Core.Path.{◌≡◌, refl, sym, ap, ap₂, ◌∙◌}
use Prim.Native.Nat.{ℕ, zero, suc, ◌+◌, ◌<◌}
use native.Mathlib.Omega.{arith}
use native.Mathlib.Nat.{zero-add}
use mathlib.Core.Bool.{Bool, true, false}
use mathlib.Core.List.{List, [], ◌∷◌, ◌++◌, map, flat_map, append_assoc, append-nil, map-append, map-map}
use Rattle.std.specs.Prelude.{Option, None}
use lib.ListN.{length}
use lib.Dec.{eqb}
use borrow.Author.Tests.{ne_eqb, eqb-true, lt-leb}
use Rattle.keymap.specs.Key.{Key, begins_with}
use Rattle.keymap.specs.Map.{Map, Catalogue}
use Rattle.keymap.specs.Queries.{keep}
use Rattle.keymap.specs.Prefixes.{level, deepest, levels, prefixes}
use Rattle.keymap.specs.Image.{children_in}
use Rattle.keymap.specs.Forest.{Forest, empty, node, Tree, branch, descend, tree_of, list_forest, Orderly}
use Rattle.keymap.proofs.Laws.Forest.{branch-orderly, eqb_refl}
use Rattle.keymap.proofs.Laws.Listing.{tree_of-orderly, list_forest-tree_of}
use Rattle.keymap.proofs.Laws.Levels.{floor, All, Starts, behind_byte, floor-starts, level-floor}

-- ---- one branch of a node

pub branch-here : (a : ℕ) (w : Option ℕ) (kids next : Forest) → branch a (node a w kids next) ≡ (w, kids)
unfolding branch
branch-here a w kids next = rw eqb_refl

pub branch-past : (a : ℕ) (w : Option ℕ) (kids next : Forest) (b : ℕ) → a < b → branch b (node a w kids next) ≡ branch b next
unfolding branch
branch-past a w kids next b h = rw (ne_eqb b a (λ e. omega arith))

-- ---- the paths one label below a path

unfoldable pub paths_below : Forest → Key → List Key
paths_below f p = map (λ (q : Key). p ++ q) (floor 0 (descend p (None, f)).1)

-- the kids of a path do not depend on the value at its start
descend-kids : (p : Key) (w : Option ℕ) (f : Forest) → (descend p (w, f)).1 ≡ (descend p (None, f)).1
unfolding descend
descend-kids [] w f = refl
descend-kids (a ∷ p) w f = refl

map_same : (ps : List Key) → map (λ (q : Key). [] ++ q) ps ≡ ps
map_same [] = refl
map_same (p ∷ ps) = ap (λ (l : List Key). p ∷ l) (map_same ps)

paths-top : (f : Forest) → paths_below f [] ≡ floor 0 f
unfolding paths_below descend
paths-top f = map_same (floor 0 f)

descend-here : (a : ℕ) (w v : Option ℕ) (kids next : Forest) (p : Key) → descend (a ∷ p) (v, node a w kids next) ≡ descend p (w, kids)
unfolding descend
descend-here a w v kids next p = ap (descend p) (branch-here a w kids next)

pub descend-past : (a : ℕ) (w v : Option ℕ) (kids next : Forest) (b : ℕ) (p : Key) → a < b → descend (b ∷ p) (v, node a w kids next) ≡ descend (b ∷ p) (v, next)
unfolding descend
descend-past a w v kids next b p h = ap (descend p) (branch-past a w kids next b h)

-- the paths p with each label of a forest
with-labels : Key → Tree → List Key
with-labels p t = map (λ (q : Key). p ++ q) (floor 0 t.1)

paths-down : (a : ℕ) (w : Option ℕ) (kids next : Forest) (p : Key) → paths_below (node a w kids next) (a ∷ p) ≡ map (behind_byte a) (paths_below kids p)
unfolding paths_below with-labels
paths-down a w kids next p =
    ap (with-labels (a ∷ p)) (descend-here a w None kids next p)
    ∙ ap (λ (g : Forest). map (λ (q : Key). (a ∷ p) ++ q) (floor 0 g)) (descend-kids p w kids)
    ∙ sym (map-map (behind_byte a) (λ (q : Key). p ++ q) (floor 0 (descend p (None, kids)).1))

paths-along : (a : ℕ) (w : Option ℕ) (kids next : Forest) (p : Key) → Starts a p → paths_below (node a w kids next) p ≡ paths_below next p
unfolding paths_below with-labels
paths-along a w kids next [] s = absurd s
paths-along a w kids next (b ∷ p) s = ap (with-labels (b ∷ p)) (descend-past a w None kids next b p s)

-- ---- one floor is the children of the floor above it

pub flat_map-append : {A B : Type 0} (g : A → List B) (xs ys : List A) → flat_map g (xs ++ ys) ≡ flat_map g xs ++ flat_map g ys
unfolding flat_map
flat_map-append g [] ys = refl
flat_map-append g (x ∷ xs) ys = rw (flat_map-append g xs ys) (sym (append_assoc (g x) (flat_map g xs) (flat_map g ys)))

all-down : (a : ℕ) (w : Option ℕ) (kids next : Forest) (ps : List Key)
    → flat_map (paths_below (node a w kids next)) (map (behind_byte a) ps) ≡ map (behind_byte a) (flat_map (paths_below kids) ps)
unfolding flat_map
all-down a w kids next [] = refl
all-down a w kids next (p ∷ ps) =
    rw (paths-down a w kids next p, all-down a w kids next ps) (sym (map-append (behind_byte a) (paths_below kids p) (flat_map (paths_below kids) ps)))

all-along : (a : ℕ) (w : Option ℕ) (kids next : Forest) (ps : List Key) → All (Starts a) ps
    → flat_map (paths_below (node a w kids next)) ps ≡ flat_map (paths_below next) ps
unfolding flat_map
all-along a w kids next [] s = refl
all-along a w kids next (p ∷ ps) s = rw (paths-along a w kids next p s.0, all-along a w kids next ps s.1)

floor-next : (d : ℕ) (f : Forest) → Orderly f → floor (suc d) f ≡ flat_map (paths_below f) (floor d f)
unfolding floor flat_map
floor-next d empty s = refl
floor-next zero (node a w kids next) s =
    let N = node a w kids next in
    let down : paths_below N (a ∷ []) ≡ map (behind_byte a) (floor 0 kids) = paths-down a w kids next [] ∙ ap (map (behind_byte a)) (paths-top kids) in
    let along : flat_map (paths_below N) (floor 0 next) ≡ floor 1 next =
    all-along a w kids next (floor 0 next) (floor-starts 0 a next s.0 s.3) ∙ sym (floor-next zero next s.3) in
    sym (ap₂ (λ (x y : List Key). x ++ y) down along)
floor-next (suc d) (node a w kids next) s =
    let N = node a w kids next in
    let down : flat_map (paths_below N) (map (behind_byte a) (floor d kids)) ≡ map (behind_byte a) (floor (suc d) kids) =
    all-down a w kids next (floor d kids) ∙ ap (map (behind_byte a)) (sym (floor-next d kids s.2)) in
    let along : flat_map (paths_below N) (floor (suc d) next) ≡ floor (suc (suc d)) next =
    all-along a w kids next (floor (suc d) next) (floor-starts (suc d) a next s.0 s.3) ∙ sym (floor-next (suc d) next s.3) in
    sym (flat_map-append (paths_below N) (map (behind_byte a) (floor d kids)) (floor (suc d) next) ∙ ap₂ (λ (x y : List Key). x ++ y) down along)

-- ---- the children of a path, picked from the level below it

pub keep_append : {A : Type 0} (test : A → Bool) (xs ys : List A) → keep test (xs ++ ys) ≡ keep test xs ++ keep test ys
unfolding keep
keep_append test [] ys = refl
keep_append test (x ∷ xs) ys = go (test x) refl (keep_append test xs ys)
  where
    go : (b : Bool) → test x ≡ b → keep test (xs ++ ys) ≡ keep test xs ++ keep test ys → keep test ((x ∷ xs) ++ ys) ≡ keep test (x ∷ xs) ++ keep test ys
    go true e ih = rw (e, ih)
    go false e ih = rw (e, ih)

keep_same : (a : ℕ) (p : Key) (xs : List Key) → keep (begins_with (a ∷ p)) (map (behind_byte a) xs) ≡ map (behind_byte a) (keep (begins_with p) xs)
unfolding keep begins_with
keep_same a p [] = refl
keep_same a p (x ∷ xs) = go (begins_with p x) refl (keep_same a p xs)
  where
    go : (b : Bool) → begins_with p x ≡ b → keep (begins_with (a ∷ p)) (map (behind_byte a) xs) ≡ map (behind_byte a) (keep (begins_with p) xs)
        → keep (begins_with (a ∷ p)) (map (behind_byte a) (x ∷ xs)) ≡ map (behind_byte a) (keep (begins_with p) (x ∷ xs))
    go true e ih = rw (eqb_refl, e, ih)
    go false e ih = rw (eqb_refl, e, ih)

keep-other : (a b : ℕ) (p : Key) (xs : List Key) → eqb a b ≡ false → keep (begins_with (a ∷ p)) (map (behind_byte b) xs) ≡ []
unfolding keep begins_with
keep-other a b p [] h = refl
keep-other a b p (x ∷ xs) h = rw h (keep-other a b p xs h)

keep-starts : (a : ℕ) (p : Key) (xs : List Key) → All (Starts a) xs → keep (begins_with (a ∷ p)) xs ≡ []
unfolding keep begins_with
keep-starts a p [] s = refl
keep-starts a p ([] ∷ xs) s = absurd s.0
keep-starts a p ((b ∷ x) ∷ xs) s = rw (ne_eqb a b (λ e. omega (arith, s.0))) (keep-starts a p xs s.1)

keep-branch : (a : ℕ) (p : Key) (d : ℕ) (f : Forest) → Orderly f
    → keep (begins_with (a ∷ p)) (floor (suc d) f) ≡ map (behind_byte a) (keep (begins_with p) (floor d (branch a f).1))
unfolding floor branch
keep-branch a p d empty s = unfold keep in refl
keep-branch a p d (node b w kids next) s = go (eqb a b) refl (keep-branch a p d next s.3)
  where
    go : (t : Bool) → eqb a b ≡ t → keep (begins_with (a ∷ p)) (floor (suc d) next) ≡ map (behind_byte a) (keep (begins_with p) (floor d (branch a next).1))
        → keep (begins_with (a ∷ p)) (floor (suc d) (node b w kids next)) ≡ map (behind_byte a) (keep (begins_with p) (floor d (branch a (node b w kids next)).1))
    go true e ih =
        let l : a ≡ b = eqb-true a b e in
        let own : keep (begins_with (a ∷ p)) (map (behind_byte b) (floor d kids)) ≡ map (behind_byte a) (keep (begins_with p) (floor d kids)) =
        rw (← l) (keep_same a p (floor d kids)) in
        keep_append (begins_with (a ∷ p)) (map (behind_byte b) (floor d kids)) (floor (suc d) next)
        ∙ rw (own, keep-starts a p (floor (suc d) next) (floor-starts (suc d) a next (rw l s.0) s.3), e, append-nil)
    go false e ih =
        keep_append (begins_with (a ∷ p)) (map (behind_byte b) (floor d kids)) (floor (suc d) next) ∙ rw (keep-other a b p (floor d kids) e, e, ih)

keep_all : (ps : List Key) → keep (begins_with []) ps ≡ ps
unfolding keep begins_with
keep_all [] = refl
keep_all (p ∷ ps) = ap (λ (l : List Key). p ∷ l) (keep_all ps)

keep-paths : (p : Key) (w : Option ℕ) (f : Forest) → Orderly f → keep (begins_with p) (floor (length p) f) ≡ map (λ (q : Key). p ++ q) (floor 0 (descend p (w, f)).1)
unfolding descend
keep-paths [] w f s = keep_all (floor 0 f) ∙ sym (map_same (floor 0 f))
keep-paths (a ∷ p) w f s =
    let below = branch a f in
    keep-branch a p (length p) f s
    ∙ ap (map (behind_byte a)) (keep-paths p below.0 below.1 (branch-orderly a f s))
    ∙ map-map (behind_byte a) (λ (q : Key). p ++ q) (floor 0 (descend p below).1)

pub children_in-forest : (f : Forest) → Orderly f → (p : Key) → children_in (list_forest f) p ≡ paths_below f p
unfolding children_in paths_below
children_in-forest f s p = rw (level-floor f s (length p)) (keep-paths p None f s)

-- ---- all the levels

level-deep : (d : ℕ) (m : Map) → deepest m < d → level d m ≡ []
unfolding level deepest
level-deep d [] h = refl
level-deep d (e ∷ m) h = rw (lt-leb d (length e.0) (omega arith)) (level-deep d m (omega arith))

levels-last : (n d : ℕ) (m : Map) → levels (suc n) d m ≡ levels n d m ++ level (n + d) m
unfolding levels
levels-last zero d m = append-nil (level d m) ∙ ap (λ (k : ℕ). level k m) (sym (zero-add d))
levels-last (suc n) d m =
    let e : n + suc d ≡ suc n + d = omega arith in
    ap (λ (l : List Key). level d m ++ l) (levels-last n (suc d) m ∙ ap (λ (k : ℕ). levels n (suc d) m ++ level k m) e)
    ∙ sym (append_assoc (level d m) (levels n (suc d) m) (level (suc n + d) m))

levels-first : (n d : ℕ) (m : Map) → levels (suc n) d m ≡ level d m ++ levels n (suc d) m
unfolding levels
levels-first n d m = refl

levels-next : (n d : ℕ) (f : Forest) → Orderly f → flat_map (paths_below f) (levels n (suc d) (list_forest f)) ≡ levels n (suc (suc d)) (list_forest f)
unfolding levels
levels-next zero d f s = unfold flat_map in refl
levels-next (suc n) d f s =
    flat_map-append (paths_below f) (level (suc d) (list_forest f)) (levels n (suc (suc d)) (list_forest f))
    ∙ ap₂ (λ (x y : List Key). x ++ y)
    (ap (flat_map (paths_below f)) (level-floor f s d) ∙ sym (floor-next d f s) ∙ sym (level-floor f s (suc d)))
    (levels-next n (suc d) f s)

pub paths-prefixes : (f : Forest) → Orderly f → flat_map (paths_below f) ([] ∷ prefixes (list_forest f)) ≡ prefixes (list_forest f)
unfolding flat_map prefixes
paths-prefixes f s =
    let m = list_forest f in
    let n = deepest m in
    let top : paths_below f [] ≡ level 1 m = paths-top f ∙ sym (level-floor f s 0) in
    let ends : level (n + 1) m ≡ [] = level-deep (n + 1) m (omega arith) in
    ap₂ (λ (x y : List Key). x ++ y) top (levels-next n 0 f s)
    ∙ sym (levels-first n 1 m)
    ∙ levels-last n 1 m
    ∙ ap (λ (l : List Key). levels n 1 m ++ l) ends
    ∙ append-nil (levels n 1 m)

flat_map-cong : {A B : Type 0} (g h : A → List B) → ((x : A) → g x ≡ h x) → (xs : List A) → flat_map g xs ≡ flat_map h xs
unfolding flat_map
flat_map-cong g h e [] = refl
flat_map-cong g h e (x ∷ xs) = rw (e x, flat_map-cong g h e xs)

pub forest-children : (f : Forest) → Orderly f → prefixes (list_forest f) ≡ flat_map (children_in (list_forest f)) ([] ∷ prefixes (list_forest f))
forest-children f s =
    sym (flat_map-cong (children_in (list_forest f)) (paths_below f) (children_in-forest f s) ([] ∷ prefixes (list_forest f)) ∙ paths-prefixes f s)

pub prefixes-children : (m : Map) → Catalogue m → prefixes m ≡ flat_map (children_in m) ([] ∷ prefixes m)
prefixes-children m c = rw (list_forest-tree_of m c) at (forest-children (tree_of m).1 (tree_of-orderly m))
