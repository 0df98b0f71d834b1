-- The distinct prefixes of each length, read off the map, are the paths of each depth, read off its trie.
--
--     floor           the paths of one depth
--     level-floor     level d + 1 of a listing is floor d of its forest
-- Assumes nothing.
use mathlib.Core.Path.{◌≡◌, refl, ◌∙◌}
use Prim.Native.Nat.{ℕ, zero, suc, ◌<◌, Ordering}
use mathlib.Core.Bool.{Bool, true, false}
use mathlib.Core.List.{List, [], ◌∷◌, ◌++◌, map}
use Rattle.std.specs.Prelude.{Option, None, Some}
use lib.ListN.{length, take}
use lib.Dec.{leb, leb-zero, leb-suc-zero, leb-suc-suc}
use Rattle.keymap.specs.Key.{Key, compare_keys}
use Rattle.keymap.specs.Map.{Map}
use Rattle.keymap.specs.Forest.{Forest, empty, node, own_entry, behind_label, list_forest, Above, Orderly}
use Rattle.keymap.specs.Prefixes.{once, level}
use Rattle.keymap.proofs.Laws.Key.{compare-lt, compare_refl}
use Rattle.keymap.proofs.Laws.Forest.{above-weak}
use Rattle.keymap.proofs.Laws.Listing.{HasEntry, list_tree-some}

abbrev pub behind_byte : ℕ → Key → Key
behind_byte a p = a ∷ p

-- the paths of d + 1 bytes
unfoldable pub floor : ℕ → Forest → List Key
floor d empty = []
floor zero (node a w kids next) = (a ∷ []) ∷ floor zero next
floor (suc d) (node a w kids next) = map (behind_byte a) (floor d kids) ++ floor (suc d) next

-- each of the keys begins with a byte above a
abbrev pub Starts : ℕ → Key → Type 0
Starts a [] = ⊥
Starts a (b ∷ k) = a < b

abbrev pub All : (Key → Type 0) → List Key → Type 0
All P [] = Unit {0}
All P (p ∷ ps) = P p × All P ps

pub all_append : (P : Key → Type 0) (ps qs : List Key) → All P ps → All P qs → All P (ps ++ qs)
all_append P [] qs h k = k
all_append P (p ∷ ps) qs h k = (h.0, all_append P ps qs h.1 k)

all_under : (a b : ℕ) (ps : List Key) → a < b → All (Starts a) (map (behind_byte b) ps)
all_under a b [] h = tt
all_under a b (p ∷ ps) h = (h, all_under a b ps h)

pub floor-starts : (d a : ℕ) (f : Forest) → Above a f → Orderly f → All (Starts a) (floor d f)
unfolding floor
floor-starts d a empty h s = tt
floor-starts zero a (node b w kids next) h s = (h, floor-starts zero a next (above-weak a b next h s.0) s.3)
floor-starts (suc d) a (node b w kids next) h s =
    all_append (Starts a) (map (behind_byte b) (floor d kids)) (floor (suc d) next) (all_under a b (floor d kids) h) (floor-starts (suc d) a next (above-weak a b next h s.0) s.3)

-- ---- level d + 1 of the entries is floor d

once_under : (a : ℕ) (p : Key) (ys zs : List Key) → All (Starts a) zs → once (a ∷ p) (map (behind_byte a) ys ++ zs) ≡ map (behind_byte a) (once p ys) ++ zs
unfolding compare_keys
once_under a p [] [] h = refl
once_under a p [] ([] ∷ zs) h = absurd h.0
once_under a p [] ((b ∷ z) ∷ zs) h = rw (compare-lt a b h.0)
once_under a p (y ∷ ys) zs h = go (compare_keys p y) refl
  where
    go : (o : Ordering) → compare_keys p y ≡ o → once (a ∷ p) (map (behind_byte a) (y ∷ ys) ++ zs) ≡ map (behind_byte a) (once p (y ∷ ys)) ++ zs
    go Ordering.lt e = rw (compare_refl, e)
    go Ordering.eq e = rw (compare_refl, e)
    go Ordering.gt e = rw (compare_refl, e)

level-under : (d a : ℕ) (l m : Map) → All (Starts a) (level (suc d) m) → level (suc d) (map (behind_label a) l ++ m) ≡ map (behind_byte a) (level d l) ++ level (suc d) m
unfolding level
level-under d a [] m h = refl
level-under d a (e ∷ l) m h = go (leb d (length e.0)) refl (level-under d a l m h)
  where
    go : (b : Bool) → leb d (length e.0) ≡ b → level (suc d) (map (behind_label a) l ++ m) ≡ map (behind_byte a) (level d l) ++ level (suc d) m
        → level (suc d) (map (behind_label a) (e ∷ l) ++ m) ≡ map (behind_byte a) (level d (e ∷ l)) ++ level (suc d) m
    go true p ih = rw (leb-suc-suc, p, ih) (once_under a (take d e.0) (level d l) (level (suc d) m) h)
    go false p ih = rw (leb-suc-suc, p, ih)

level-zero : (l : Map) → HasEntry l → level 0 l ≡ [] ∷ []
unfolding level compare_keys
level-zero [] s = absurd s
level-zero (e ∷ []) s = rw leb-zero
level-zero (e ∷ d ∷ l) s = rw (leb-zero (length e.0), level-zero (d ∷ l) tt)

level-self : (d : ℕ) (w : Option ℕ) (m : Map) → level (suc d) (own_entry w ++ m) ≡ level (suc d) m
unfolding level
level-self d None m = refl
level-self d (Some v) m = rw leb-suc-zero

pub level-floor : (f : Forest) → Orderly f → (d : ℕ) → level (suc d) (list_forest f) ≡ floor d f
unfolding list_forest floor
level-floor empty s d = unfold level in refl
level-floor (node a w kids next) s d = go d (level-floor next s.3 d) (level-floor kids s.2)
  where
    go : (d : ℕ) → level (suc d) (list_forest next) ≡ floor d next → ((c : ℕ) → level (suc c) (list_forest kids) ≡ floor c kids)
        → level (suc d) (list_forest (node a w kids next)) ≡ floor d (node a w kids next)
    go zero i j = level-under zero a (own_entry w ++ list_forest kids) (list_forest next) (rw i (floor-starts zero a next s.0 s.3)) ∙ rw (level-zero (own_entry w ++ list_forest kids) (list_tree-some kids w s.1 s.2), i)
    go (suc c) i j = level-under (suc c) a (own_entry w ++ list_forest kids) (list_forest next) (rw i (floor-starts (suc c) a next s.0 s.3)) ∙ rw (level-self, j, i)
