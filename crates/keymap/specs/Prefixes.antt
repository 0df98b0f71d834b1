-- The distinct nonempty prefixes of a map's keys: the records that a pool has in use, and an image's nodes besides the
-- root (01, demand 3).
--
--     level         the distinct prefixes of one length, rising
--     prefixes      all of them, in breadth-first order
--     Earlier       that order: the shorter first, and rising among those of a length
--     prefixes_of   the nonempty prefixes of one key
--     missing       how many of those no key of a map begins with
-- Assumes nothing.
use Rattle.std.specs.Prelude.{◌≡◌, ◌⊎◌, ℕ, zero, suc, ◌<◌, max, cond, not, List, [], ◌∷◌, ◌++◌, map, length, take, leb}
use Rattle.keymap.specs.Key.{Key, Below, same_key}
use Rattle.keymap.specs.Map.{Map}
use Rattle.keymap.specs.Queries.{keep, nonempty, beginning}

-- p before ps, unless ps begins with it already
abbrev pub once : Key → List Key → List Key
once p [] = p ∷ []
once p (q ∷ ps) = cond (same_key p q) (q ∷ ps) (p ∷ q ∷ ps)

unfoldable pub level : ℕ → Map → List Key
level d [] = []
level d (e ∷ m) = cond (leb d (length e.0)) (once (take d e.0) (level d m)) (level d m)

-- the length of the longest key
unfoldable pub deepest : Map → ℕ
deepest [] = 0
deepest (e ∷ m) = max (length e.0) (deepest m)

-- n levels, from level d on
unfoldable pub levels : ℕ → ℕ → Map → List Key
levels zero d m = []
levels (suc n) d m = level d m ++ levels n (suc d) m

unfoldable pub prefixes : Map → List Key
prefixes m = levels (deepest m) 1 m

abbrev pub Earlier : Key → Key → Type 0
Earlier p q = (length p < length q) ⊎ ((length p ≡ length q) × Below p q)

unfoldable pub prefixes_of : Key → List Key
prefixes_of [] = []
prefixes_of (a ∷ k) = (a ∷ []) ∷ map (λ (p : Key). a ∷ p) (prefixes_of k)

unfoldable pub missing : Key → Map → ℕ
missing k m = length (keep (λ (p : Key). not (nonempty (beginning p m))) (prefixes_of k))
