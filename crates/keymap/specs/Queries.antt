-- What 01 asks of a map (modules 5 and 6; goto of module 7 is `common_of_all` of `longer`). Any engine that answers
-- from a map is held to these; the exact match is `lookup`.
--
--     beginning          the predictive listing of a query: the keys that begin with it
--     longer             its postfix listing: those that are longer besides
--     is_prefix_in       some key begins with the query and is longer
--     common_of_all      the longest common prefix of all keys of a map
--     longest_prefix_in  that of the keys that begin with the query, unless there are none or it is empty
--     common_prefix_in   the shortest key that is a prefix of the query and longer than a length already seen
--     least_above        the least key above another: what the next step of a listing gives
--
-- The claims `LongestCommon`, `ShortestWithin` and `NextAfter` are 01's words for the last four: their laws say which
-- answer is claimed, and when there is none.
-- Assumes nothing.
use Rattle.std.specs.Prelude.{ℕ, ◌≤◌, ◌<◌, Bool, true, false, cond, ◌&&◌, length, ltb, Option, None, Some}
use mathlib.Core.List.{List, [], ◌∷◌}
use Rattle.keymap.specs.Members.{In, head_of}
use Rattle.keymap.specs.Key.{Key, Below, is_below, PrefixOf, begins_with, extends, common_prefix}
use Rattle.keymap.specs.Map.{Entry, Map}

-- those that a test keeps, in their order
unfoldable pub keep : {A : Type 0} → (A → Bool) → List A → List A
keep test [] = []
keep test (x ∷ xs) = cond (test x) (x ∷ keep test xs) (keep test xs)

abbrev pub nonempty : {A : Type 0} → List A → Bool
nonempty [] = false
nonempty (x ∷ xs) = true

-- some key of m begins with q
abbrev pub SomeBegins : Key → Map → Type 0
SomeBegins q m = (e : Entry) × In e m × PrefixOf q e.0

unfoldable pub beginning : Key → Map → Map
beginning q m = keep (λ (e : Entry). begins_with q e.0) m

unfoldable pub longer : Key → Map → Map
longer q m = keep (λ (e : Entry). extends q e.0) m

unfoldable pub is_prefix_in : Key → Map → Bool
is_prefix_in q m = nonempty (longer q m)

-- all keys of m begin with p, and with nothing longer
pub record LongestCommon (m : Map) (p : Key) : Type 0 where
  pub common : (e : Entry) → In e m → PrefixOf p e.0
  pub longest : (r : Key) → ((e : Entry) → In e m → PrefixOf r e.0) → length r ≤ length p

unfoldable pub common_of_all : Map → Key
common_of_all [] = []
common_of_all (e ∷ []) = e.0
common_of_all (e ∷ d ∷ m) = common_prefix e.0 (common_of_all (d ∷ m))

abbrev pub unless_empty : Key → Option Key
unless_empty [] = None
unless_empty (a ∷ k) = Some (a ∷ k)

unfoldable pub longest_prefix_in : Key → Map → Option Key
longest_prefix_in q m = unless_empty (common_of_all (beginning q m))

pub record ShortestWithin (q : Key) (seen : ℕ) (m : Map) (e : Entry) : Type 0 where
  pub entry : In e m
  pub within : PrefixOf e.0 q
  pub beyond : seen < length e.0
  pub shortest : (d : Entry) → In d m → PrefixOf d.0 q → seen < length d.0 → length e.0 ≤ length d.0

-- keys that are prefixes of one query rise with their lengths, so the first is the shortest
unfoldable pub common_prefix_in : Key → ℕ → Map → Option Entry
common_prefix_in q seen m = head_of (keep (λ (e : Entry). begins_with e.0 q && ltb seen (length e.0)) m)

pub record NextAfter (k : Key) (m : Map) (e : Entry) : Type 0 where
  pub entry : In e m
  pub above : Below k e.0
  pub least : (d : Entry) → In d m → Below k d.0 → ¬ Below d.0 e.0

unfoldable pub least_above : Key → Map → Option Entry
least_above k m = head_of (keep (λ (e : Entry). is_below k e.0) m)
