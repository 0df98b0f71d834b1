-- The nodes of a map's image by their numbers (01, "The image"): "Nodes are numbered from 1 (root) in that order".
--
--     nodes          the root, then the prefixes in breadth-first order: node k stands at index k - 1
--     IsNode         k is the number of a node; `is_node` as a test
--     path_of        the path of node k
--     node_of        the number of the node at a path
--     is_path        a path is a node's
-- Assumes nothing.
use Rattle.std.specs.Prelude.{ℕ, zero, suc, ◌≤◌, Bool, true, cond, ◌&&◌, List, [], ◌∷◌, length, get_or, leb}
use Rattle.keymap.specs.Key.{Key, same_key}
use Rattle.keymap.specs.Map.{Map}
use Rattle.keymap.specs.Queries.{nonempty, beginning}
use Rattle.keymap.specs.Prefixes.{prefixes}

unfoldable pub nodes : Map → List Key
nodes m = [] ∷ prefixes m

abbrev pub IsNode : Map → ℕ → Type 0
IsNode m k = (1 ≤ k) × (k ≤ length (nodes m))

unfoldable pub is_node : Map → ℕ → Bool
is_node m k = leb 1 k && leb k (length (nodes m))

unfoldable pub path_of : Map → ℕ → Key
path_of m zero = []
path_of m (suc i) = get_or (nodes m) i []

-- the index of p in a list, the list's length where p is not there
unfoldable pub index_of : Key → List Key → ℕ
index_of p [] = 0
index_of p (q ∷ ps) = cond (same_key p q) 0 (suc (index_of p ps))

unfoldable pub node_of : Map → Key → ℕ
node_of m p = suc (index_of p (nodes m))

-- p is the path of a node: the root's, or that of a key's prefix
abbrev pub is_path : Map → Key → Bool
is_path m [] = true
is_path m (a ∷ p) = nonempty (beginning (a ∷ p) m)
