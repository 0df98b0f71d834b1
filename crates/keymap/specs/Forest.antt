-- The trie of a map as a pool links it: each node names its first child and its next sibling.
-- The reader of a promise needs none of this; it carries the proofs between records, images and maps.
--
--     Forest        siblings, each with what hangs below it
--     Tree          what hangs below a path: a value, perhaps, and the children
--     branch        what hangs below a label among siblings
--     descend       what hangs below a path
--     value_at      the value at a path
--     grow          the tree with a path's value set
--     tree_of       the tree of a map
--     list_tree     the map of a tree: depth first, so rising
--     Orderly       siblings rise, and a node without value has a child: exactly the tries of maps
--     size, width   how many nodes, how many siblings
-- Assumes nothing.
use Prim.Native.Nat.{ℕ, zero, suc, ◌+◌, ◌<◌, compare}
use Rattle.std.specs.Prelude.{cond, [], ◌∷◌, ◌++◌, map, eqb, Option, None, Some}
use Rattle.keymap.specs.Key.{Key, pick}
use Rattle.keymap.specs.Limits.{byte_limit}
use Rattle.keymap.specs.Map.{Entry, Map}

pub data Forest : Type 0 where
  empty : Forest
  node : ℕ → Option ℕ → Forest → Forest → Forest  -- label, value, first child, next sibling

abbrev pub Tree : Type 0
Tree = Option ℕ × Forest

-- nothing at all
abbrev pub bare : Tree
bare = (None, empty)

-- t under the label a, before the siblings f
abbrev pub hang : ℕ → Tree → Forest → Forest
hang a t f = node a t.0 t.1 f

unfoldable pub branch : ℕ → Forest → Tree
branch a empty = bare
branch a (node b w kids next) = cond (eqb a b) (w, kids) (branch a next)

unfoldable pub descend : Key → Tree → Tree
descend [] t = t
descend (a ∷ k) t = descend k (branch a t.1)

unfoldable pub value_at : Key → Tree → Option ℕ
value_at [] t = t.0
value_at (a ∷ k) t = value_at k (branch a t.1)

-- what hangs below a, changed by g; it is made where there is no a
unfoldable pub alter : ℕ → (Tree → Tree) → Forest → Forest
alter a g empty = hang a (g bare) empty
alter a g (node b w kids next) =
    pick (compare a b) (hang a (g bare) (node b w kids next)) (hang b (g (w, kids)) next)
    (node b w kids (alter a g next))

unfoldable pub grow : Key → ℕ → Tree → Tree
grow [] v t = (Some v, t.1)
grow (a ∷ k) v t = (t.0, alter a (grow k v) t.1)

unfoldable pub tree_of : Map → Tree
tree_of [] = bare
tree_of (e ∷ m) = grow e.0 e.1 (tree_of m)

-- the entry of a path's own value
abbrev pub own_entry : Option ℕ → Map
own_entry None = []
own_entry (Some v) = ([], v) ∷ []

abbrev pub behind_label : ℕ → Entry → Entry
behind_label a e = (a ∷ e.0, e.1)

unfoldable pub list_forest : Forest → Map
list_forest empty = []
list_forest (node a w kids next) = map (behind_label a) (own_entry w ++ list_forest kids) ++ list_forest next

unfoldable pub list_tree : Tree → Map
list_tree t = own_entry t.0 ++ list_forest t.1

-- a is below the first label
abbrev pub Above : ℕ → Forest → Type 0
Above a empty = Unit {0}
Above a (node b w kids next) = a < b

-- a value or a child
abbrev pub Live : Option ℕ → Forest → Type 0
Live (Some v) kids = Unit {0}
Live None empty = ⊥
Live None (node b w kids next) = Unit {0}

abbrev pub Orderly : Forest → Type 0
Orderly empty = Unit {0}
Orderly (node a w kids next) = Above a next × Live w kids × Orderly kids × Orderly next

-- every label is a byte
abbrev pub ByteLabels : Forest → Type 0
ByteLabels empty = Unit {0}
ByteLabels (node a w kids next) = (a < byte_limit) × ByteLabels kids × ByteLabels next

unfoldable pub size : Forest → ℕ
size empty = zero
size (node a w kids next) = suc (size kids + size next)

unfoldable pub width : Forest → ℕ
width empty = zero
width (node a w kids next) = suc (width next)

-- the siblings g behind the siblings f
unfoldable pub join : Forest → Forest → Forest
join empty g = g
join (node a w kids next) g = node a w kids (join next g)
