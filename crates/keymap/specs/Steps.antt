-- The next of some paths in byte order. A listing goes from node to node below its top in this order, and gives those
-- that have a value.
--
--     NextIn        the least of some paths above a path
--     LastIn        none of them is above it
--     paths_below   the paths of the nodes below a top, its own among them
--     nodes_above   how many nodes' paths are above a path
--     upper         a path without its last byte: its parent's
-- Assumes nothing.
use Rattle.std.specs.Prelude.{ℕ, List, [], ◌∷◌, length}
use Rattle.keymap.specs.Members.{In}
use Rattle.keymap.specs.Key.{Key, Below, is_below, begins_with}
use Rattle.keymap.specs.Map.{Map}
use Rattle.keymap.specs.Queries.{keep}
use Rattle.keymap.specs.Paths.{nodes}

pub record NextIn (ps : List Key) (x y : Key) : Type 0 where
  pub among : In y ps
  pub above : Below x y
  pub least : (z : Key) → In z ps → Below x z → ¬ Below z y

abbrev pub LastIn : List Key → Key → Type 0
LastIn ps x = (z : Key) → In z ps → ¬ Below x z

unfoldable pub paths_below : Map → Key → List Key
paths_below m p = keep (begins_with p) (nodes m)

unfoldable pub nodes_above : Map → Key → ℕ
nodes_above m x = length (keep (is_below x) (nodes m))

unfoldable pub upper : Key → Key
upper [] = []
upper (a ∷ []) = []
upper (a ∷ b ∷ k) = a ∷ upper (b ∷ k)
