-- The map that an image stands for. The rows come in level order, so they are taken from the last to the first:
-- the trees of the rows behind a row stand in a queue, and its children are the last of them.
--
--     rebuild       the forest of some rows
--     rows_in       the rows that an image tells
--     decode        its forest
--     image_map     its map
-- Assumes nothing.
use Rattle.std.specs.Prelude.{ℕ, zero, suc, ◌-◌, List, [], ◌∷◌, length, drop, None}
use Rattle.keymap.specs.Map.{Map}
use Rattle.keymap.specs.Forest.{Forest, empty, node, width, list_tree}
use Rattle.keymap.specs.Label.{label_in, value_in}
use Rattle.keymap.specs.Bits.{unpack}
use Rattle.keymap.specs.Degrees.{degrees_from}
use Rattle.keymap.specs.Image.{Image, bits_for}
use Rattle.keymap.specs.BreadthFirst.{Row}

unfoldable pub take_trees : ℕ → Forest → Forest
take_trees zero f = empty
take_trees (suc n) empty = empty
take_trees (suc n) (node a w kids next) = node a w kids (take_trees n next)

unfoldable pub drop_trees : ℕ → Forest → Forest
drop_trees zero f = f
drop_trees (suc n) empty = empty
drop_trees (suc n) (node a w kids next) = drop_trees n next

-- the row's tree, put before the queue q, of which it takes as many as it has children
unfoldable pub claim : Row → Forest → Forest
claim r q = node r.label r.value (drop_trees (width q - r.degree) q) (take_trees (width q - r.degree) q)

unfoldable pub rebuild : List Row → Forest
rebuild [] = empty
rebuild (r ∷ rs) = claim r (rebuild rs)

abbrev pub row_of : ℕ → ℕ → ℕ → Row
row_of d e v = record { label = label_in e; value = value_in e v; degree = d }

unfoldable pub rows_from : List ℕ → List ℕ → List ℕ → List Row
rows_from [] ls vs = []
rows_from (d ∷ ds) [] vs = []
rows_from (d ∷ ds) (e ∷ ls) [] = []
rows_from (d ∷ ds) (e ∷ ls) (v ∷ vs) = row_of d e v ∷ rows_from ds ls vs

-- what the bits spell: a 1 for the first 1, 0, then the degrees of the root and of the other nodes
unfoldable pub degrees_in : Image → List ℕ
degrees_in i = degrees_from 0 (unpack (bits_for (length i.labels)) i.words)

unfoldable pub rows_in : Image → List Row
rows_in i = rows_from (drop 2 (degrees_in i)) i.labels i.values

unfoldable pub decode : Image → Forest
decode i = rebuild (rows_in i)

unfoldable pub image_map : Image → Map
image_map i = list_tree (None, decode i)
