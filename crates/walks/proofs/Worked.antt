-- R-7's rule on small slices, computed: of equal labels the lowest number, labels that fall, and value 0. Assumes nothing.
use mathlib.Core.Path.{◌≡◌, refl}
use mathlib.Core.List.{[], ◌∷◌}
use Rattle.std.specs.Prelude.{Some}
use Rattle.keymap.specs.Bits.{bit, sum_below}
use Rattle.louds.specs.Rank.{gap}
use Rattle.louds.specs.Select.{kth}
use Rattle.louds.specs.Nodes.{run_from, children_of}
use Rattle.walks.specs.Rule.{matches, is_child_by, lowest_by, child_by, value_of_node}

-- bits 1 0 1 1 0 0 0: node 1 has the children 2 and 3
pub worked-rule : (child_by (353 ∷ 353 ∷ []) (bit (13 ∷ [])) 7 1 97 ≡ Some 2)
    × (child_by (354 ∷ 353 ∷ []) (bit (13 ∷ [])) 7 1 97 ≡ Some 3)
    × (child_by (354 ∷ 353 ∷ []) (bit (13 ∷ [])) 7 1 98 ≡ Some 2)
    × (value_of_node (353 ∷ 353 ∷ []) (0 ∷ 5 ∷ []) 2 ≡ Some 0)
unfolding child_by lowest_by is_child_by matches value_of_node children_of run_from kth gap bit sum_below
worked-rule = (refl, refl, refl, refl)
