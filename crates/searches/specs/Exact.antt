-- Exact matches (01, module 5): `exact_match`, "the value, or no match; the empty query never matches"; the call that
-- sets the value of a present key,
-- which "answers the old value and writes that one entry; if absent, no match, nothing written"; and `is_prefix`.
--
--     keyed_in                                the node and the value of a key, on any slices by R-7's rule
--     goes_on                                 the node at a query has children, on any slices
--     exact_says, set_values, is_prefix_says  what the calls promise, of the map
-- Assumes nothing.
use Rattle.std.specs.Prelude.{ℕ, ◌-◌, Bool, false, cond, List, length, set, ltb, Option, None, Some}
use Rattle.keymap.specs.Key.{Key}
use Rattle.keymap.specs.Map.{lookup}
use Rattle.keymap.specs.Queries.{is_prefix_in}
use Rattle.keymap.specs.Answers.{says_value, says_flag}
use Rattle.keymap.specs.Bits.{bit}
use Rattle.keymap.specs.Image.{Image, bits_for}
use Rattle.keymap.specs.Paths.{node_of}
use Rattle.keymap.specs.Decode.{image_map}
use Rattle.image.specs.AcceptTest.{image_test}
use Rattle.image.specs.AcceptAnswer.{on_image}
use Rattle.walks.specs.Rule.{walked, node_by, found_by}
use Rattle.walks.specs.Stands.{stand_at, kids_from}
use Rattle.walks.specs.declared.entries.KeyNode.{KeyNode}

-- ---- on any slices

-- a key by its node and its value
abbrev pub keyed : Option ℕ → Option ℕ → Option KeyNode
keyed None o = None
keyed (Some m) None = None
keyed (Some m) (Some v) = Some (record { node = m; value = v })

unfoldable pub keyed_in : Image → Key → Option KeyNode
keyed_in i q = keyed (node_by i q) (found_by i q)

abbrev pub goes_on_from : (ℕ → ℕ) → ℕ → Option ℕ → Bool
goes_on_from b len None = false
goes_on_from b len (Some k) = ltb 0 (kids_from b len (stand_at b len k)).count

unfoldable pub goes_on : List ℕ → List ℕ → Key → Bool
goes_on ls ws q = goes_on_from (bit ws) (bits_for (length ls)) (walked ls (bit ws) (bits_for (length ls)) q)

-- ---- what the calls promise, of the map

unfoldable pub exact_says : Image → Key → List ℕ
exact_says i q = on_image i (says_value (lookup q (image_map i)))

-- the values with v for the node's: node m has entry m - 2
abbrev pub set_at : List ℕ → ℕ → Option ℕ → ℕ → List ℕ
set_at vs node None v = vs
set_at vs node (Some w) v = set vs (node - 2) v

unfoldable pub set_values : Image → Key → ℕ → List ℕ
set_values i q v = cond (image_test i) (set_at i.values (node_of (image_map i) q) (lookup q (image_map i)) v) i.values

unfoldable pub is_prefix_says : Image → Key → List ℕ
is_prefix_says i q = on_image i (says_flag (is_prefix_in q (image_map i)))
