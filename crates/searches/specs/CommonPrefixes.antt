-- Common prefixes (01, module 6): "given a query and a length already seen, the shortest key longer than that and a
-- prefix of the query.
-- The first call answers its length and value; by the second the match is handed back as that leading part of the query
-- itself.
-- A seen length at or past the query's end gives no match."
--
--     shortest_from             on any slices: the first node on the walk, past what was seen, that has a value, by
--                               R-7's rule
--     common_says, common_part  what the calls promise, of the map
-- Assumes nothing.
use Rattle.std.specs.Prelude.{ℕ, ◌+◌, cond, List, [], ◌∷◌, length, take, leb, Option, None, Some}
use Rattle.keymap.specs.Key.{Key}
use Rattle.keymap.specs.Map.{Entry}
use Rattle.keymap.specs.Queries.{common_prefix_in}
use Rattle.keymap.specs.Bits.{bit}
use Rattle.keymap.specs.Image.{Image, bits_for}
use Rattle.keymap.specs.Decode.{image_map}
use Rattle.image.specs.Accept.{entries}
use Rattle.image.specs.AcceptTest.{image_test}
use Rattle.image.specs.AcceptAnswer.{on_image}
use Rattle.walks.specs.Rule.{step_by, value_at_end}
use Rattle.searches.specs.declared.answers.Common.{Common}

-- what was found at a depth, unless that much was seen
abbrev pub unless_seen : ℕ → ℕ → Option ℕ → Option ℕ
unless_seen seen depth held = cond (leb depth seen) None held

-- ---- on any slices

-- a value found at a depth, or what is found further on
abbrev pub or_further : ℕ → Option ℕ → Option (ℕ × ℕ) → Option (ℕ × ℕ)
or_further depth None further = further
or_further depth (Some v) further = Some (depth, v)

unfoldable pub shortest_from : Image → ℕ → Key → ℕ → Option ℕ → Option (ℕ × ℕ)
shortest_from i seen [] depth at = None
shortest_from i seen (a ∷ q) depth at =
    let next = step_by i.labels (bit i.words) (bits_for (entries i)) a at in
    or_further (depth + 1) (unless_seen seen (depth + 1) (value_at_end i.labels i.values next))
    (shortest_from i seen q (depth + 1) next)

abbrev pub match_of : Option (ℕ × ℕ) → Option Common
match_of None = None
match_of (Some e) = Some (record { length = e.0; value = e.1 })

-- ---- what the calls promise, of the map

abbrev pub says_common : Option Entry → List ℕ
says_common None = 0 ∷ []
says_common (Some e) = 0 ∷ length e.0 ∷ e.1 ∷ []

unfoldable pub common_says : Image → Key → ℕ → List ℕ
common_says i q seen = on_image i (says_common (common_prefix_in q seen (image_map i)))

abbrev pub part_of : Key → Option Entry → Key
part_of q None = []
part_of q (Some e) = take (length e.0) q

-- the leading part of the query, empty where the first call refuses or has no match
unfoldable pub common_part : Image → Key → ℕ → Key
common_part i q seen = cond (image_test i) (part_of q (common_prefix_in q seen (image_map i))) []
