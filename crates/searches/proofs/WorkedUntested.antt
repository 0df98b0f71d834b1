-- R-7's rule on small slices, one computed statement over one table: the labels, the values, the words, a query, and what the lookup says of it. Each group is a case of one rule.
-- Assumes nothing.
use mathlib.Core.Path.{◌≡◌, refl}
use mathlib.Core.List.{List, [], ◌∷◌, map}
use Prim.Native.Nat.{ℕ}
use Rattle.keymap.specs.Bits.{bit, sum_below}
use Rattle.keymap.specs.Key.{Key}
use Rattle.louds.specs.Rank.{gap}
use Rattle.louds.specs.Select.{kth}
use Rattle.louds.specs.Nodes.{run_from, children_of}
use Rattle.image.specs.AcceptTest.{lengths_fit}
use Rattle.image.specs.Meaning.{as_image}
use Rattle.walks.specs.Rule.{matches, is_child_by, lowest_by, child_by, walked_from, value_of_node}
use Rattle.searches.specs.Untested.{untested_says}

abbrev Case : Type 0
Case = List ℕ × List ℕ × List ℕ × Key × List ℕ

abbrev answers : List Case → List Case
answers = map (λ (c : Case). (c.0, c.1, c.2, c.3, untested_says (as_image c.0 c.1 c.2) c.3))

-- the labels of map A: "a", "b" and "ab"
abbrev a3 : List ℕ
a3 = 97 ∷ 354 ∷ 354 ∷ []

abbrev cases : List Case
cases =
    -- map A, "ab" 7 and "b" 3
    (a3, 0 ∷ 3 ∷ 7 ∷ [], 45 ∷ [], 97 ∷ 98 ∷ [], 0 ∷ 7 ∷ [])
    ∷ (a3, 0 ∷ 3 ∷ 7 ∷ [], 45 ∷ [], 98 ∷ [], 0 ∷ 3 ∷ [])
    ∷ (a3, 0 ∷ 3 ∷ 7 ∷ [], 45 ∷ [], 97 ∷ [], 0 ∷ [])
    ∷ (a3, 0 ∷ 3 ∷ 7 ∷ [], 45 ∷ [], [], 0 ∷ [])
    ∷ (a3, 0 ∷ 3 ∷ 7 ∷ [], 45 ∷ [], 97 ∷ 98 ∷ 98 ∷ [], 0 ∷ [])
    -- a bit beyond the 2n+3 is not read, and is no reason to refuse
    ∷ (a3, 0 ∷ 3 ∷ 7 ∷ [], 557 ∷ [], 97 ∷ 98 ∷ [], 0 ∷ 7 ∷ [])
    -- lengths that do not fit
    ∷ (a3, 0 ∷ 3 ∷ [], 45 ∷ [], 97 ∷ 98 ∷ [], 6 ∷ [])
    ∷ (a3, 0 ∷ 3 ∷ 7 ∷ [], 45 ∷ 0 ∷ [], [], 6 ∷ [])
    -- bits 0 1 1 0 0: of node 1's children 1 and 2 the first is not above it
    ∷ (353 ∷ [], 9 ∷ [], 6 ∷ [], 97 ∷ [], 0 ∷ 9 ∷ [])
    -- bits 1 0 1 1 1: of 2, 3 and 4 the last two are above n+1, and the run ends with the bits
    ∷ (353 ∷ [], 9 ∷ [], 29 ∷ [], 97 ∷ [], 0 ∷ 9 ∷ [])
    ∷ (354 ∷ [], 9 ∷ [], 29 ∷ [], 97 ∷ [], 0 ∷ [])
    -- equal labels: the lowest; unsorted ones are found; an entry of 512 or more matches nothing
    ∷ (353 ∷ 353 ∷ [], 5 ∷ 6 ∷ [], 13 ∷ [], 97 ∷ [], 0 ∷ 5 ∷ [])
    ∷ (354 ∷ 353 ∷ [], 5 ∷ 6 ∷ [], 13 ∷ [], 97 ∷ [], 0 ∷ 6 ∷ [])
    ∷ (609 ∷ 353 ∷ [], 5 ∷ 6 ∷ [], 13 ∷ [], 97 ∷ [], 0 ∷ 6 ∷ [])
    ∷ (865 ∷ 97 ∷ [], 5 ∷ 6 ∷ [], 13 ∷ [], 97 ∷ [], 0 ∷ [])
    -- the lowest of two is taken though only the other goes on
    ∷ (97 ∷ 97 ∷ 354 ∷ [], 0 ∷ 0 ∷ 8 ∷ [], 77 ∷ [], 97 ∷ 98 ∷ [], 0 ∷ [])
    -- the first bit 0, and the only child is numbered 1
    ∷ (353 ∷ [], 9 ∷ [], 2 ∷ [], 97 ∷ [], 0 ∷ [])
    -- bits 1 0 1 1 1: one zero alone, so that node 2 has no children
    ∷ (353 ∷ [], 9 ∷ [], 29 ∷ [], 97 ∷ 97 ∷ [], 0 ∷ [])
    -- an entry from 256 to 511 has a value: 511 has, 512 and 255 have none
    ∷ (511 ∷ [], 9 ∷ [], 5 ∷ [], 255 ∷ [], 0 ∷ 9 ∷ [])
    ∷ (512 ∷ [], 9 ∷ [], 5 ∷ [], 0 ∷ [], 0 ∷ [])
    ∷ (65535 ∷ [], 9 ∷ [], 5 ∷ [], 255 ∷ [], 0 ∷ [])
    ∷ (255 ∷ [], 9 ∷ [], 5 ∷ [], 255 ∷ [], 0 ∷ [])
    ∷ (256 ∷ [], 9 ∷ [], 5 ∷ [], 0 ∷ [], 0 ∷ 9 ∷ [])
    -- n = 0: the empty query and any other have no match
    ∷ ([], [], 1 ∷ [], [], 0 ∷ [])
    ∷ ([], [], 1 ∷ [], 97 ∷ [], 0 ∷ [])
    -- bits 1 1 1: no first zero, though the word has zeros behind them
    ∷ ([], [], 7 ∷ [], 97 ∷ [], 0 ∷ [])
    ∷ []

pub worked-untested : answers cases ≡ cases
unfolding bit gap sum_below kth run_from children_of lengths_fit matches is_child_by lowest_by child_by walked_from value_of_node untested_says
worked-untested = refl
