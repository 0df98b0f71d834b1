-- Computed statements, each over a table whose rows have a question and its answer.
-- The nodes of the document's map A, "ab" 7 and "b" 3, and of the five keys of `src/map/trie.rs`: "a", "app", "apple", "better", "application"; a row has a
-- number, the children and the parent. That these are their words is `worked-images` of keymap. Past the last node stand the row of the last zero, which closes
-- an empty run, and one of a number that no bit has.
-- Ones of a word from its j-th on. And selects at the ends of words, in words of zeros, of ones, and of ones behind zeros. Assumes nothing.
use Rattle.std.specs.Prelude.{None, Option, Some}
use Rattle.std.proofs.Common.{◌≡◌, ℕ, List, [], ◌∷◌, map, refl}
use lib.Count.{count_trailing_zeros}
use Rattle.keymap.specs.Bits.{bit, sum_below}
use Rattle.louds.specs.declared.answers.Children.{Children}
use Rattle.louds.specs.Rank.{gap}
use Rattle.louds.specs.Select.{kth, onward, zero_at, zero_from, one_at, one_back}
use Rattle.louds.specs.Taking.{cleared, ones_from}
use Rattle.louds.specs.Nodes.{Run, run_from, children_of, up_from, parent_of}

abbrev Row : Type 0
Row = ℕ × Option Children × Option ℕ

-- what the bits of some words say of the numbers that a table has
abbrev answers : List ℕ → ℕ → List Row → List Row
answers ws len = map (λ (row : Row). (row.0, children_of (bit ws) len row.0, parent_of (bit ws) len row.0))

-- nodes: the root, "a", "b", "ab"
abbrev map_a : List Row
map_a =
    (0, None, None)
    ∷ (1, Run 2 2, Some 0)
    ∷ (2, Run 4 1, Some 1)
    ∷ (3, Run 5 0, Some 1)
    ∷ (4, Run 5 0, Some 2)
    ∷ (5, Run 5 0, None)
    ∷ (6, None, None)
    ∷ []

pub map_a-nodes : answers (45 ∷ []) 9 map_a ≡ map_a
unfolding bit gap sum_below kth run_from children_of up_from parent_of
map_a-nodes = refl

-- 18 nodes besides the root, 39 bits
abbrev fruit : List Row
fruit =
    (0, None, None)
    ∷ (1, Run 2 2, Some 0)
    ∷ (2, Run 4 1, Some 1)
    ∷ (3, Run 5 1, Some 1)
    ∷ (4, Run 6 1, Some 2)
    ∷ (5, Run 7 1, Some 3)
    ∷ (6, Run 8 1, Some 4)
    ∷ (7, Run 9 1, Some 5)
    ∷ (8, Run 10 2, Some 6)
    ∷ (9, Run 12 1, Some 7)
    ∷ (10, Run 13 0, Some 8)
    ∷ (11, Run 13 1, Some 8)
    ∷ (12, Run 14 1, Some 9)
    ∷ (13, Run 15 1, Some 11)
    ∷ (14, Run 16 0, Some 12)
    ∷ (15, Run 16 1, Some 13)
    ∷ (16, Run 17 1, Some 15)
    ∷ (17, Run 18 1, Some 16)
    ∷ (18, Run 19 1, Some 17)
    ∷ (19, Run 20 0, Some 18)
    ∷ (20, Run 20 0, None)
    ∷ (21, None, None)
    ∷ []

pub fruit-nodes : answers (91445701293 ∷ []) 39 fruit ≡ fruit
unfolding bit gap sum_below kth run_from children_of up_from parent_of
fruit-nodes = refl

-- a length, a number, and where the zero or one of that number stands below that length
abbrev Select : Type 0
Select = ℕ × ℕ × Option ℕ

abbrev zeros_found : List ℕ → List Select → List Select
zeros_found ws = map (λ (row : Select). (row.0, row.1, zero_at (bit ws) row.0 row.1))

abbrev ones_found : List ℕ → List Select → List Select
ones_found ws = map (λ (row : Select). (row.0, row.1, one_at (bit ws) row.0 row.1))

abbrev ones_back : List ℕ → List Select → List Select
ones_back ws = map (λ (row : Select). (row.0, row.1, one_back (bit ws) row.0 row.1))

abbrev all_ones : ℕ
all_ones = 18446744073709551615

-- where every place counts, the last is right before the length and no further one is there, whatever the last word has beyond it
abbrev every_place : List Select
every_place =
    (0, 1, None)
    ∷ (1, 1, Some 0)
    ∷ (1, 2, None)
    ∷ (63, 63, Some 62)
    ∷ (63, 64, None)
    ∷ (64, 64, Some 63)
    ∷ (64, 65, None)
    ∷ (65, 65, Some 64)
    ∷ (65, 66, None)
    ∷ (127, 127, Some 126)
    ∷ (127, 128, None)
    ∷ (128, 128, Some 127)
    ∷ (128, 129, None)
    ∷ (129, 129, Some 128)
    ∷ (129, 130, None)
    ∷ []

pub zeros-at-ends : zeros_found (0 ∷ 0 ∷ 0 ∷ []) every_place ≡ every_place
unfolding bit gap sum_below kth
zeros-at-ends = refl

pub ones-at-ends : ones_found (all_ones ∷ all_ones ∷ all_ones ∷ []) every_place ≡ every_place
unfolding bit sum_below kth
ones-at-ends = refl

-- counted down from the length
abbrev downwards : List Select
downwards =
    (0, 1, None)
    ∷ (1, 1, Some 0)
    ∷ (1, 2, None)
    ∷ (63, 1, Some 62)
    ∷ (63, 63, Some 0)
    ∷ (63, 64, None)
    ∷ (64, 1, Some 63)
    ∷ (64, 64, Some 0)
    ∷ (64, 65, None)
    ∷ (65, 1, Some 64)
    ∷ (65, 2, Some 63)
    ∷ (65, 66, None)
    ∷ (127, 1, Some 126)
    ∷ (127, 128, None)
    ∷ (128, 65, Some 63)
    ∷ (128, 129, None)
    ∷ (129, 1, Some 128)
    ∷ (129, 130, None)
    ∷ []

pub ones-back-from-ends : ones_back (all_ones ∷ all_ones ∷ all_ones ∷ []) downwards ≡ downwards
unfolding bit sum_below kth
ones-back-from-ends = refl

-- a last word of ones, behind one of zeros: it has no zero, and the first zero behind it lies beyond the words
abbrev zeros_of_two : List Select
zeros_of_two = (127, 64, Some 63) ∷ (127, 65, None) ∷ (128, 64, Some 63) ∷ (128, 65, None) ∷ (129, 65, Some 128) ∷ (129, 66, None) ∷ []

abbrev ones_of_two : List Select
ones_of_two = (64, 1, None) ∷ (65, 1, Some 64) ∷ (127, 63, Some 126) ∷ (127, 64, None) ∷ (128, 64, Some 127) ∷ (129, 64, Some 127) ∷ (129, 65, None) ∷ []

pub last-word-of-ones : (zeros_found (0 ∷ all_ones ∷ []) zeros_of_two ≡ zeros_of_two) × (ones_found (0 ∷ all_ones ∷ []) ones_of_two ≡ ones_of_two)
unfolding bit gap sum_below kth
last-word-of-ones = (refl, refl)

-- and from a place on: a length, the place, a number, and where the zero stands
abbrev onward_of_two : List (ℕ × ℕ × ℕ × Option ℕ)
onward_of_two =
    (63, 63, 1, None)
    ∷ (64, 62, 2, Some 63)
    ∷ (64, 63, 1, Some 63)
    ∷ (64, 64, 1, None)
    ∷ (128, 63, 1, Some 63)
    ∷ (128, 63, 2, None)
    ∷ (129, 63, 2, Some 128)
    ∷ (129, 64, 1, Some 128)
    ∷ (129, 128, 1, Some 128)
    ∷ (129, 129, 1, None)
    ∷ []

pub zeros-onward-at-ends : map (λ (row : ℕ × ℕ × ℕ × Option ℕ). (row.0, row.1, row.2, zero_from (bit (0 ∷ all_ones ∷ [])) row.0 row.1 row.2)) onward_of_two ≡ onward_of_two
unfolding bit gap sum_below onward kth
zeros-onward-at-ends = refl

-- a word, its ones up to the end of each byte, a number, and its ones from that of this number on: of the bits 1 0 1 1 0 1, and of bits 0, 8 and 63; with sums of no ones all are passed
abbrev Taking : Type 0
Taking = ℕ × ℕ × ℕ × ℕ

abbrev takings : List Taking
takings =
    (45, 289360691352306692, 1, 45)
    ∷ (45, 289360691352306692, 2, 44)
    ∷ (45, 289360691352306692, 3, 40)
    ∷ (45, 289360691352306692, 4, 32)
    ∷ (45, 289360691352306692, 5, 0)
    ∷ (9223372036854776065, 216737939714081281, 1, 9223372036854776065)
    ∷ (9223372036854776065, 216737939714081281, 2, 9223372036854776064)
    ∷ (9223372036854776065, 216737939714081281, 3, 9223372036854775808)
    ∷ (45, 0, 1, 0)
    ∷ []

pub ones-taken : map (λ (row : Taking). (row.0, row.1, row.2, ones_from row.0 row.1 row.2)) takings ≡ takings
unfolding count_trailing_zeros cleared ones_from
ones-taken = refl
