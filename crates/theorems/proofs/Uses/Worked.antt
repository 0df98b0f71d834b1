-- Uses of `Worked.WorkedLines`: each line of 01 that is marked P, out of the one statement over the table. Assumes nothing.
use Prim.Native.Nat.{ℕ}
use mathlib.Core.Path.{◌≡◌, refl, ap}
use mathlib.Core.List.{List, [], ◌∷◌, ◌++◌, map}
use lib.ListN.{length, get_or}
use Rattle.keymap.specs.Map.{Entry}
use Rattle.listings.specs.declared.answers.Kind.TheVariants.{Predictive, Postfix}
use Rattle.theorems.specs.Worked.{Line, says, lines}
use Rattle.theorems.specs.Worked.Asked.{pushes, root_child, build, is_prefix, longest, listing, common, goto, until}
use Rattle.theorems.proofs.Worked.{worked-lines}
use Rattle.theorems.proofs.Uses.Values.{a, ab, abc, ac, ax, b, c}

abbrev keys_a : List Entry
keys_a = (ab, 7) ∷ (b, 3) ∷ []

abbrev keys_b : List Entry
keys_b = (b, 3) ∷ (ab, 7) ∷ []

-- the line at an index says what the table says there
at : (k : ℕ) → get_or (map (λ (l : Line). says l.keys l.asked) lines) k [] ≡ get_or (map (λ (l : Line). l.answers) lines) k []
at k = ap (λ (answers : List (List (List ℕ))). get_or answers k []) worked-lines

pub how-many : length lines ≡ 19
unfolding lines
how-many = refl

-- "empty map: words [1], n 0; `is_prefix` of "" no; goto Ok(0)"
pub empty-build : says [] build ≡ (0 ∷ 0 ∷ []) ∷ [] ∷ [] ∷ (1 ∷ []) ∷ []
unfolding lines
empty-build = at 0

pub empty-is-prefix : says [] (is_prefix []) ≡ (0 ∷ []) ∷ []
unfolding lines
empty-is-prefix = at 1

pub empty-goto : says [] (goto []) ≡ (0 ∷ 0 ∷ 0 ∷ []) ∷ [] ∷ []
unfolding lines
empty-goto = at 2

-- "A: words [45], entries [97, 354, 354], values [0, 3, 7]"; "B: the same image; its pool's root has first child 2"
pub build-A : says keys_a build ≡ (0 ∷ 3 ∷ []) ∷ (97 ∷ 354 ∷ 354 ∷ []) ∷ (0 ∷ 3 ∷ 7 ∷ []) ∷ (45 ∷ []) ∷ []
unfolding lines
build-A = at 3

pub build-B : says keys_b build ≡ (0 ∷ 3 ∷ []) ∷ (97 ∷ 354 ∷ 354 ∷ []) ∷ (0 ∷ 3 ∷ 7 ∷ []) ∷ (45 ∷ []) ∷ []
unfolding lines
build-B = at 4

pub root-B : says keys_b root_child ≡ (2 ∷ []) ∷ []
unfolding lines
root-B = at 5

-- "A, predictive "": "ab" 7, "b" 3, end"; "predictive "ab": "ab" 7, end"; "postfix "ab": end"
pub predictive : says keys_a (listing Predictive [] 4) ≡ (7 ∷ ab) ∷ (3 ∷ b) ∷ [] ∷ [] ∷ []
unfolding lines
predictive = at 6

pub predictive-ab : says keys_a (listing Predictive ab 3) ≡ (7 ∷ ab) ∷ [] ∷ [] ∷ []
unfolding lines
predictive-ab = at 7

pub postfix-ab : says keys_a (listing Postfix ab 2) ≡ [] ∷ [] ∷ []
unfolding lines
postfix-ab = at 8

-- "A, `longest_prefix` "": no match; "a": "ab"; "ac": no match"
pub longest-empty : says keys_a (longest []) ≡ (0 ∷ []) ∷ [] ∷ []
unfolding lines
longest-empty = at 9

pub longest-a : says keys_a (longest a) ≡ (0 ∷ 2 ∷ []) ∷ ab ∷ []
unfolding lines
longest-a = at 10

pub longest-ac : says keys_a (longest ac) ≡ (0 ∷ []) ∷ [] ∷ []
unfolding lines
longest-ac = at 11

-- "A at root: goto Err(0)"; "At "a": goto Ok(1)"
pub goto-root : says keys_a (goto []) ≡ (0 ∷ 1 ∷ 0 ∷ []) ∷ [] ∷ []
unfolding lines
goto-root = at 12

pub goto-a : says keys_a (goto a) ≡ (0 ∷ 0 ∷ 1 ∷ []) ∷ ab ∷ []
unfolding lines
goto-a = at 13

-- "A, `query_until` "ax": Err(1), place at "a""
pub until-ax : says keys_a (until [] ax) ≡ (0 ∷ 1 ∷ 1 ∷ []) ∷ a ∷ []
unfolding lines
until-ax = at 14

-- "A, capacity 3, push "c": NoRoom; push "ab" 9: accepted"
pub no_room : says (keys_a ++ ((c, 1) ∷ [])) pushes ≡ (0 ∷ []) ∷ (0 ∷ []) ∷ (0 ∷ []) ∷ (4 ∷ []) ∷ []
unfolding lines
no_room = at 15

pub repeated : says (keys_a ++ ((ab, 9) ∷ [])) pushes ≡ (0 ∷ []) ∷ (0 ∷ []) ∷ (0 ∷ []) ∷ (0 ∷ []) ∷ []
unfolding lines
repeated = at 16

-- "A, common prefixes of "abc" after 0: "ab" 7; after 2: no match"
pub common-first : says keys_a (common abc 0) ≡ (0 ∷ 2 ∷ 7 ∷ []) ∷ ab ∷ []
unfolding lines
common-first = at 17

pub common-after : says keys_a (common abc 2) ≡ (0 ∷ []) ∷ [] ∷ []
unfolding lines
common-after = at 18
