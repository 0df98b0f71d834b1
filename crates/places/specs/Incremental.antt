-- Incremental search (01, module 7). "A place is a node number 1 to n+1 and is not tied to one image." Every call says
-- refusal 6 of an image that no map has,
-- then 7 of a place that does not belong, and a refusal leaves the place where it was.
-- In numbers a refusal is its number alone, and every other answer begins with 0. What a path is: 1 for Prefix, 2 for
-- Match, 3 for PrefixAndMatch.
-- `query` says it, or nothing more where there is no such child; of the others Ok says 0 and what it holds, Err 1 and
-- what it holds.
--
--     checked_place  which refusal a call answers, if any
--     path_says     what a path is: some longer key begins with it, and it is a key
--     query_says    "Query moves or, with no such child, stays", and `query_moves`: where it leaves the place
--     walkable      how many labels of a query lead on from a path
--     follow_says   "`query_until` failing at index i answers Err(i) and has moved i labels; on the empty query Err(0),
--                   unmoved", and `follow_moves`
--     goto_says     "let K be the keys longer than p that begin with p. K empty: Ok(0). Else the place moves to the
--                   longest common prefix q of K, answering Ok of the distance if q is in K, else Err of it", and
--                   `goto_moves`
--     Promise       what a call over a lent place promises: its answer, and the place afterwards
-- Assumes nothing.
use Rattle.std.specs.Prelude.{◌≡◌, ℕ, zero, suc, ◌+◌, ◌-◌, Bool, true, false, cond, List, [], ◌∷◌, ◌++◌, length, take, Option, None, Some, Result, Ok, Err}
use Rattle.keymap.specs.Key.{Key}
use Rattle.keymap.specs.Refusals.{refuses}
use Rattle.keymap.specs.declared.refusals.Refusal.{Refusal}
use Rattle.keymap.specs.declared.refusals.Refusal.TheVariants.{NotAnImage, BadPlace}
use Rattle.keymap.specs.Map.{Map, lookup}
use Rattle.keymap.specs.Queries.{longer, is_prefix_in, common_of_all}
use Rattle.keymap.specs.Image.{Image}
use Rattle.keymap.specs.Paths.{is_node, path_of, node_of, is_path}
use Rattle.keymap.specs.Decode.{image_map}
use Rattle.keymap.specs.Answers.{said, given}
use Rattle.image.specs.AcceptTest.{image_test}
use Rattle.image.specs.AcceptAnswer.{on_image}
use Rattle.places.specs.declared.answers.Place.{Place}
use Rattle.places.specs.declared.answers.Answer.{Answer}
use Rattle.places.specs.declared.answers.Answer.TheVariants.{Prefix, Match, PrefixAndMatch}

-- ---- answers in numbers

abbrev pub said_answer : Answer → ℕ
said_answer Prefix = 1
said_answer Match = 2
said_answer PrefixAndMatch = 3

-- it is a prefix of longer keys
abbrev pub tells_prefix : Answer → Bool
tells_prefix Prefix = true
tells_prefix Match = false
tells_prefix PrefixAndMatch = true

-- it is a key
abbrev pub tells_match : Answer → Bool
tells_match Prefix = false
tells_match Match = true
tells_match PrefixAndMatch = true

abbrev pub says_ok : ℕ → List ℕ
says_ok n = 0 ∷ 0 ∷ n ∷ []

abbrev pub says_err : ℕ → List ℕ
says_err n = 0 ∷ 1 ∷ n ∷ []

-- what was found, if there is such a child
abbrev pub told_child : Option Answer → List ℕ
told_child None = []
told_child (Some a) = said_answer a ∷ []

-- Ok by the number of what it holds, and Err
abbrev pub told_end : {T : Type 0} → (T → ℕ) → Result T ℕ → List ℕ
told_end number (Ok x) = 0 ∷ number x ∷ []
told_end number (Err n) = 1 ∷ n ∷ []

abbrev pub said_queried : Result (Option Answer) Refusal → List ℕ
said_queried = said told_child

abbrev pub said_gone : Result (Result ℕ ℕ) Refusal → List ℕ
said_gone = said (told_end (λ d. d))

abbrev pub said_followed : Result (Result Answer ℕ) Refusal → List ℕ
said_followed = said (told_end said_answer)

-- ---- on a place

abbrev pub place_at : ℕ → Place
place_at k = record { node = k }

-- which refusal a call answers, if the image is no map's or the place does not belong
abbrev pub checked_place : Image → ℕ → Result (Unit {0}) Refusal
checked_place i k = cond (image_test i) (cond (is_node (image_map i) k) (Ok tt) (Err BadPlace)) (Err NotAnImage)

-- what a call says of a place that belongs, and refusal 7 of any other
abbrev pub on_place : Image → ℕ → List ℕ → List ℕ
on_place i k says = on_image i (cond (is_node (image_map i) k) says (refuses BadPlace))

-- where a call leaves a place that belongs; any other stays
abbrev pub from_place : Image → ℕ → ℕ → ℕ
from_place i k to = cond (image_test i) (cond (is_node (image_map i) k) to k) k

-- 1 if some longer key begins with it, and 2 if it is a key
unfoldable pub path_says : Map → Key → ℕ
path_says m p = cond (is_prefix_in p m) 1 0 + cond (given (lookup p m)) 2 0

-- ---- query and peek

abbrev pub query_in : Map → Key → List ℕ
query_in m q = cond (is_path m q) (0 ∷ path_says m q ∷ []) (0 ∷ [])

unfoldable pub query_says : Image → ℕ → ℕ → List ℕ
query_says i k a = on_place i k (query_in (image_map i) (path_of (image_map i) k ++ (a ∷ [])))

unfoldable pub query_moves : Image → ℕ → ℕ → ℕ
query_moves i k a =
    let m = image_map i in
    let q = path_of m k ++ (a ∷ []) in
    from_place i k (cond (is_path m q) (node_of m q) k)

-- ---- query_until

unfoldable pub walkable : Map → Key → Key → ℕ
walkable m p [] = zero
walkable m p (a ∷ q) = cond (is_path m (p ++ (a ∷ []))) (suc (walkable m (p ++ (a ∷ [])) q)) zero

abbrev pub follow_in : Map → Key → Key → List ℕ
follow_in m p [] = says_err 0
follow_in m p (a ∷ q) =
    cond (is_path m (p ++ (a ∷ q))) (says_ok (path_says m (p ++ (a ∷ q)))) (says_err (walkable m p (a ∷ q)))

unfoldable pub follow_says : Image → ℕ → Key → List ℕ
follow_says i k q = on_place i k (follow_in (image_map i) (path_of (image_map i) k) q)

unfoldable pub follow_moves : Image → ℕ → Key → ℕ
follow_moves i k q =
    let m = image_map i in
    let p = path_of m k in
    from_place i k (node_of m (p ++ take (walkable m p q) q))

-- ---- goto_longest_prefix

-- the longest common prefix of the keys that are longer than p and begin with it
abbrev pub common_below : Map → Key → Key
common_below m p = common_of_all (longer p m)

-- how far it is from p, if there are such keys: Ok if it is one of them
abbrev pub distance_says : Map → Key → Key → List ℕ
distance_says m p q =
    cond (given (lookup q (longer p m))) (says_ok (length q - length p)) (says_err (length q - length p))

abbrev pub goto_in : Map → Key → List ℕ
goto_in m p = cond (is_prefix_in p m) (distance_says m p (common_below m p)) (says_ok 0)

unfoldable pub goto_says : Image → ℕ → List ℕ
goto_says i k = on_place i k (goto_in (image_map i) (path_of (image_map i) k))

unfoldable pub goto_moves : Image → ℕ → ℕ
goto_moves i k =
    let m = image_map i in
    let p = path_of m k in
    from_place i k (cond (is_prefix_in p m) (node_of m (common_below m p)) k)

-- ---- promises

-- a call that said `said`, and left a place `after`: what it had to say, and the node where it had to leave it
pub record Promise (said says : List ℕ) (after : Place) (moves : ℕ) : Type 0 where
  pub answers : said ≡ says
  pub stands : after ≡ place_at moves

abbrev pub QueryPromise : Image → ℕ → Place → Result (Option Answer) Refusal → Place → Type 0
QueryPromise i a before answer after =
    Promise (said_queried answer) (query_says i before.node a) after (query_moves i before.node a)

abbrev pub FollowPromise : Image → Key → Place → Result (Result Answer ℕ) Refusal → Place → Type 0
FollowPromise i q before answer after =
    Promise (said_followed answer) (follow_says i before.node q) after (follow_moves i before.node q)

abbrev pub GotoPromise : Image → Place → Result (Result ℕ ℕ) Refusal → Place → Type 0
GotoPromise i before answer after =
    Promise (said_gone answer) (goto_says i before.node) after (goto_moves i before.node)
