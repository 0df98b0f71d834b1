-- 01's worked lines marked P, as one table: what is asked, and the numbers that are to be answered. A is the pushes
-- "ab" 7, "b" 3; B the pushes "b" 3, "ab" 7.
-- What is said of an asked line is what the calls' contracts cite, from a reset on: the words that the pushes leave,
-- the slices that build leaves, and the searches on these.
--
--     Asked            what is asked of the keys pushed
--     says             what the calls answer
--     lines            the table
-- Assumes nothing.
use Rattle.std.specs.Prelude.{◌≡◌, ℕ, zero, suc, ◌+◌, ◌*◌, List, [], ◌∷◌, map, take, replicate}
use Rattle.keymap.specs.Key.{Key}
use Rattle.keymap.specs.Map.{Entry}
use Rattle.keymap.specs.Image.{Image}
use Rattle.records.specs.Words.{Pool, record_words, first_child}
use Rattle.pool.specs.History.{PoolCall, pushes_of, run_says, run_pool}
use Rattle.image.specs.Build.{build_says}
use Rattle.listings.specs.declared.answers.Kind.{Kind}
use Rattle.listings.specs.declared.answers.Kind.TheVariants.{Predictive, Postfix}
use Rattle.listings.specs.declared.answers.Cursor.{Cursor}
use Rattle.searches.specs.Exact.{is_prefix_says}
use Rattle.searches.specs.CommonPrefixes.{common_says, common_part}
use Rattle.searches.specs.Prefix.{longest_says, longest_out}
use Rattle.listings.specs.Cursors.{start_says, step_says}
use Rattle.listings.specs.GivenKey.{key_says, key_out}
use Rattle.places.specs.Places.{prefix_says, prefix_out}
use Rattle.places.specs.Incremental.{follow_says, follow_moves, goto_says, goto_moves}
use Rattle.theorems.specs.Built.{built_image}
use Rattle.theorems.specs.Listing.{first_cursor, heard_next}

pub data Asked : Type 0 where
  pushes : Asked  -- what a reset and the pushes answer
  root_child : Asked  -- the first child of the pool's root
  build : Asked  -- build's answer, and the label entries, values and words
  is_prefix : Key → Asked
  longest : Key → Asked  -- the answer, and what is written
  listing : Kind → Key → ℕ → Asked  -- of so many steps the value and the key, nothing for the end
  common : Key → ℕ → Asked  -- the answer, and the part that is handed back
  goto : Key → Asked  -- at a path: the answer, and the path of the place afterwards
  until : Key → Key → Asked  -- the same at a path, of a query

pub record Line : Type 0 where
  pub keys : List Entry
  pub asked : Asked
  pub answers : List (List ℕ)

-- ---- what the calls answer

-- a pool of capacity 3 with surplus words, which held other things
abbrev pub start : Pool
start = replicate (record_words * 4 + 3) 9

abbrev pub history : List Entry → List PoolCall
history es = PoolCall.reset ∷ pushes_of es

-- what an answer tells behind its first number
abbrev pub count_in : List ℕ → ℕ
count_in [] = 0
count_in (r ∷ []) = 0
count_in (r ∷ n ∷ ns) = n

-- a build from a pool into buffers that are longer than needed and held other things
unfoldable pub built_says : Pool → List ℕ
built_says p = build_says p (replicate 4 9) (replicate 4 9) (replicate 2 9) (replicate 4 9)

unfoldable pub built : Pool → Image
built p = built_image (count_in (built_says p)) p (replicate 4 9) (replicate 4 9) (replicate 2 9) (replicate 4 9)

abbrev pub buffer : List ℕ
buffer = replicate 4 9

-- the part of a buffer that an answer says was written
abbrev pub written_part : List ℕ → List ℕ → List ℕ
written_part said out = take (count_in said) out

-- what a step gave, by its answer and the cursor that it handed back
abbrev pub given_at : Image → List ℕ → Cursor → List ℕ
given_at i [] c = []
given_at i (r ∷ []) c = r ∷ []
given_at i (r ∷ zero ∷ ns) c = []
given_at i (r ∷ suc k ∷ []) c = []
given_at i (r ∷ suc k ∷ v ∷ ns) c = v ∷ written_part (key_says i c buffer) (key_out i c buffer)

unfoldable pub listed_from : ℕ → Image → Cursor → List (List ℕ)
listed_from zero i c = []
listed_from (suc k) i c =
    let said = step_says i c in given_at i said (heard_next said c) ∷ listed_from k i (heard_next said c)

-- the place at a path, come to from the root, which is node 1
abbrev pub place_of : Image → Key → ℕ
place_of i p = follow_moves i 1 p

abbrev pub path_at : Image → ℕ → List ℕ
path_at i k = written_part (prefix_says i k buffer) (prefix_out i k buffer)

-- what a call writes, behind its answer
abbrev pub longest_at : Image → Key → List (List ℕ)
longest_at i q = longest_says i q buffer ∷ written_part (longest_says i q buffer) (longest_out i q buffer) ∷ []

-- where a call leaves the place, behind its answer
abbrev pub goto_at : Image → ℕ → List (List ℕ)
goto_at i k = goto_says i k ∷ path_at i (goto_moves i k) ∷ []

abbrev pub until_at : Image → ℕ → Key → List (List ℕ)
until_at i k q = follow_says i k q ∷ path_at i (follow_moves i k q) ∷ []

abbrev pub pool_of : List Entry → Pool
pool_of es = run_pool start (history es)

abbrev pub image_of : List Entry → Image
image_of es = built (pool_of es)

unfoldable pub says : List Entry → Asked → List (List ℕ)
says es pushes = run_says start (history es)
says es root_child = (first_child (pool_of es) 0 ∷ []) ∷ []
says es build = built_says (pool_of es) ∷ (image_of es).labels ∷ (image_of es).values ∷ (image_of es).words ∷ []
says es (is_prefix q) = is_prefix_says (image_of es) q ∷ []
says es (longest q) = longest_at (image_of es) q
says es (listing kind q k) = listed_from k (image_of es) (first_cursor (start_says kind (image_of es) q))
says es (common q seen) = common_says (image_of es) q seen ∷ common_part (image_of es) q seen ∷ []
says es (goto p) = goto_at (image_of es) (place_of (image_of es) p)
says es (until p q) = until_at (image_of es) (place_of (image_of es) p) q

-- ---- the table

abbrev a : Key
a = 97 ∷ []

abbrev ab : Key
ab = 97 ∷ 98 ∷ []

abbrev abc : Key
abc = 97 ∷ 98 ∷ 99 ∷ []

abbrev ac : Key
ac = 97 ∷ 99 ∷ []

abbrev ax : Key
ax = 97 ∷ 120 ∷ []

abbrev b : Key
b = 98 ∷ []

abbrev c : Key
c = 99 ∷ []

abbrev keys_a : List Entry
keys_a = (ab, 7) ∷ (b, 3) ∷ []

abbrev keys_b : List Entry
keys_b = (b, 3) ∷ (ab, 7) ∷ []

abbrev line : List Entry → Asked → List (List ℕ) → Line
line es asked answers = record { keys = es; asked = asked; answers = answers }

-- in the answers 0 comes first where nothing is refused; then Ok is 0 and Err is 1, and no match tells no more
unfoldable pub lines : List Line
lines =
    -- "empty map: words [1], n 0; `is_prefix` of "" no; goto Ok(0)"
    line [] build ((0 ∷ 0 ∷ []) ∷ [] ∷ [] ∷ (1 ∷ []) ∷ [])
    ∷ line [] (is_prefix []) ((0 ∷ []) ∷ [])
    ∷ line [] (goto []) ((0 ∷ 0 ∷ 0 ∷ []) ∷ [] ∷ [])
    -- "A: words [45], entries [97, 354, 354], values [0, 3, 7]"
    ∷ line keys_a build ((0 ∷ 3 ∷ []) ∷ (97 ∷ 354 ∷ 354 ∷ []) ∷ (0 ∷ 3 ∷ 7 ∷ []) ∷ (45 ∷ []) ∷ [])
    -- "B: the same image; its pool's root has first child 2"
    ∷ line keys_b build ((0 ∷ 3 ∷ []) ∷ (97 ∷ 354 ∷ 354 ∷ []) ∷ (0 ∷ 3 ∷ 7 ∷ []) ∷ (45 ∷ []) ∷ [])
    ∷ line keys_b root_child ((2 ∷ []) ∷ [])
    -- "A, predictive "": "ab" 7, "b" 3, end"
    ∷ line keys_a (listing Predictive [] 4) ((7 ∷ ab) ∷ (3 ∷ b) ∷ [] ∷ [] ∷ [])
    -- "predictive "ab": "ab" 7, end"; "postfix "ab": end"
    ∷ line keys_a (listing Predictive ab 3) ((7 ∷ ab) ∷ [] ∷ [] ∷ [])
    ∷ line keys_a (listing Postfix ab 2) ([] ∷ [] ∷ [])
    -- "A, `longest_prefix` "": no match; "a": "ab"; "ac": no match"
    ∷ line keys_a (longest []) ((0 ∷ []) ∷ [] ∷ [])
    ∷ line keys_a (longest a) ((0 ∷ 2 ∷ []) ∷ ab ∷ [])
    ∷ line keys_a (longest ac) ((0 ∷ []) ∷ [] ∷ [])
    -- "A at root: goto Err(0)"; "At "a": goto Ok(1)"
    ∷ line keys_a (goto []) ((0 ∷ 1 ∷ 0 ∷ []) ∷ [] ∷ [])
    ∷ line keys_a (goto a) ((0 ∷ 0 ∷ 1 ∷ []) ∷ ab ∷ [])
    -- "A, `query_until` "ax": Err(1), place at "a""
    ∷ line keys_a (until [] ax) ((0 ∷ 1 ∷ 1 ∷ []) ∷ a ∷ [])
    -- "A, capacity 3, push "c": NoRoom; push "ab" 9: accepted"
    ∷ line ((ab, 7) ∷ (b, 3) ∷ (c, 1) ∷ []) pushes ((0 ∷ []) ∷ (0 ∷ []) ∷ (0 ∷ []) ∷ (4 ∷ []) ∷ [])
    ∷ line ((ab, 7) ∷ (b, 3) ∷ (ab, 9) ∷ []) pushes ((0 ∷ []) ∷ (0 ∷ []) ∷ (0 ∷ []) ∷ (0 ∷ []) ∷ [])
    -- "A, common prefixes of "abc" after 0: "ab" 7; after 2: no match"
    ∷ line keys_a (common abc 0) ((0 ∷ 2 ∷ 7 ∷ []) ∷ ab ∷ [])
    ∷ line keys_a (common abc 2) ((0 ∷ []) ∷ [] ∷ [])
    ∷ []

-- every line's calls answer what the table says
abbrev pub WorkedLines : Type 0
WorkedLines = map (λ (l : Line). says l.keys l.asked) lines ≡ map (λ (l : Line). l.answers) lines
