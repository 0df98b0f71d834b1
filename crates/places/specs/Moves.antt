-- Moving from a node by labels, on numbers and on any slices, by the rule of a walk down: what the calls on a place
-- answer, and where they leave it, once they have tested image and number. On an image that some map has, and one of
-- its nodes, it is what the map says (proofs/Laws/Moves).
--
--     place_number   a node's number as a place has it
--     answer_by      what a node is
--     query_by       one label
--     follow_by      the labels of a query, one after another
--     goto_by        down to where the keys below a node part
-- Assumes nothing.
use Rattle.std.specs.Prelude.{ℕ, ◌+◌, cond, [], ◌∷◌, eqb, ltb, Option, None, Some, Result, Ok, Err}
use Rattle.keymap.specs.Key.{Key}
use Rattle.keymap.specs.Bits.{bit}
use Rattle.keymap.specs.Image.{Image, bits_for}
use Rattle.image.specs.Accept.{entries}
use Rattle.walks.specs.declared.stands.Stand.{Stand}
use Rattle.walks.specs.declared.glide.Glided.{Glided}
use Rattle.walks.specs.Rule.{child_by, value_of_node}
use Rattle.walks.specs.Stands.{stand_at, kids_from}
use Rattle.walks.specs.Glide.{only_kid, glided_from}
use Rattle.places.specs.declared.answers.Answer.{Answer}
use Rattle.places.specs.declared.answers.Answer.TheVariants.{Prefix, Match, PrefixAndMatch}
use Rattle.places.specs.declared.answers.Moved.{Moved}

-- a place's number has 32 bits; 0 is no node's
unfoldable pub place_number : ℕ → ℕ
place_number k = cond (ltb 4294967295 k) 0 k

-- the stand at node k, in the first 2n+3 bits
abbrev pub stand_in : Image → ℕ → Stand
stand_in i k = stand_at (bit i.words) (bits_for (entries i)) k

-- how many children a stand has
abbrev pub count_from : Image → Stand → ℕ
count_from i s = (kids_from (bit i.words) (bits_for (entries i)) s).count

-- the value of node k
abbrev pub held_in : Image → ℕ → Option ℕ
held_in i k = value_of_node i.labels i.values k

-- ---- what a node is

-- of one with children, by its value
abbrev pub inner_says : Option ℕ → Answer
inner_says None = Prefix
inner_says (Some v) = PrefixAndMatch

unfoldable pub answer_by : Image → Stand → Answer
answer_by i s = cond (eqb (count_from i s) 0) Match (inner_says (held_in i s.node))

-- ---- one label

abbrev pub query_to : Image → ℕ → Option ℕ → Moved (Option Answer)
query_to i k None = record { answer = Ok None; node = k }
query_to i k (Some m) = record { answer = Ok (Some (answer_by i (stand_in i m))); node = place_number m }

-- from node k to its child with label a
unfoldable pub query_by : Image → ℕ → ℕ → Moved (Option Answer)
query_by i k a = query_to i k (child_by i.labels (bit i.words) (bits_for (entries i)) k a)

-- ---- along a query

-- at node k, j labels on
abbrev pub follow_stops : ℕ → ℕ → Moved (Result Answer ℕ)
follow_stops j k = record { answer = Ok (Err j); node = place_number k }

-- there, with no label left; of the empty query no label led on
abbrev pub follow_ends : Image → ℕ → ℕ → Moved (Result Answer ℕ)
follow_ends i j k =
    cond (eqb j 0) (follow_stops 0 k)
    (record { answer = Ok (Ok (answer_by i (stand_in i k))); node = place_number k })

-- on to a child if there is one, else the walk stops
abbrev pub follow_to : Option ℕ → Moved (Result Answer ℕ) → (ℕ → Moved (Result Answer ℕ)) → Moved (Result Answer ℕ)
follow_to None stops on = stops
follow_to (Some m) stops on = on m

-- from node k, j labels on, by those that are left
unfoldable pub follow_from : Image → Key → ℕ → ℕ → Moved (Result Answer ℕ)
follow_from i [] j k = follow_ends i j k
follow_from i (a ∷ q) j k =
    follow_to (child_by i.labels (bit i.words) (bits_for (entries i)) k a) (follow_stops j k)
    (λ m. follow_from i q (j + 1) m)

abbrev pub follow_by : Image → ℕ → Key → Moved (Result Answer ℕ)
follow_by i k q = follow_from i q 0 k

-- ---- to where the keys part

-- by the value where a glide ended, and how far that is
abbrev pub gone_to : Option ℕ → ℕ → Result ℕ ℕ
gone_to None d = Err d
gone_to (Some v) d = Ok d

abbrev pub goto_ends : Image → Glided → Moved (Result ℕ ℕ)
goto_ends i g =
    record { answer = Ok (gone_to (held_in i g.stand.node) (g.steps + 1)); node = place_number g.stand.node }

-- from node k: no child, several, or through the only one
unfoldable pub goto_by : Image → ℕ → Moved (Result ℕ ℕ)
goto_by i k =
    let b = bit i.words in
    let len = bits_for (entries i) in
    let s = stand_in i k in
    cond (eqb (count_from i s) 0) (record { answer = Ok (Ok 0); node = k })
    (cond (ltb 1 (count_from i s)) (record { answer = Ok (Err 0); node = k })
    (goto_ends i (glided_from i.labels i.values b len (only_kid b len s))))
