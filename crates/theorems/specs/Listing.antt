-- A listing as it is called (01, module 6): a start, then steps, each on the cursor that the answer before it handed
-- back.
--
--     heard_cursor      the cursor that numbers tell
--     heard_next        the one to go on with; a refusal hands none back
--     listing_says      what k steps behind a start answer
--     listing_in        what the map says they answer: the entries of the listing in turn, then the end each time
-- Assumes nothing.
use Rattle.std.specs.Prelude.{ℕ, zero, suc, ◌-◌, List, [], ◌∷◌, ◌++◌, map, length, take, replicate, Some}
use Rattle.keymap.specs.Key.{Key}
use Rattle.keymap.specs.Map.{Entry, Map}
use Rattle.keymap.specs.Image.{Image}
use Rattle.keymap.specs.Paths.{node_of}
use Rattle.listings.specs.declared.answers.Kind.{Kind}
use Rattle.listings.specs.declared.answers.Kind.TheVariants.{Predictive, Postfix}
use Rattle.listings.specs.declared.answers.Cursor.{Cursor}
use Rattle.listings.specs.declared.answers.Cursor.TheVariants.{Open, Finished}
use Rattle.listings.specs.Cursors.{set_of, start_says, says_end, says_step, step_says}

abbrev pub heard_kind : ℕ → Kind
heard_kind zero = Predictive
heard_kind (suc k) = Postfix

abbrev pub heard_cursor : List ℕ → Cursor
heard_cursor [] = Finished Predictive
heard_cursor (k ∷ []) = Finished (heard_kind k)
heard_cursor (k ∷ top ∷ []) = Finished (heard_kind k)
heard_cursor (k ∷ top ∷ last ∷ ns) = Open (heard_kind k) top last

-- behind a start's answer
abbrev pub first_cursor : List ℕ → Cursor
first_cursor [] = Finished Predictive
first_cursor (r ∷ ns) = heard_cursor ns

-- behind a step's answer, which tells a node, its value and the cursor, or node 0 and the cursor
abbrev pub heard_next : List ℕ → Cursor → Cursor
heard_next [] c = c
heard_next (r ∷ []) c = c
heard_next (r ∷ zero ∷ ns) c = heard_cursor ns
heard_next (r ∷ suc k ∷ []) c = c
heard_next (r ∷ suc k ∷ v ∷ ns) c = heard_cursor ns

unfoldable pub steps_say : ℕ → Image → Cursor → List (List ℕ)
steps_say zero i c = []
steps_say (suc k) i c = step_says i c ∷ steps_say k i (heard_next (step_says i c) c)

unfoldable pub listing_says : ℕ → Kind → Image → Key → List (List ℕ)
listing_says k kind i q = steps_say k i (first_cursor (start_says kind i q))

-- the answer that gives an entry of the listing under a query
abbrev pub says_entry : Map → Kind → Key → Entry → List ℕ
says_entry m kind q e = says_step m kind (node_of m q) (Some e)

-- of some entries k steps give what there is, each once and in turn, and then the end
unfoldable pub given_in : ℕ → Map → Kind → Key → Map → List (List ℕ)
given_in k m kind q es = map (says_entry m kind q) (take k es) ++ replicate (k - length es) (says_end kind)

abbrev pub listing_in : ℕ → Map → Kind → Key → List (List ℕ)
listing_in k m kind q = given_in k m kind q (set_of m kind q)
