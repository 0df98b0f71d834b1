-- Listings (01, module 6). "Predictive start gives a cursor over the keys beginning with the query, postfix start over
-- those that are longer; no path gives a finished cursor, and so does an empty set. A step answers the least key of its
-- set above the last one given, as node and value, with the next cursor.
-- A step on a finished cursor ends at once, and again each time. After the last key the end comes with a finished
-- cursor."
--
--     set_of         the keys of a listing
--     belongs        "fresh at a top (a node from 1 to n+1), at a valued node of that top's set, or finished"
--     start_says     the start of a listing
--     next_in        the entry that the next step gives
--     step_says      a step
-- Assumes nothing.
use Rattle.std.specs.Prelude.{ℕ, zero, suc, Bool, true, cond, ◌&&◌, Option, None, Some}
use mathlib.Core.List.{List, ◌∷◌}
use Rattle.keymap.specs.Members.{head_of}
use Rattle.keymap.specs.Key.{Key}
use Rattle.keymap.specs.Answers.{given}
use Rattle.keymap.specs.Refusals.{refuses}
use Rattle.keymap.specs.declared.refusals.Refusal.TheVariants.{BadPlace}
use Rattle.keymap.specs.Map.{Entry, Map, lookup}
use Rattle.keymap.specs.Queries.{nonempty, beginning, longer, least_above}
use Rattle.keymap.specs.Image.{Image}
use Rattle.keymap.specs.Paths.{is_node, path_of, node_of}
use Rattle.keymap.specs.Decode.{image_map}
use Rattle.image.specs.AcceptAnswer.{on_image}
use Rattle.listings.specs.declared.answers.Kind.{Kind}
use Rattle.listings.specs.declared.answers.Kind.TheVariants as kinds
use Rattle.listings.specs.declared.answers.Cursor.{Cursor}
use Rattle.listings.specs.declared.answers.Cursor.TheVariants.{Open, Finished}
use Rattle.listings.specs.Answers.{said_cursor}

abbrev pub set_of : Map → Kind → Key → Map
set_of m kinds.Predictive p = beginning p m
set_of m kinds.Postfix p = longer p m

-- 0 says that nothing was given yet
abbrev pub last_belongs : Map → Map → ℕ → Bool
last_belongs m set zero = true
last_belongs m set (suc k) = is_node m (suc k) && given (lookup (path_of m (suc k)) set)

unfoldable pub belongs : Map → Cursor → Bool
belongs m (Open kind top last) = is_node m top && last_belongs m (set_of m kind (path_of m top)) last
belongs m (Finished kind) = true

-- what a call says of a cursor that belongs, and refusal 7 of any other
abbrev pub on_cursor : Map → Cursor → List ℕ → List ℕ
on_cursor m c says = cond (belongs m c) says (refuses BadPlace)

unfoldable pub start_says : Kind → Image → Key → List ℕ
start_says kind i q =
    let m = image_map i in
    on_image i (0 ∷ said_cursor (cond (nonempty (set_of m kind q)) (Open kind (node_of m q) 0) (Finished kind)))

abbrev pub next_in : Map → Map → ℕ → Option Entry
next_in m set zero = head_of set
next_in m set (suc k) = least_above (path_of m (suc k)) set

-- the end, which comes with a finished cursor
abbrev pub says_end : Kind → List ℕ
says_end kind = 0 ∷ 0 ∷ said_cursor (Finished kind)

abbrev pub says_step : Map → Kind → ℕ → Option Entry → List ℕ
says_step m kind top None = says_end kind
says_step m kind top (Some e) = 0 ∷ node_of m e.0 ∷ e.1 ∷ said_cursor (Open kind top (node_of m e.0))

abbrev pub step_in : Map → Cursor → List ℕ
step_in m (Open kind top last) = says_step m kind top (next_in m (set_of m kind (path_of m top)) last)
step_in m (Finished kind) = says_end kind

unfoldable pub step_says : Image → Cursor → List ℕ
step_says i c = on_image i (on_cursor (image_map i) c (step_in (image_map i) c))
