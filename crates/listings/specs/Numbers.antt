-- Listings by node numbers, as the code finds them: what each function computes from any labels, values and bits, of
-- which the first len are read, and any numbers.
-- proofs/Laws/Numbers has that on an image that some map has they are what the map's definitions say.
--
--     in_set_by       a node is that of a key of a top's set
--     stands_by       the numbers of an open cursor belong
--     next_given_by   what the next step gives, as node and value
--     start_by        the cursor that a listing starts with
--     given_len_by    how long the key of a node is in a listing
-- Assumes nothing.
use Rattle.std.specs.Prelude.{ℕ, zero, suc, ◌-◌, ◌^◌, Bool, true, false, cond, ◌&&◌, List, length, eqb, ltb, Option, None, Some}
use Rattle.std.specs.Option.{option_or}
use Rattle.keymap.specs.Key.{Key}
use Rattle.keymap.specs.Answers.{given}
use Rattle.walks.specs.declared.stands.Stand.{Stand}
use Rattle.walks.specs.Rule.{is_node_of, walked, value_of_node}
use Rattle.walks.specs.Stands.{stand_at, kids_from}
use Rattle.climbs.specs.Perches.{depth_by}
use Rattle.climbs.specs.Below.{below_by}
use Rattle.climbs.specs.Order.{with_value, next_by}
use Rattle.listings.specs.declared.answers.Kind.{Kind}
use Rattle.listings.specs.declared.answers.Kind.TheVariants as kinds
use Rattle.listings.specs.declared.answers.Cursor.{Cursor}
use Rattle.listings.specs.declared.answers.Cursor.TheVariants.{Open, Finished}

-- a postfix set leaves out the top's own key
abbrev pub leaves_out : Kind → ℕ → ℕ → Bool
leaves_out kinds.Predictive top node = false
leaves_out kinds.Postfix top node = eqb node top

-- "at a valued node of that top's set"
unfoldable pub in_set_by : List ℕ → List ℕ → (ℕ → ℕ) → ℕ → Kind → ℕ → ℕ → Bool
in_set_by ls vs b len kind top node =
    given (value_of_node ls vs node) && cond (leaves_out kind top node) false (below_by b len top node)

-- 0 says that nothing was given yet
abbrev pub last_stands : List ℕ → List ℕ → (ℕ → ℕ) → ℕ → Kind → ℕ → ℕ → Bool
last_stands ls vs b len kind top zero = true
last_stands ls vs b len kind top (suc k) = is_node_of (length ls) (suc k) && in_set_by ls vs b len kind top (suc k)

unfoldable pub stands_by : List ℕ → List ℕ → (ℕ → ℕ) → ℕ → Kind → ℕ → ℕ → Bool
stands_by ls vs b len kind top last = is_node_of (length ls) top && last_stands ls vs b len kind top last

-- the top's own key comes before those below it
unfoldable pub first_given_by : List ℕ → List ℕ → (ℕ → ℕ) → ℕ → ℕ → Option (ℕ × ℕ)
first_given_by ls vs b len top = option_or (with_value top (value_of_node ls vs top)) (next_by ls vs b len top top)

abbrev pub fresh_given_by : List ℕ → List ℕ → (ℕ → ℕ) → ℕ → Kind → ℕ → Option (ℕ × ℕ)
fresh_given_by ls vs b len kinds.Predictive top = first_given_by ls vs b len top
fresh_given_by ls vs b len kinds.Postfix top = next_by ls vs b len top top

unfoldable pub next_given_by : List ℕ → List ℕ → (ℕ → ℕ) → ℕ → Kind → ℕ → ℕ → Option (ℕ × ℕ)
next_given_by ls vs b len kind top zero = fresh_given_by ls vs b len kind top
next_given_by ls vs b len kind top (suc k) = next_by ls vs b len top (suc k)

-- where there is an entry some key begins with each path, and where there is a child some key goes on
abbrev pub has_keys_by : List ℕ → (ℕ → ℕ) → ℕ → Kind → Stand → Bool
has_keys_by ls b len kinds.Predictive s = ltb 0 (length ls)
has_keys_by ls b len kinds.Postfix s = ltb 0 (kids_from b len s).count

-- a number that a cursor holds is below this
abbrev pub number_limit : ℕ
number_limit = 2 ^ 32

-- from the node where a walk ended, if it ended anywhere
abbrev pub start_from : List ℕ → (ℕ → ℕ) → ℕ → Kind → Option ℕ → Cursor
start_from ls b len kind None = Finished kind
start_from ls b len kind (Some k) =
    cond (ltb k number_limit && has_keys_by ls b len kind (stand_at b len k)) (Open kind k 0) (Finished kind)

unfoldable pub start_by : List ℕ → (ℕ → ℕ) → ℕ → Kind → Key → Cursor
start_by ls b len kind q = start_from ls b len kind (walked ls b len q)

-- "in postfix listings from after the query"
abbrev pub given_len_by : (ℕ → ℕ) → ℕ → Kind → ℕ → ℕ → ℕ
given_len_by b len kinds.Predictive top node = depth_by b len node
given_len_by b len kinds.Postfix top node = depth_by b len node - depth_by b len top
