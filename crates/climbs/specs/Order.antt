-- From node to node in byte order of their paths, on any bits, by numbers. "`PostfixIter`'s stack becomes child, next
-- sibling, or climb" (01):
-- a node comes before the nodes below it, and these before its next sibling.
-- b are the bits, of which the first len are read; the nodes are numbered from 1 to last.
--
--     first_by       the first child of a node, if it counts
--     beside_by      the next sibling of a node
--     climb_by       the next sibling of the nearest that has one, of a node and its ancestors below a top
--     advance_by     the next node below a top
--     next_by        the next node below a top that has a value, and the value
--     UnderTop       a node of a map is at or below a top
--     given_by       an entry of the map as its node's number and value
-- Assumes nothing.
use Rattle.std.specs.Prelude.{ℕ, zero, suc, ◌+◌, Bool, cond, ◌&&◌, List, length, eqb, ltb, Option, None, Some}
use Rattle.std.specs.Option.{option_or}
use Rattle.keymap.specs.Key.{PrefixOf}
use Rattle.keymap.specs.Map.{Entry, Map}
use Rattle.keymap.specs.Paths.{IsNode, path_of, node_of}
use Rattle.louds.specs.declared.answers.Children.{Children}
use Rattle.louds.specs.Select.{one_at}
use Rattle.louds.specs.Nodes.{children_of}
use Rattle.walks.specs.declared.entries.KeyNode.{KeyNode}
use Rattle.walks.specs.Rule.{counts_to, value_of_node}
use Rattle.climbs.specs.Perches.{parent_by}

abbrev pub first_of : ℕ → ℕ → Option Children → Option ℕ
first_of last k None = None
first_of last k (Some run) = cond (ltb 0 run.count && counts_to last k run.first) (Some run.first) None

unfoldable pub first_by : (ℕ → ℕ) → ℕ → ℕ → ℕ → Option ℕ
first_by b len last k = first_of last k (children_of b len k)

unfoldable pub one_behind : (ℕ → ℕ) → ℕ → ℕ → Bool
one_behind b len p = ltb (p + 1) len && eqb (b (p + 1)) 1

-- the ones of siblings stand together, and their numbers run on
abbrev pub beside_of : (ℕ → ℕ) → ℕ → ℕ → ℕ → Option ℕ → Option ℕ
beside_of b len last k None = None
beside_of b len last k (Some p) = cond (ltb k last && one_behind b len p) (Some (k + 1)) None

unfoldable pub beside_by : (ℕ → ℕ) → ℕ → ℕ → ℕ → Option ℕ
beside_by b len last k = beside_of b len last k (one_at b len k)

-- from where a climb is, up to the top; the last number bounds the steps
unfoldable pub climbed_from : (ℕ → ℕ) → ℕ → ℕ → ℕ → ℕ → Option ℕ → Option ℕ
climbed_from b len last top zero at = None
climbed_from b len last top (suc left) None = None
climbed_from b len last top (suc left) (Some k) =
    cond (eqb k top) None (option_or (beside_by b len last k) (climbed_from b len last top left (parent_by b len k)))

-- a parent's number is below its child's, so the node's own bounds the climb
unfoldable pub climb_by : (ℕ → ℕ) → ℕ → ℕ → ℕ → ℕ → Option ℕ
climb_by b len last top k = climbed_from b len last top (suc k) (Some k)

unfoldable pub advance_by : (ℕ → ℕ) → ℕ → ℕ → ℕ → ℕ → Option ℕ
advance_by b len last top k = option_or (first_by b len last k) (climb_by b len last top k)

abbrev pub with_value : ℕ → Option ℕ → Option (ℕ × ℕ)
with_value k None = None
with_value k (Some v) = Some (k, v)

-- from where a search is; the number before it bounds the steps
unfoldable pub sought_from : List ℕ → List ℕ → (ℕ → ℕ) → ℕ → ℕ → ℕ → Option ℕ → Option (ℕ × ℕ)
sought_from ls vs b len top zero at = None
sought_from ls vs b len top (suc left) None = None
sought_from ls vs b len top (suc left) (Some k) =
    option_or (with_value k (value_of_node ls vs k))
    (sought_from ls vs b len top left (advance_by b len (length ls + 1) top k))

-- there are n+1 nodes, so as many steps lead past all of them
unfoldable pub next_by : List ℕ → List ℕ → (ℕ → ℕ) → ℕ → ℕ → ℕ → Option (ℕ × ℕ)
next_by ls vs b len top k = sought_from ls vs b len top (length ls + 1) (advance_by b len (length ls + 1) top k)

abbrev pub given_of : Option (ℕ × ℕ) → Option KeyNode
given_of None = None
given_of (Some e) = Some (record { node = e.0; value = e.1 })

pub record UnderTop (m : Map) (top node : ℕ) : Type 0 where
  pub top-inside : IsNode m top
  pub inside : IsNode m node
  pub begins : PrefixOf (path_of m top) (path_of m node)

abbrev pub given_by : Map → Option Entry → Option KeyNode
given_by m None = None
given_by m (Some e) = Some (record { node = node_of m e.0; value = e.1 })
