-- Gliding: from a node down to where the keys that begin with its path part, the end of what they have in common (01,
-- modules 5 and 7).
-- On any bits a glide goes on as long as the node has no value and one child, and that child counts: each step leads to
-- a higher number, up to n+1 at most.
--
--     common_of       the longest common prefix of the keys that begin with a path
--     goes_through    a node without value has one child, and it counts
--     only_kid        the stand at that child
--     onward_from     one step: that stand, or none where the keys part
--     glided_from     the stand where the steps end, and how many there are
-- Assumes nothing.
use Rattle.std.specs.Prelude.{ℕ, zero, suc, ◌+◌, ◌-◌, Bool, not, cond, ◌&&◌, List, length, eqb, None, Option, Some}
use Rattle.keymap.specs.Key.{Key}
use Rattle.keymap.specs.Map.{Map}
use Rattle.keymap.specs.Queries.{beginning, common_of_all}
use Rattle.keymap.specs.Answers.{given}
use Rattle.walks.specs.declared.stands.Stand.{Stand}
use Rattle.walks.specs.declared.glide.Glided.{Glided}
use Rattle.walks.specs.Rule.{counts, value_of_node}
use Rattle.walks.specs.Stands.{kids_from, kid_from}

abbrev pub common_of : Map → Key → Key
common_of m p = common_of_all (beginning p m)

unfoldable pub goes_through : List ℕ → List ℕ → (ℕ → ℕ) → ℕ → Stand → Bool
goes_through ls vs b len s =
    not (given (value_of_node ls vs s.node))
    && (eqb (kids_from b len s).count 1 && counts (length ls) s.node (kids_from b len s).first)

unfoldable pub only_kid : (ℕ → ℕ) → ℕ → Stand → Stand
only_kid b len s = kid_from b len s.node (kids_from b len s).next (kids_from b len s).first

abbrev pub onward_from : List ℕ → List ℕ → (ℕ → ℕ) → ℕ → Stand → Option Stand
onward_from ls vs b len s = cond (goes_through ls vs b len s) (Some (only_kid b len s)) None

-- after some steps, with at most `left` more
unfoldable pub glides : List ℕ → List ℕ → (ℕ → ℕ) → ℕ → ℕ → Stand → ℕ → Glided
glides ls vs b len zero s steps = record { stand = s; steps = steps }
glides ls vs b len (suc left) s steps =
    cond (goes_through ls vs b len s) (glides ls vs b len left (only_kid b len s) (steps + 1))
    (record { stand = s; steps = steps })

-- a child that counts has a number above its node's and at most n+1, so there are no more steps than numbers from the
-- node's to that
unfoldable pub glided_from : List ℕ → List ℕ → (ℕ → ℕ) → ℕ → Stand → Glided
glided_from ls vs b len s = glides ls vs b len (length ls + 1 - s.node) s 0
