-- The steps of specs/Order as the code takes them: a perch knows the place of its node's one, a child's one lies ahead
-- of it and a parent's behind.
-- Any node number and any place may be handed in; proofs/Laws/Moves has that a perch which knows its one gives what the
-- rule gives.
--
--     leads          a perch may have children: fewer zeros than its node's number stand before its one
--     first_from     the first child of a perch
--     beside_from    its next sibling
--     climb_from     the next sibling of the nearest that has one
--     advance_from   the next perch below a top
-- Assumes nothing.
use Rattle.std.specs.Prelude.{ℕ, zero, suc, ◌+◌, ◌-◌, Bool, cond, ◌&&◌, eqb, ltb, leb, Option, None, Some}
use Rattle.std.specs.Option.{option_or}
use Rattle.louds.specs.Select.{zero_from}
use Rattle.walks.specs.Rule.{counts_to}
use Rattle.climbs.specs.declared.perches.Perch.{Perch}
use Rattle.climbs.specs.Perches.{parent_from}
use Rattle.climbs.specs.Order.{one_behind}

-- p + 1 - m zeros stand before the m-th one, if it is at p
unfoldable pub leads : ℕ → ℕ → ℕ → Bool
leads len m p = ltb p len && (leb 1 m && (leb m (p + 1) && ltb (p + 1 - m) m))

-- the first child of node m, whose zero is at a place
abbrev pub behind_zero : (ℕ → ℕ) → ℕ → ℕ → ℕ → Option ℕ → Option Perch
behind_zero b len last m None = None
behind_zero b len last m (Some z) =
    cond (one_behind b len z && counts_to last m (z + 2 - m)) (Some (record { node = z + 2 - m; one = z + 1 })) None

unfoldable pub first_from : (ℕ → ℕ) → ℕ → ℕ → Perch → Option Perch
first_from b len last at =
    cond (leads len at.node at.one)
    (behind_zero b len last at.node (zero_from b len at.one (at.node - (at.one + 1 - at.node)))) None

unfoldable pub beside_from : (ℕ → ℕ) → ℕ → ℕ → Perch → Option Perch
beside_from b len last at =
    cond (ltb at.node last && one_behind b len at.one)
    (Some (record { node = at.node + 1; one = at.one + 1 })) None

-- from where a climb is, up to the top; the last number bounds the steps
unfoldable pub climbed_rise : (ℕ → ℕ) → ℕ → ℕ → ℕ → ℕ → Option Perch → Option Perch
climbed_rise b len last top zero at = None
climbed_rise b len last top (suc left) None = None
climbed_rise b len last top (suc left) (Some at) =
    cond (eqb at.node top) None
    (option_or (beside_from b len last at) (climbed_rise b len last top left (parent_from b len at)))

unfoldable pub climb_from : (ℕ → ℕ) → ℕ → ℕ → ℕ → Perch → Option Perch
climb_from b len last top at = climbed_rise b len last top (suc at.node) (Some at)

abbrev pub advance_from : (ℕ → ℕ) → ℕ → ℕ → ℕ → Perch → Option Perch
advance_from b len last top at = option_or (first_from b len last at) (climb_from b len last top at)
