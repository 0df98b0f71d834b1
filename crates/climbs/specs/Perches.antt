-- Going up, on any bits. "The parent of node m has as its number the count of zeros before the m-th one" (01); it
-- counts only if that number is from 1 to m-1,
-- which an accepted image has of every node of 2 or more, so a climb ends on any bits.
--
--     parent_by      the rule: the parent of a node
--     depth_by       how many parents are above a node
--     perch_at       a node with the place of its one, or the end
--     has_parent     the test of a perch
--     parent_from    the parent of a perch, as the code finds it: its one lies before the perch's
--     perch_of       the perch at the node where a step ended
-- Assumes nothing.
use Rattle.std.specs.Prelude.{ℕ, zero, suc, ◌-◌, Bool, cond, ◌&&◌, ltb, leb, Option, None, Some, unwrap_or}
use Rattle.louds.specs.Select.{one_at, one_back}
use Rattle.louds.specs.Nodes.{parent_of}
use Rattle.climbs.specs.declared.perches.Perch.{Perch}

abbrev pub below : ℕ → Option ℕ → Option ℕ
below m None = None
below m (Some k) = cond (leb 1 k && ltb k m) (Some k) None

unfoldable pub parent_by : (ℕ → ℕ) → ℕ → ℕ → Option ℕ
parent_by b len m = below m (parent_of b len m)

-- how many nodes there are on the way up from where a climb is; the first number bounds the steps
unfoldable pub climbs : (ℕ → ℕ) → ℕ → ℕ → Option ℕ → ℕ
climbs b len zero at = 0
climbs b len (suc left) None = 0
climbs b len (suc left) (Some k) = suc (climbs b len left (parent_by b len k))

-- a parent's number is below its child's, so the node's own bounds the climb
unfoldable pub depth_by : (ℕ → ℕ) → ℕ → ℕ → ℕ
depth_by b len m = climbs b len m (parent_by b len m)

abbrev pub perch_at : (ℕ → ℕ) → ℕ → ℕ → Perch
perch_at b len m = record { node = m; one = unwrap_or (one_at b len m) len }

-- p - (m - 1) zeros stand before the m-th one, if it is at p
unfoldable pub has_parent : ℕ → ℕ → ℕ → Bool
has_parent len m p = ltb p len && (leb 1 m && (leb m p && ltb (p - (m - 1)) m))

unfoldable pub parent_from : (ℕ → ℕ) → ℕ → Perch → Option Perch
parent_from b len at =
    let up = at.one - (at.node - 1) in
    cond (has_parent len at.node at.one)
    (Some (record { node = up; one = unwrap_or (one_back b at.one (at.node - up)) at.one })) None

abbrev pub perch_of : (ℕ → ℕ) → ℕ → Option ℕ → Option Perch
perch_of b len None = None
perch_of b len (Some k) = Some (perch_at b len k)
