-- Whether a node is a top or below it, on any bits: it or one of the nodes on the way up from it is the top. Numbers
-- fall on the way up,
-- so the climb ends at the first that is not above the top's.
-- Assumes nothing.
use Rattle.std.specs.Prelude.{ℕ, zero, suc, Bool, false, cond, eqb, ltb, Option, None, Some}
use Rattle.climbs.specs.Perches.{parent_by}

-- from where a climb is; the first number bounds the steps
unfoldable pub meets : (ℕ → ℕ) → ℕ → ℕ → ℕ → Option ℕ → Bool
meets b len top zero None = false
meets b len top zero (Some k) = eqb k top
meets b len top (suc left) None = false
meets b len top (suc left) (Some k) = cond (ltb top k) (meets b len top left (parent_by b len k)) (eqb k top)

-- the node's own number bounds the climb
unfoldable pub below_by : (ℕ → ℕ) → ℕ → ℕ → ℕ → Bool
below_by b len top m = meets b len top m (Some m)
