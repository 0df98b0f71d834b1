-- Words with a run of bits set, as build sets the ones of a node's children.
-- Assumes nothing.
use Rattle.std.specs.Prelude.{ℕ, zero, suc, List}
use Rattle.louds.specs.Put.{with_one}

-- ones at p, p + 1, .., d of them
unfoldable pub with_run : List ℕ → (p d : ℕ) → List ℕ
with_run ws p zero = ws
with_run ws p (suc d) = with_run (with_one ws p) (suc p) d
