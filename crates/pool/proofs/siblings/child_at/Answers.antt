-- `pool::siblings::child_at` meets its contract: the test says which case of `child_at` holds. Assumes nothing.
use native.Mathlib.Omega.{arith}
use Rattle.pool.proofs.Laws.Siblings.{child-here, child-end, child-none}
use Rattle.pool.proofs.siblings.child_at.Goals.{else-next-ne0-via-then-next-ne0+else-label_of-b, else-next-ne0-via-else-next-ne0}
use Rattle.pool.proofs.siblings.child_at.Goals as goal

pub returns-then-label_of-b : goal.returns-then-label_of-b
returns-then-label_of-b c = child-here _ _ _ _ c.slot_of-next.ensures c.if-next-ne0.true (omega (arith, c.label_of.ensures))

pub returns : goal.returns
returns c =
    elim c.else-next-ne0.branch [
      | else-next-ne0-via-then-next-ne0+else-label_of-b w ↦ child-none _ _ _ _ c.slot_of-next.ensures w.if-next-ne0.true (λ e. w.if-label_of-b.false (omega (arith, w.label_of.ensures)))
      | else-next-ne0-via-else-next-ne0 w ↦ child-end _ _ _ _ c.slot_of-next.ensures w.if-next-ne0.false
    ]
