use Prim.Native.Nat.{ℕ}
use mathlib.Core.Path.{sym, subst}
use native.Mathlib.Omega.{arith}
use Rattle.records.specs.Words.{next_sibling}
use Rattle.records.specs.Sound.{Chain}
use Rattle.image.specs.LevelOrder.{child_records}
use Rattle.image.proofs.Laws.Queueing.{queueing-first, queueing-more, queueing-next, queueing-last}
use Rattle.image.proofs.breadth_first.queue_children.Goals as goal

pub loop-x-init : goal.loop-x-init
loop-x-init c =
    let a = c.args in
    queueing-first _ _ _ _ _ _ _ (subst (λ (y : ℕ). Chain (next_sibling a.pool.now) y (child_records a.pool.now a.c)) (sym c.first_child-x.ensures) c.requires.chain)

pub overflow_add-queue : goal.overflow_add-queue
overflow_add-queue c =
    omega (arith, queueing-more _ _ _ _ _ _ _ _ _ _ c.loop-x.invariant c.loop-x-test.true, c.requires.room)

pub offset_bounds-queue-tail : goal.offset_bounds-queue-tail
offset_bounds-queue-tail c =
    omega (arith, queueing-more _ _ _ _ _ _ _ _ _ _ c.loop-x.invariant c.loop-x-test.true, c.requires.room, c.well_formed)

pub bounds-queue-tail : goal.bounds-queue-tail
bounds-queue-tail c =
    omega (arith, queueing-more _ _ _ _ _ _ _ _ _ _ c.loop-x.invariant c.loop-x-test.true, c.requires.room, c.loop-x.invariant.queue_long)

pub overflow_add-at : goal.overflow_add-at
overflow_add-at c =
    omega (arith, queueing-more _ _ _ _ _ _ _ _ _ _ c.loop-x.invariant c.loop-x-test.true, c.requires.near)

pub overflow_add-d : goal.overflow_add-d
overflow_add-d c =
    omega (arith, queueing-more _ _ _ _ _ _ _ _ _ _ c.loop-x.invariant c.loop-x-test.true, c.requires.near)

pub loop-x-smaller : goal.loop-x-smaller
loop-x-smaller c =
    omega (arith, queueing-more _ _ _ _ _ _ _ _ _ _ c.loop-x.invariant c.loop-x-test.true)

pub loop-x-preserved : goal.loop-x-preserved
loop-x-preserved c =
    let q = queueing-next _ _ _ _ _ _ _ _ _ _ c.loop-x.invariant c.loop-x-test.true in rw (c.put_one.ensures, c.next_sibling-x.ensures) q

pub shape_of-words : goal.shape_of-words
shape_of-words c = c.loop-x.invariant.words_long

pub shape_of-queue : goal.shape_of-queue
shape_of-queue c = c.loop-x.invariant.queue_long

pub returns : goal.returns
returns c = let r = queueing-last _ _ _ _ _ _ _ _ _ _ c.loop-x.invariant c.loop-x-test.false in record { count = r.0; ones = r.1; queued = r.2 }
