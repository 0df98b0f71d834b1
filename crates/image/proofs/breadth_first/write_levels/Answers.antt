use Prim.Native.Nat.{ℕ}
use mathlib.Core.Path.{◌≡◌, refl, ap, ◌∙◌}
use mathlib.Core.List.{List}
use native.Mathlib.Omega.{arith}
use lib.ListN.{replicate}
use Rattle.keymap.specs.Bits.{words_for}
use Rattle.keymap.specs.Image.{bits_for}
use Rattle.louds.specs.Put.{with_one}
use Rattle.keymap.specs.Buffers.{over}
use Rattle.image.specs.Build.{Levels}
use Rattle.image.proofs.Laws.Turns.{turn-first, turn-length, turn-room, turn-place, turn-asks, turn-next, turn-queue, turn-words}
use Rattle.image.proofs.breadth_first.write_levels.Goals.{After-slice_known-4-1}
use Rattle.image.proofs.breadth_first.write_levels.Goals as goal

pub clear-requires : goal.clear-requires
clear-requires c =
    omega (arith, c.words_for-count.ensures, c.requires.words-fit)

start-words : (c : After-slice_known-4-1)
    → c.put_one.new.words ≡ with_one (over (replicate (words_for (bits_for c.args.n)) 0) c.args.words.now) 0
start-words c =
    c.put_one.ensures
    ∙ ap (λ (ws : List ℕ). with_one ws 0) (c.clear.ensures ∙ ap (λ (w : ℕ). over (replicate w 0) c.args.words.now) c.words_for-count.ensures)

start-levels : (c : After-slice_known-4-1) → Levels c.args.pool.now c.args.n c.put_one.new.words c.args.queue.now
start-levels c =
    let h = c.requires in
    record { sound = h.sound; count = h.count; words-fit = omega (arith, h.words-fit, c.put_one.auto.words, c.clear.auto.words); queue-fits = h.queue-fits }

pub loop-k-init : goal.loop-k-init
loop-k-init c = let h = start-levels c in (refl, h, turn-first _ _ _ _ h _ (start-words c))

pub record_at-c-requires : goal.record_at-c-requires
record_at-c-requires c = let i = c.loop-k in omega (arith, turn-length _ _ _ _ i.invariant.1 _ _ _ _ _ i.invariant.2, i.invariant.1.queue-fits, c.loop-k-test.true)

pub queue_children-d-requires : goal.queue_children-d-requires
queue_children-d-requires c =
    let i = c.loop-k in turn-asks _ _ _ _ i.invariant.1 _ _ _ _ _ i.invariant.2 (omega arith) _ c.record_at-c.ensures (omega (arith, c.ranges.n))

pub overflow_add-tail : goal.overflow_add-tail
overflow_add-tail c =
    let i = c.loop-k in omega (arith, c.queue_children-d.ensures.count, turn-room _ _ _ _ i.invariant.1 _ _ _ _ _ i.invariant.2 (omega arith) _ c.record_at-c.ensures, c.ranges.n)

pub overflow_add-at : goal.overflow_add-at
overflow_add-at c =
    let i = c.loop-k in omega (arith, c.queue_children-d.ensures.count, turn-room _ _ _ _ i.invariant.1 _ _ _ _ _ i.invariant.2 (omega arith) _ c.record_at-c.ensures, c.ranges.n)

pub overflow_add-at-in-loop-k : goal.overflow_add-at-in-loop-k
overflow_add-at-in-loop-k c =
    let i = c.loop-k in omega (arith, c.queue_children-d.ensures.count, turn-place _ _ _ _ i.invariant.1 _ _ _ _ _ i.invariant.2 (omega arith) _ c.record_at-c.ensures, c.ranges.n)

pub loop-k-preserved : goal.loop-k-preserved
loop-k-preserved c =
    let i = c.loop-k in
    let q = c.queue_children-d in (
      q.auto.words ∙ i.invariant.0,
      i.invariant.1,
      turn-next _ _ _ _ i.invariant.1 _ _ _ _ _ i.invariant.2 (omega arith) _ c.record_at-c.ensures _ _ _ q.ensures.count q.ensures.ones q.ensures.queued,
    )

pub shape_of-words : goal.shape_of-words
shape_of-words c =
    c.loop-k.invariant.0 ∙ c.put_one.auto.words ∙ c.clear.auto.words

pub shape_of-queue : goal.shape_of-queue
shape_of-queue c = let i = c.loop-k in turn-length _ _ _ _ i.invariant.1 _ _ _ _ _ i.invariant.2

pub returns : goal.returns
returns c =
    let i = c.loop-k in
    let l = c.loop-k-test.false in record { bits = turn-words _ _ _ _ i.invariant.1 _ _ _ _ _ i.invariant.2 (omega arith) (omega arith) _ (start-words (goal.at.returns c).After-slice_known-4-1); order = turn-queue _ _ _ _ i.invariant.1 _ _ _ _ _ i.invariant.2 (omega arith) (omega arith) }
