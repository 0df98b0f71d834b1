use Prim.Native.Nat.{◌-◌, ◌+◌}
use mathlib.Core.Path.{◌≡◌, sym, ◌∙◌}
use native.Mathlib.Omega.{arith}
use Rattle.records.specs.Words.{last_record}
use Rattle.pool.proofs.Laws.Siblings.{slot-of-start, slot-from-out, slot-from-end, slot-from-here, slot-from-step}
use Rattle.pool.proofs.siblings.slot_of.Goals.{then-slot-eq0-via-then-slot-eq0, then-slot-eq0-via-else-slot-eq0+then-b-label_of}
use Rattle.pool.proofs.siblings.slot_of.Goals as goal

pub loop-init : goal.loop-init
loop-init c =
    let z : c.last_record-end.result - 0 ≡ last_record c.args.pool.now = omega (arith, c.last_record-end.ensures) in
    slot-of-start _ _ _ ∙ rw (z, c.first_child.ensures)

pub loop-preserved : goal.loop-preserved
loop-preserved c =
    let z : c.last_record-end.result - (c.loop.counter + 1) ≡ c.last_record-end.result - c.loop.counter - 1 = omega arith in
    c.loop.invariant ∙ slot-from-step _ _ _ _ _ (omega arith) c.if-slot-eq0.false (omega (arith, c.label_of.ensures)) ∙ rw (z, c.next_sibling.ensures)

pub returns-then-slot-eq0 : goal.returns-then-slot-eq0
returns-then-slot-eq0 c =
    sym (c.loop.invariant ∙ elim c.then-slot-eq0.branch [
      | then-slot-eq0-via-then-slot-eq0 w ↦ slot-from-end _ _ _ _ _ w.if-slot-eq0.true
      | then-slot-eq0-via-else-slot-eq0+then-b-label_of w ↦ slot-from-here _ _ _ _ _ w.if-slot-eq0.false (omega (arith, w.label_of.ensures))
    ])

pub returns-after-loop : goal.returns-after-loop
returns-after-loop c = sym (c.loop.invariant ∙ slot-from-out _ _ _ _ _ (omega arith))
