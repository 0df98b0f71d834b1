use mathlib.Core.Path.{refl, sym, ◌∙◌, subst}
use Prim.Native.Nat.{◌+◌, ◌-◌, ◌≤◌}
use native.Mathlib.Omega.{arith}
use lib.ListN.{length}
use lib.Bits.{bit_and}
use Rattle.louds.proofs.Laws.Digits.{some-positive, cleared-less}
use Rattle.image.proofs.Laws.WordWalks.{LeavesKept, leaves_none, leaves-start, leaves-high, leaves-root, leaves-unmarked, leaves-marked, leaves-end, none-bad}
use Rattle.image.proofs.word_test.leaves_fit.Goals.{In-loop-rest, then-labels-m-lt-MARK, else-labels-m-lt-MARK}
use Rattle.image.proofs.word_test.leaves_fit.Goals as goal

pub returns-then-zeros-lone-eq0 : goal.returns-then-zeros-lone-eq0
returns-then-zeros-lone-eq0 c = let a = c.args in sym (leaves_none a.labels.now a.zeros a.lone a.before c.if-zeros-lone-eq0.true)

pub loop-m-init : goal.loop-m-init
loop-m-init c = let a = c.args in leaves-start a.labels.now a.zeros a.lone a.before

pub returns-then-rest-eq0 : goal.returns-then-rest-eq0
returns-then-rest-eq0 c =
    let a = c.args in
    let l = c.loop-m in
    sym (none-bad a.lone) ∙ leaves-end a.labels.now a.zeros a.lone a.before l.rest l.m 0 l.invariant c.if-rest-eq0.true

pub overflow_sub-rest : goal.overflow_sub-rest
overflow_sub-rest c = some-positive c.loop-m.rest c.if-rest-eq0.false

pub loop-m-preserved : goal.loop-m-preserved
loop-m-preserved c =
    let a = c.args in
    let l = c.loop-m in
    leaves-root a.labels.now a.zeros a.lone a.before l.rest l.m 0 l.invariant c.if-rest-eq0.false c.ranges.zeros.fits c.loop-m-test.true refl

pub loop-rest-init : goal.loop-rest-init
loop-rest-init c = (c.loop-m-test.false, c.loop-m.invariant)

pub overflow_sub-next : goal.overflow_sub-next
overflow_sub-next c = some-positive c.loop-rest.rest c.loop-rest-test.true

pub overflow_sub-m : goal.overflow_sub-m
overflow_sub-m c = c.loop-rest.invariant.0

-- node m has an entry
high : (c : In-loop-rest) → c.loop-rest.m ≤ length c.args.labels.now + 1
high c =
    let a = c.args in
    let l = c.loop-rest in
    leaves-high a.labels.now a.zeros a.lone a.before l.rest l.m l.bad l.invariant.1 c.loop-rest-test.true c.ranges.zeros.fits (length a.labels.now) c.requires

pub offset_bounds-labels-m : goal.offset_bounds-labels-m
offset_bounds-labels-m c = omega (arith, high c)

pub bounds-labels-m : goal.bounds-labels-m
bounds-labels-m c = omega (arith, high (goal.at.bounds-labels-m c).In-loop-rest, c.loop-rest.invariant.0)

pub overflow_add-m-in-loop-rest : goal.overflow_add-m-in-loop-rest
overflow_add-m-in-loop-rest c = omega (arith, high (goal.at.overflow_add-m-in-loop-rest c).In-loop-rest)

pub loop-rest-smaller : goal.loop-rest-smaller
loop-rest-smaller c = cleared-less c.loop-rest.rest c.loop-rest-test.true

pub loop-rest-preserved : goal.loop-rest-preserved
loop-rest-preserved c =
    let a = c.args in
    let l = c.loop-rest in
    let some = c.loop-rest-test.true in
    let kept = LeavesKept a.labels.now a.zeros a.lone a.before (bit_and l.rest (l.rest - 1)) (l.m + 1) in (
      omega arith,
      elim c.if-labels-m-lt-MARK.branch [
        | then-labels-m-lt-MARK t ↦ subst kept (sym t.bad-is) (leaves-unmarked a.labels.now a.zeros a.lone a.before l.rest l.m l.bad l.invariant.1 some c.ranges.zeros.fits l.invariant.0 t.if-labels-m-lt-MARK.true)
        | else-labels-m-lt-MARK t ↦ subst kept (sym t.bad-is) (leaves-marked a.labels.now a.zeros a.lone a.before l.rest l.m l.bad l.invariant.1 some c.ranges.zeros.fits l.invariant.0 t.if-labels-m-lt-MARK.false)
      ],
    )

pub returns : goal.returns
returns c =
    let a = c.args in
    let l = c.loop-rest in
    leaves-end a.labels.now a.zeros a.lone a.before l.rest l.m l.bad l.invariant.1 c.loop-rest-test.false
