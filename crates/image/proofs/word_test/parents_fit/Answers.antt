use mathlib.Core.Path.{sym}
use native.Mathlib.Omega.{arith}
use lib.Count.{ones-le, trailing_le}
use Rattle.louds.proofs.Laws.Digits.{some-positive, cleared-less}
use Rattle.image.proofs.Laws.WordWalks.{parents-all, parents-start, parents-few, parents-stop, parents-turn, parents-end}
use Rattle.image.proofs.word_test.parents_fit.Goals as goal

pub overflow_add-before : goal.overflow_add-before
overflow_add-before c = omega (arith, c.ones_in.ensures, ones-le 64 c.args.x c.ranges.x.fits, c.requires)

pub returns-then-at-before : goal.returns-then-at-before
returns-then-at-before c =
    sym (parents-all c.args.x c.args.at c.args.before c.ranges.x.fits (rw (sym c.ones_in.ensures) c.if-at-before.true))

pub loop-rest-init : goal.loop-rest-init
loop-rest-init c = let a = c.args in parents-start a.x a.at a.before

pub overflow_mul-m : goal.overflow_mul-m
overflow_mul-m c =
    let l = c.loop-rest in
    omega (arith, parents-few c.args.x c.args.at c.args.before l.rest l.m l.invariant, c.requires)

pub overflow_add-at-in-loop-rest : goal.overflow_add-at-in-loop-rest
overflow_add-at-in-loop-rest c = omega (arith, c.lowest_one.ensures, trailing_le 64 c.loop-rest.rest, c.requires)

pub returns-then-m-at : goal.returns-then-m-at
returns-then-m-at c =
    let a = c.args in
    let l = c.loop-rest in
    sym (parents-stop a.x a.at a.before l.rest l.m l.invariant c.loop-rest-test.true c.ranges.x.fits
    (rw (sym c.lowest_one.ensures) c.if-m-at.true))

pub overflow_sub-rest : goal.overflow_sub-rest
overflow_sub-rest c = some-positive c.loop-rest.rest c.loop-rest-test.true

pub overflow_add-m : goal.overflow_add-m
overflow_add-m c =
    let a = c.args in
    let l = c.loop-rest in
    omega (arith, parents-few a.x a.at a.before l.rest l.m l.invariant, c.requires)

pub loop-rest-smaller : goal.loop-rest-smaller
loop-rest-smaller c = cleared-less c.loop-rest.rest c.loop-rest-test.true

pub loop-rest-preserved : goal.loop-rest-preserved
loop-rest-preserved c =
    let a = c.args in
    let l = c.loop-rest in
    parents-turn a.x a.at a.before l.rest l.m l.invariant c.loop-rest-test.true c.ranges.x.fits
    (rw (sym c.lowest_one.ensures) c.if-m-at.false)

pub returns : goal.returns
returns c =
    let a = c.args in
    let l = c.loop-rest in
    sym (parents-end a.x a.at a.before l.rest l.m l.invariant c.loop-rest-test.false)
