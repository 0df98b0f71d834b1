use mathlib.Core.Path.{sym, ◌∙◌}
use native.Mathlib.Omega.{arith}
use Rattle.louds.proofs.Laws.Words.{one-shl-pos}
use Rattle.image.proofs.Laws.WordWalks.{siblings-start, siblings-inside, siblings-end, Run, run_of}
use Rattle.image.proofs.word_test.siblings_fit.Goals.{After-ones_in}
use Rattle.image.proofs.word_test.siblings_fit.Goals as goal

pub loop-y-init : goal.loop-y-init
loop-y-init c = let a = c.args in siblings-start a.labels.now a.x a.prev a.before

pub overflow_shr-y : goal.overflow_shr-y
overflow_shr-y c =
    let a = c.args in
    let l = c.loop-y in
    omega (arith, c.lowest_one-t.ensures, siblings-inside a.labels.now a.x a.prev a.before l.y l.invariant c.loop-y-test.true c.ranges.x.fits)

pub overflow_shl-t : goal.overflow_shl-t
overflow_shl-t c = omega (arith, c.lowest_one-t.ensures, siblings-inside c.args.labels.now c.args.x c.args.prev c.args.before c.loop-y.y c.loop-y.invariant c.loop-y-test.true c.ranges.x.fits)

pub overflow_sub-t : goal.overflow_sub-t
overflow_sub-t c = one-shl-pos c.lowest_one-t.result (omega (arith, c.lowest_one-t.ensures, siblings-inside c.args.labels.now c.args.x c.args.prev c.args.before c.loop-y.y c.loop-y.invariant c.loop-y-test.true c.ranges.x.fits))

-- what a turn finds
abbrev found : (c : After-ones_in)
    → Run c.args.labels.now c.args.x c.args.prev c.args.before c.loop-y.y c.lowest_one-t.result c.lowest_one-run.result c.ones_in.result
found c =
    let a = c.args in
    let l = c.loop-y in
    run_of a.labels.now a.x a.prev a.before l.y l.invariant c.loop-y-test.true c.ranges.x.fits
    c.lowest_one-t.result c.lowest_one-run.result c.lowest_one-t.ensures c.lowest_one-run.ensures c.requires c.ones_in.result c.ones_in.ensures

pub overflow_add-m : goal.overflow_add-m
overflow_add-m c = let f = found c in omega (arith, f.high, f.low)

pub overflow_sub-m : goal.overflow_sub-m
overflow_sub-m c = (found c).low

pub labels_rise-requires : goal.labels_rise-requires
labels_rise-requires c = (found c).high

pub returns-then-not-labels_rise : goal.returns-then-not-labels_rise
returns-then-not-labels_rise c = sym ((found (goal.at.returns-then-not-labels_rise c).After-ones_in).stop (sym c.labels_rise.ensures ∙ c.if-not-labels_rise.true))

pub overflow_add-t : goal.overflow_add-t
overflow_add-t c = omega (arith, (found (goal.at.overflow_add-t c).After-ones_in).within)

pub loop-y-smaller : goal.loop-y-smaller
loop-y-smaller c = omega (arith, c.without_low-y.ensures, (found (goal.at.loop-y-smaller c).After-ones_in).less)

pub loop-y-preserved : goal.loop-y-preserved
loop-y-preserved c = rw c.without_low-y.ensures ((found (goal.at.loop-y-preserved c).After-ones_in).turn (sym c.labels_rise.ensures ∙ c.if-not-labels_rise.false))

pub returns : goal.returns
returns c =
    let a = c.args in
    let l = c.loop-y in
    sym (siblings-end a.labels.now a.x a.prev a.before l.y l.invariant c.loop-y-test.false)
