use mathlib.Core.Path.{sym, ◌∙◌}
use Rattle.pool.proofs.Laws.Entering.{enter-all-end, last-entered-end, enter-all-step, last-entered-step, can-enter-here, can-enter-on}
use Rattle.pool.proofs.path.enter_all.Goals as goal

pub enter-last-requires : goal.enter-last-requires
enter-last-requires c = rw c.from.ensures (can-enter-here _ _ _ _ c.loop-label-test.true c.loop-label.invariant.1)

pub loop-label-preserved : goal.loop-label-preserved
loop-label-preserved c =
    let l = c.loop-label in
    let e = rw c.from.ensures at c.enter-last.ensures.1 in
    (c.enter-last.auto.pool ∙ l.invariant.0, can-enter-on _ _ _ _ c.loop-label-test.true l.invariant.1 _ _ e c.enter-last.ensures.0, l.invariant.2 ∙ last-entered-step _ _ _ _ c.loop-label-test.true ∙ rw (e, c.enter-last.ensures.0), l.invariant.3 ∙ enter-all-step _ _ _ _ c.loop-label-test.true ∙ rw (e, c.enter-last.ensures.0))

pub returns : goal.returns
returns c = (sym (c.loop-label.invariant.2 ∙ last-entered-end _ _ _ _ c.loop-label-test.false), sym (c.loop-label.invariant.3 ∙ enter-all-end _ _ _ _ c.loop-label-test.false))
